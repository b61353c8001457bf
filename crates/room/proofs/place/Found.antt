-- The site that the search for room answers.
use mathlib.Core.Path.{◌≡◌, refl, sym, ap, ◌∙◌}
use mathlib.Core.Bool.{true}
use mathlib.Core.List.{List}
use Prim.Native.Nat.{ℕ}
use lib.Dec.{leb}
use Rattle.std.specs.Prelude.{Option, Some, None, is_some}
use Rattle.format.specs.WellFormed.{first_field}
use Rattle.structure.specs.Structure.{decode_zone}
use Rattle.structure.specs.IsZone.{IsZone}
use Rattle.calls.specs.Bays.{max_s}
use Rattle.bay.specs.Bay.{bay_sum}
use Rattle.bays.specs.Places.{bays_of, bays_at}
use Rattle.room.specs.place.Room.{low_site, LowestRoom}
use Rattle.room.specs.place.Found.{site_found}
use Rattle.room.specs.declared.place.Site.{Site}
use Rattle.room.proofs.place.LowestRoom.{low-reach, low-room}

module _ (z : List ℕ) (i : IsZone z) (first : ℕ) (ef : first ≡ first_field z) (need : ℕ) (r : Option Site) (q : site_found r ≡ low_site need first (bays_at z first)) where
  -- whether the sum of a bay reaches the need
  pub reached : leb need (max_s bay_sum (bays_of (decode_zone z))) ≡ (site_found r).found
  reached = let s = site_found r in low-reach z i first ef need s.found s.start s.end s.at s.size s.tidy q

  pub found : (p : Site) → r ≡ Some p → LowestRoom z need p.start p.end p.hole.at p.hole.size p.tidy
  found p e = low-room z i first ef need true p.start p.end p.hole.at p.hole.size p.tidy (ap site_found (sym e) ∙ q) refl

pub found-some : (r : Option Site) → (site_found r).found ≡ is_some r
found-some None = refl
found-some (Some p) = refl
