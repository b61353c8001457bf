-- The highest bay that a search finds in a zone's bytes is that of the bays of its structure.
use mathlib.Core.Path.{◌≡◌, sym, ap₂, ◌∙◌}
use mathlib.Core.List.{List}
use Prim.Native.Nat.{ℕ}
use native.Mathlib.Omega.{arith}
use lib.ListN.{length}
use Rattle.format.specs.WellFormed.{first_field}
use Rattle.structure.specs.Structure.{start, len, decode_zone}
use Rattle.structure.proofs.Table.{start_is, len_is}
use Rattle.zone.specs.Group.{group}
use Rattle.zone.proofs.Places.{Tiled}
use Rattle.bays.specs.Places.{BayN, bays_at, high_bay}
use Rattle.bays.proofs.Zone.{ZoneBays, zone-bays}
use Rattle.structure.specs.IsZone.{IsZone}
use Rattle.structure.proofs.IsZone.{whole_of}

module _ (z : List ℕ) (i : IsZone z) (first : ℕ) (ef : first ≡ first_field z) where
  b : ZoneBays z first
  b = zone-bays z i first ef

  start_of : first ≡ start (decode_zone z)
  start_of = ef ∙ sym (start_is z (whole_of z i))

  len_of : length z ≡ len (decode_zone z)
  len_of = let w = whole_of z i in omega (arith, len_is z w, w.all)

  pub zone-tiled : Tiled (start (decode_zone z)) (group (start (decode_zone z)) (decode_zone z).blocks) (len (decode_zone z))
  zone-tiled = rw (b.bays, start_of, len_of) at b.tiled

  pub zone-high : (need : ℕ) (y : BayN) → y ≡ high_bay need first (bays_at z first) → y ≡ high_bay need (start (decode_zone z)) (group (start (decode_zone z)) (decode_zone z).blocks)
  zone-high need y q = q ∙ ap₂ (high_bay need) start_of b.bays
