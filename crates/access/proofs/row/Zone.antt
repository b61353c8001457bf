-- The bytes of a well-formed zone from its first block on are a stretch, and its blocks are those of the zone's structure.
use mathlib.Core.Path.{◌≡◌, sym, ap₂, ◌∙◌}
use mathlib.Core.List.{List, [], ◌∷◌}
use mathlib.Core.Bool.{Bool, true, false}
use Prim.Native.Nat.{ℕ, ◌<◌, ◌≤◌}
use native.Mathlib.Omega.{arith}
use lib.ListN.{length, drop}
use Rattle.format.specs.Occurs.{occurs}
use Rattle.block_type.specs.Limits.{longest_zone, zone_header, handle_range}
use Rattle.kinds.proofs.KindLaws.{ok_of}
use Rattle.format.specs.WellFormed.{first_field}
use Rattle.structure.specs.Structure.{Block, cell, fixed, Structure, count, decode_zone, handles_of}
use Rattle.structure.specs.Valid.{Tiled, Valid}
use Rattle.structure.proofs.Table.{Whole, encode-zone, start_is}
use Rattle.structure.proofs.Sound.{valid-zone}
use Rattle.structure.proofs.Round.{offset-is, rest-is}
use Rattle.bay.specs.Bay.{free, held}
use Rattle.structure.specs.IsZone.{IsZone}
use Rattle.structure.proofs.IsZone.{whole_of}
use Rattle.structure.proofs.Append.{occurs-own, occurs-held}
use Rattle.access.specs.row.Row.{Sound, Row, row, blocks_of}
use Rattle.access.specs.row.Begins.{Begins}

-- ---- the sizes of a valid structure's blocks

tiled-sound : (prev : Bool) (bs : List Block) → Tiled prev bs → ((h : ℕ) → 0 < occurs h (handles_of bs) → h < handle_range) → Sound bs
unfolding handles_of occurs
tiled-sound prev [] t f = tt
tiled-sound prev (cell (free n) ∷ bs) t f = ((t.1, t.2, t.3), tiled-sound true bs t.4 f)
tiled-sound prev (fixed d ∷ bs) t f = ((t.0, t.1), tiled-sound false bs t.3 f)
tiled-sound prev (cell (held e) ∷ bs) t f = ((t.0, t.1, ok_of e t.2 (λ h q. f h (occurs-own h e bs q))), tiled-sound false bs t.3 (λ k l. f k (omega (arith, occurs-held k e bs))))

pub valid-sound : (s : Structure) → Valid s → Sound s.blocks
valid-sound s v = tiled-sound false s.blocks v.tiled (λ h l. let q = offset-is h zone_header (count s) (omega (arith, v.owned h)) in omega (arith, q.1, v.few))

-- ---- the zone; its blocks begin at `first`

pub blocks-are : (z : List ℕ) (first : ℕ) → first ≡ first_field z → blocks_of (drop first z) ≡ (decode_zone z).blocks
unfolding blocks_of decode_zone
blocks-are z first e = rw e

module _ (z : List ℕ) (i : IsZone z) (first : ℕ) (ef : first ≡ first_field z) where
  w : Whole z
  w = whole_of z i

  pub zone-row : Row (drop first z)
  zone-row =
      let s = decode_zone z in
      let v = valid-zone z w in
      row s.blocks (valid-sound s v) (ap₂ (λ (k : ℕ) (y : List ℕ). drop k y) (ef ∙ sym (start_is z w)) (sym (encode-zone z w)) ∙ rest-is s v)

  pub zone-first : zone_header ≤ first
  zone-first = omega (arith, w.begin)

  pub zone-start : first ≤ length z
  zone-start = omega (arith, w.within)

  pub zone-short : length z ≤ longest_zone
  zone-short = omega (arith, w.limit, w.all)

  pub begins : Begins z first
  begins = record { first_is = ef; header = zone-first; within = zone-start; short = zone-short; row = zone-row }
