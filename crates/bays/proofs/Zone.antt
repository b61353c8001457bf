-- The bays of a well-formed zone are those of its structure and tiled, and its bytes are what a search asks for.
use mathlib.Core.Path.{◌≡◌, sym, ap, ap₂, ◌∙◌}
use mathlib.Core.List.{List}
use Prim.Native.Nat.{ℕ, ◌≤◌}
use native.Mathlib.Omega.{arith}
use lib.ListN.{length, drop}
use Rattle.block_type.specs.Limits.{longest_zone}
use Rattle.format.specs.WellFormed.{first_field}
use Rattle.structure.specs.Structure.{Block, Structure, count, start, len, decode_zone}
use Rattle.structure.specs.Valid.{Valid}
use Rattle.structure.proofs.Table.{Whole, start_is, len_is}
use Rattle.structure.proofs.Sound.{valid-zone}
use Rattle.access.specs.row.Row.{Row}
use Rattle.access.proofs.row.Zone.{blocks-are, zone-row, zone-start, zone-short}
use Rattle.zone.specs.Group.{group}
use Rattle.zone.proofs.Places.{Tiled}
use Rattle.zone.specs.Call.{in_bays}
use Rattle.zone.proofs.Grouped.{line-bays, whole-bays}
use Rattle.zone.proofs.Keep.{count-line}
use Rattle.bays.specs.Places.{bays_of, bays_at, BayN, own_bay, high_bay}
use Rattle.bays.proofs.High.{own-last}
use Rattle.structure.specs.IsZone.{IsZone}
use Rattle.structure.proofs.IsZone.{whole_of}

-- ---- the bays; the blocks begin at `first`

pub record ZoneBays (z : List ℕ) (first : ℕ) : Type 0 where
  pub row : Row (drop first z)
  pub low : first ≤ length z
  pub short : length z ≤ longest_zone
  pub bays : bays_at z first ≡ bays_of (decode_zone z)
  pub tiled : Tiled first (bays_at z first) (length z)

module _ (z : List ℕ) (i : IsZone z) (first : ℕ) (ef : first ≡ first_field z) where
  w : Whole z
  w = whole_of z i

  abbrev s : Structure
  s = decode_zone z

  v : Valid s
  v = valid-zone z w

  start_of : first ≡ start s
  start_of = ef ∙ sym (start_is z w)

  bays-are : bays_at z first ≡ bays_of s
  bays-are = ap₂ (λ (p : ℕ) (bs : List Block). group p bs) start_of (blocks-are z first ef)

  len_of : len s ≡ length z
  len_of = omega (arith, len_is z w, w.all)

  tiled-is : Tiled first (bays_at z first) (length z)
  tiled-is =
      let b = whole-bays (len s) s v (omega arith) in
      let m : b.m ≡ count s = sym (count-line (in_bays (len s) s) b) ∙ ap count (line-bays (len s) s) in
      rw (bays-are, start_of, ← len_of) (rw m at b.placed.tiled)

  pub zone-bays : ZoneBays z first
  zone-bays = record {
    row = zone-row z i first ef;
    low = zone-start z i first ef;
    short = zone-short z i first ef;
    bays = bays-are;
    tiled = tiled-is;
  }

  -- what the search for a block beyond all bays answers
  pub last-bay : (t : ℕ) → t ≡ length z → (w : BayN) → w ≡ own_bay t first (bays_at z first) → w ≡ high_bay 0 first (bays_at z first)
  last-bay t e w q = q ∙ ap (λ (k : ℕ). own_bay k first (bays_at z first)) e ∙ own-last (length z) (bays_at z first) first tiled-is
