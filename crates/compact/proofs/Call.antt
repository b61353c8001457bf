-- The plan and the call.
use mathlib.Core.Path.{◌≡◌, refl, sym, ap}
use mathlib.Core.List.{List, [], ◌∷◌, ◌++◌}
use Prim.Native.Nat.{ℕ, ◌≤◌}
use native.Mathlib.Omega.{arith}
use lib.ListN.{length, get_or, take, drop}
use mir.Val.{Fits}
use mir.Syntax.{w8, w32}
use Rattle.structure.specs.Structure.{Structure, fixed, sizes, start, decode_zone, encode}
use Rattle.structure.proofs.Sound.{valid-zone}
use Rattle.calls.specs.Calls.{told, compact}
use Rattle.calls.specs.Bays.{Bays, last, more, max_s}
use Rattle.calls.specs.State.{Fixed}
use Rattle.bay.specs.Bay.{Cell, bay_sum}
use Rattle.bay.proofs.Laws.{bsize-split}
use Rattle.zone.specs.Call.{result_of, call}
use Rattle.zone.specs.Group.{group, flatten}
use Rattle.zone.proofs.GroupLaws.{flatten-group}
use Rattle.bays.proofs.At.{bay-sizes}
use Rattle.format.specs.WellFormed.{first_field}
use Rattle.access.specs.Checked.{Opened}
use Rattle.access.specs.row.Begins.{Begins}
use Rattle.access.specs.declared.opened.Zone.{Zone}
use Rattle.call_laws.specs.Frame.{Does}
use Rattle.call_laws.proofs.Refused.{zone-done}
use Rattle.compact.specs.Compacted.{largest, compacted}
use Rattle.structure.proofs.IsZone.{whole_of}

does : (z : List ℕ) (buf v : ℕ) → v ≡ largest (decode_zone z) → Does compact buf z (told 0 v) (compacted (decode_zone z))
does z buf v e = record { passed = refl; answer = ap (told 0) (sym e); line = refl }

-- no sum is more than all blocks
most-le : (s : Bays (List Cell) Fixed) → max_s bay_sum s ≤ sizes (flatten s)
unfolding sizes
most-le (last b) = omega (arith, bay-sizes b [], bsize-split b)
most-le (more b x s) = omega (arith, bay-sizes b (fixed x.bytes ∷ flatten s), bsize-split b, most-le s)

largest-le : (d : Structure) → largest d ≤ sizes d.blocks
largest-le d = rw (flatten-group (start d) d.blocks) at (most-le (group (start d) d.blocks))

module _ (s : List ℕ) (z : Zone) (o : Opened s z) where
  pub call-first : (first : ℕ) → Begins z.bytes.now first → first ≡ first_field (take (length z.bytes.now) s)
  call-first first b = rw o.there b.first_is

  module _ (v : ℕ) (ev : v ≡ largest (decode_zone (take (length z.bytes.now) s))) where
    pub call-word : Fits w32 v
    call-word = record { fits = omega (arith, largest-le (decode_zone (take (length z.bytes.now) s)), (valid-zone (take (length z.bytes.now) s) (whole_of (take (length z.bytes.now) s) o.has_zone.zone)).short) }

    pub call-end : (y : List ℕ) → ((i : ℕ) → Fits w8 (get_or s i 0)) → y ≡ encode (compacted (decode_zone (take (length z.bytes.now) s)))
        → result_of (told 0 v) (y ++ drop (length z.bytes.now) s) ≡ call compact s
    call-end y g ey = zone-done compact s (length z.bytes.now) o.has_zone g (does (take (length z.bytes.now) s) (length s) v ev) tt refl y ey
