-- After an accepted shrink the length and the total of free bytes have fallen by what it answers.
use mathlib.Core.Path.{◌≡◌, refl, sym, ap, ap₂, ◌∙◌}
use mathlib.Core.List.{List}
use Prim.Native.Nat.{ℕ, zero, suc, ◌+◌, ◌≤◌}
use native.Mathlib.Omega.{arith}
use lib.Dec.{eqb-suc-zero}
use Rattle.bigendian.specs.BigEndian.{Bytes}
use Rattle.structure.specs.Structure.{decode}
use Rattle.calls.specs.Calls.{Answer, Call, shrink, sums, length_of}
use Rattle.calls.specs.Bays.{Bays, last, more, on_last, sum_s, last_s}
use Rattle.calls.specs.State.{total, Fixed}
use Rattle.bay.specs.Bay.{Cell, bay_sum, take_high}
use Rattle.zone.specs.Work.{Zone, strip}
use Rattle.zone.specs.Call.{zone_in, call}
use Rattle.bay.proofs.Laws.{cut-less, bsize-split}
use Rattle.call_laws.proofs.Accepted.{Accepted, accepted, answered, before, after}
use Rattle.zone_end.specs.shrink.Stripped.{strips}
use Rattle.zone_end.proofs.shrink.Call.{small}

-- the total falls by what is taken off the last bay
bay-less : (k : ℕ) (b : List Cell) → k ≤ bay_sum b → bay_sum (take_high k b) + k ≡ bay_sum b
bay-less k b l = let c = cut-less k b l in omega (arith, c.size, ap total c.same, bsize-split b, bsize-split (take_high k b))

total-less : (k : ℕ) (s : Bays (List Cell) Fixed) → k ≤ bay_sum (last_s s) → sum_s bay_sum (on_last (take_high k) s) + k ≡ sum_s bay_sum s
total-less k (last b) l = bay-less k b l
total-less k (more b x s) l = omega (arith, total-less k s l)

-- what is asked of a buffer
abbrev asked : Call → List ℕ → Answer
asked c s = (call c s).answer

pub record Shrunk (k : ℕ) (s : List ℕ) : Type 0 where
  pub shorter : (asked length_of (call (shrink k) s).bytes).value + (asked (shrink k) s).value ≡ (asked length_of s).value
  pub fewer : (asked sums (call (shrink k) s).bytes).value + (asked (shrink k) s).value ≡ (asked sums s).value

-- what is stripped is taken off both
less : (m : ℕ) (z : Zone) → m ≤ z.len → m ≤ bay_sum (last_s z.bays)
    → ((strip m z).next.len + (strip m z).answer.value ≡ z.len) × (sum_s bay_sum (strip m z).next.bays + (strip m z).answer.value ≡ sum_s bay_sum z.bays)
less zero z l h = (omega arith, omega arith)
less (suc m) z l h = rw (eqb-suc-zero m) (omega arith, total-less (suc m) z.bays h)

module _ (s : List ℕ) (k : ℕ) (y : Bytes s) (e : (asked (shrink k) s).number ≡ 0) where
  a : Accepted (shrink k) s
  a = accepted (shrink k) s (λ n v. refl) refl e

  abbrev value : Answer → ℕ
  value r = r.value

  pub shrink-told : Shrunk k s
  shrink-told =
      let l = less (strips (decode s) k) (zone_in s) (small (decode s) k) (omega arith) in
      record {
        shorter = ap₂ ◌+◌ (ap value (after a y tt length_of)) (ap value (answered a y)) ∙ l.0 ∙ sym (ap value (before a y length_of));
        fewer = ap₂ ◌+◌ (ap value (after a y tt sums)) (ap value (answered a y)) ∙ l.1 ∙ sym (ap value (before a y sums));
      }
