-- What sum and length answer is the answer of the definition.
use mathlib.Core.Path.{◌≡◌, refl, ap, sym}
use mathlib.Core.List.{List}
use Prim.Native.Nat.{ℕ}
use native.Mathlib.Omega.{arith}
use lib.ListN.{length, get_or, take}
use mir.Val.{Fits}
use mir.Syntax.{w8, w32}
use Rattle.std.specs.Prelude.{[], Result, Ok, Err}
use Rattle.std.specs.Result.{IsErrAnd}
use Rattle.format.specs.WellFormed.{first_field, zone_of}
use Rattle.structure.specs.Structure.{decode}
use Rattle.calls.specs.Bays.{Bays, sum_s, max_s}
use Rattle.calls.specs.State.{Fixed}
use Rattle.calls.specs.Calls.{sums, length_of, told, told_two}
use Rattle.calls.specs.Refusals.{beside_of, answer_by}
use Rattle.calls.specs.declared.Refusal.{Refusal}
use Rattle.bay.specs.Bay.{Cell, bay_sum}
use Rattle.zone.specs.Call.{call}
use Rattle.access.specs.Checked.{Opened, IsIll}
use Rattle.access.specs.declared.opened.Zone.{Zone}
use Rattle.access.proofs.Checked.{length-is, fields-of}
use Rattle.bays.proofs.Zone.{zone-bays}
use Rattle.tell.specs.Sums.{SumsIn}
use Rattle.tell.specs.Told.{sums_of}
use Rattle.tell.specs.declared.Sums.{Sums}
use Rattle.structure.specs.IsZone.{is_zone}

-- ---- sum

module _ (s : List ℕ) where
  pub sums-ill : (r : Result Sums Refusal) (d : Refusal) → IsErrAnd r (λ y. y ≡ d) → IsIll s d → sums_of r ≡ (call sums s).answer
  sums-ill (Ok v) d k i = absurd k
  sums-ill (Err e) d k i = let q : e ≡ d = k in rw (q, i.refusal_is, i.ill)

  pub sums-done : (z : Zone) (t : Sums) → Opened s z → ((i : ℕ) → Fits w8 (get_or s i 0)) → SumsIn z.bytes.now t → told_two 0 t.total t.largest ≡ (call sums s).answer
  unfolding decode
  sums-done z t o y n =
      let h = o.has_zone in
      let m : SumsIn (take (length z.bytes.now) s) t = rw o.there n in
      rw (h.well, m.total_is, m.largest_is, h.is_len) (ap (λ (t : Bays (List Cell) Fixed). told_two 0 (sum_s bay_sum t) (max_s bay_sum t)) (zone-bays (zone_of s) (is_zone s (λ j. (y j).fits) h.well refl) (first_field (zone_of s)) refl).bays)

  -- ---- length

  pub length-ill : {T : Type 0} (f : T → ℕ) (r : Result T Refusal) (d : Refusal) → IsErrAnd r (λ y. y ≡ d) → IsIll s d → answer_by f beside_of [] r ≡ (call length_of s).answer
  length-ill f (Ok v) d k i = absurd k
  length-ill f (Err e) d k i = let q : e ≡ d = k in rw (q, i.refusal_is, i.ill)

  pub length-word : (z : Zone) → Opened s z → Fits w32 (length z.bytes.now)
  length-word z o = record { fits = omega (arith, o.has_zone.is_len, (fields-of s o.has_zone.well).limit) }

  pub length-done : (z : Zone) → Opened s z → ((i : ℕ) → Fits w8 (get_or s i 0)) → told 0 (length z.bytes.now) ≡ (call length_of s).answer
  length-done z o y = rw (o.has_zone.well, o.has_zone.is_len) (ap (told 0) (sym (length-is s (λ j. (y j).fits) o.has_zone.well)))
