-- After an accepted enlargement by k the zone is k bytes longer, and k bytes more are free. One by 0 changes no byte.
use mathlib.Core.Path.{◌≡◌, refl, sym, ap, ◌∙◌}
use mathlib.Core.Bool.{Bool, true, false}
use mathlib.Core.List.{List, []}
use Prim.Native.Nat.{ℕ, ◌+◌}
use native.Mathlib.Omega.{arith}
use lib.ListN.{length, get_or}
use mir.Val.{Fits}
use mir.Syntax.{w8}
use Rattle.bigendian.specs.BigEndian.{Bytes}
use Rattle.format.specs.WellFormed.{well_formed, length_field}
use Rattle.calls.specs.Calls.{Answer, told, enlarge, length_of, sums}
use Rattle.calls.specs.Bays.{Bays, last, more, on_last, sum_s}
use Rattle.bay.specs.Bay.{Cell, bay_sum, gap, join_bays}
use Rattle.bay.proofs.Laws.{bsum-gap, bsum-weld}
use Rattle.calls.specs.State.{Fixed}
use Rattle.calls.specs.declared.Refusal.TheVariants.{NotWellFormed}
use Rattle.std.specs.Prelude.{Err}
use Rattle.zone.specs.Call.{zone_in, Result, result_of, call}
use Rattle.structure.specs.IsZone.{is_zone}
use Rattle.access.specs.Checked.{HasZone}
use Rattle.access.proofs.Checked.{fields-of}
use Rattle.call_laws.proofs.Accepted.{Accepted, accepted, before, after}
use Rattle.call_laws.proofs.Refused.{done-ill}
use Rattle.zone_end.specs.enlarge.Enlarge.{accepts}
use Rattle.zone_end.proofs.enlarge.Call.{call-no, call-idle}

-- ---- the sum of the bays

grown-sum : (k : ℕ) (s : Bays (List Cell) Fixed) → sum_s bay_sum (on_last (λ (b : List Cell). join_bays b (gap k [])) s) ≡ sum_s bay_sum s + k
grown-sum k (last b) = omega (arith, bsum-weld b (gap k []), bsum-gap k [])
grown-sum k (more b x s) = omega (arith, grown-sum k s)

-- ---- the call

abbrev left : ℕ → List ℕ → List ℕ
left k s = (call (enlarge k) s).bytes

pub record Longer (k : ℕ) (s : List ℕ) : Type 0 where
  pub sized : (call length_of (left k s)).answer ≡ told 0 ((call length_of s).answer.value + k)
  pub total : (call sums (left k s)).answer.value ≡ (call sums s).answer.value + k

pub enlarged : (s : List ℕ) (k : ℕ) → Bytes s → (call (enlarge k) s).answer.number ≡ 0 → Longer k s
enlarged s k y e =
    let a : Accepted (enlarge k) s = accepted (enlarge k) s (λ n v. refl) refl e in
    let value : Answer → ℕ = λ b. b.value in
    record {
      sized = after a y tt length_of ∙ ap (λ (b : Answer). told 0 (b.value + k)) (sym (before a y length_of));
      total = omega (arith, ap value (after a y tt sums), ap value (before a y sums), grown-sum k (zone_in s).bays);
    }

pub enlarge-none : (s : List ℕ) → Bytes s → left 0 s ≡ s
enlarge-none s y = go (well_formed s) refl
  where
    bytes : (i : ℕ) → Fits w8 (get_or s i 0)
    bytes i = record { fits = y i }

    same : {b : Answer} → result_of b s ≡ call (enlarge 0) s → left 0 s ≡ s
    same q = ap (λ (r : Result). r.bytes) (sym q)

    within : HasZone s (length_field s) → (t : Bool) → t ≡ accepts (length s) (length_field s + 0) 0 → left 0 s ≡ s
    within h false a = same (call-no s 0 (length_field s) h false a refl)
    within h true a = same (call-idle s 0 (length_field s) h true a refl bytes refl)

    go : (t : Bool) → well_formed s ≡ t → left 0 s ≡ s
    go true w = within (record { well = w; is_len = refl; within = omega (arith, (fields-of s w).room); zone = is_zone s y w refl }) (accepts (length s) (length_field s + 0) 0) refl
    go false w = same (done-ill (enlarge 0) s (λ n v. refl) {T = ℕ} NotWellFormed (λ n f. refl) refl (Err NotWellFormed) refl (record { ill = w; refusal_is = refl }))
