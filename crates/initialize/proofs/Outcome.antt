-- After an accepted initialize, check says yes with no relocatable block, length answers what was asked for, and all but the header
-- and the masters is free.
use mathlib.Core.Path.{◌≡◌, refl, ap, ◌∙◌}
use mathlib.Core.Bool.{true}
use mathlib.Core.List.{List, [], ◌∷◌, ◌++◌}
use Prim.Native.Nat.{ℕ, zero, suc, ◌+◌, ◌*◌, ◌-◌}
use native.Mathlib.Nat.{add-zero}
use native.Mathlib.Omega.{arith}
use lib.ListN.{length, drop}
use lib.Dec.{eqb-suc-zero}
use Rattle.block_type.specs.Limits.{master_size, zone_header}
use Rattle.structure.specs.Structure.{encode}
use Rattle.calls.specs.Calls.{Call, told, told_two, check, length_of, sums}
use Rattle.kinds.specs.Kinds.{Item}
use Rattle.calls.specs.Table.{refusal_of, bad_initialize, first, order}
use Rattle.calls.specs.State.{listed}
use Rattle.zone.specs.Work.{Zone, facts, work, fresh}
use Rattle.zone.specs.Call.{in_line, Result, call, initialize_with, initialize}
use Rattle.bay.proofs.Laws.{items-gap, bsum-gap}
use Rattle.zone.proofs.Initial.{accepted, fresh-whole, fresh-stored}
use Rattle.zone.proofs.Run.{call-worked}

pub record New (n m : ℕ) (bs : List ℕ) : Type 0 where
  pub checked : (call check bs).answer ≡ told_two 0 1 0
  pub sized : (call length_of bs).answer ≡ told 0 n
  pub freed : (call sums bs).answer ≡ told_two 0 (n - (zone_header + master_size * m)) (n - (zone_header + master_size * m))

pub init-new : (n m : ℕ) (bs : List ℕ) → (initialize n m bs).answer.number ≡ 0 → New n m (initialize n m bs).bytes
init-new n m bs e = go (first order (bad_initialize (length bs) n m ∷ [])) refl e
  where
    z : Zone
    z = fresh (length bs) n m

    k : ℕ
    k = n - (zone_header + master_size * m)

    go : (j : ℕ) → first order (bad_initialize (length bs) n m ∷ []) ≡ j → (initialize_with j n m bs).answer.number ≡ 0 → New n m (initialize_with j n m bs).bytes
    go (suc j) q e = let r : (initialize_with (suc j) n m bs).answer.number ≡ suc j = rw (eqb-suc-zero j) in absurd (omega arith)
    go zero q e = record {
      checked = asked check refl ∙ ap (λ (es : List Item). told_two 0 1 (length (listed es))) (items-gap k []);
      sized = asked length_of refl;
      freed = asked sums refl ∙ ap (λ (i : ℕ). told_two 0 i i) (bsum-gap k [] ∙ add-zero k);
    }
      where
        -- what a call answers on the new zone
        asked : (c : Call) → refusal_of c (facts true z) ≡ 0 → (call c (encode (in_line z) ++ drop n bs)).answer ≡ (work c z).answer
        asked c r =
            let a = accepted (length bs) n m q in
            ap (λ (r : Result). r.answer) (call-worked (encode (in_line z) ++ drop n bs) z (fresh-whole (length bs) n m a) (fresh-stored (length bs) n m a bs refl) c r)
