-- A call that is told 0, of those whose refusal is told and that ask for a well-formed zone: the buffer is well-formed, and no cause of the table holds.
use mathlib.Core.Path.{◌≡◌, refl, ap, subst}
use mathlib.Core.Bool.{Bool, true, false}
use mathlib.Core.List.{List}
use Prim.Native.Nat.{ℕ, zero, suc}
use native.Mathlib.Omega.{arith}
use lib.Dec.{eqb-suc-zero}
use Rattle.format.specs.WellFormed.{well_formed}
use Rattle.calls.specs.Calls.{Call, refused}
use Rattle.calls.specs.Table.{refusal_of, refusal_value}
use Rattle.zone.specs.Work.{facts}
use Rattle.zone.specs.Call.{zone_in, number_of, call_with, call}

pub record Accepted (c : Call) (s : List ℕ) : Type 0 where
  pub well : well_formed s ≡ true
  pub passed : refusal_of c (facts true (zone_in s)) ≡ 0

module _ (c : Call) (s : List ℕ) (tells : (n v : ℕ) → (refused c n v).number ≡ n) (ill : refusal_of c (facts false (zone_in s)) ≡ 1) (e : (call c s).answer.number ≡ 0) where
  unrefused : number_of c s ≡ 0
  unrefused = go (number_of c s) refl
    where
      go : (n : ℕ) → number_of c s ≡ n → n ≡ 0
      go zero q = refl
      go (suc n) q =
          let k : (call_with (suc n) c s).answer.number ≡ suc n = rw (eqb-suc-zero n) (tells (suc n) (refusal_value (suc n) c (facts (well_formed s) (zone_in s)))) in
          absurd (omega (arith, k, ap (λ (j : ℕ). (call_with j c s).answer.number) q))

  pub accepted : Accepted c s
  accepted = go (well_formed s) refl
    where
      go : (t : Bool) → well_formed s ≡ t → Accepted c s
      go true w = record { well = w; passed = subst (λ (t : Bool). refusal_of c (facts t (zone_in s)) ≡ 0) w unrefused }
      go false w = absurd (omega (arith, unrefused, ap (λ (t : Bool). refusal_of c (facts t (zone_in s))) w, ill))
