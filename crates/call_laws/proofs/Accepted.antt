-- A call that is accepted: no cause of the table holds, and the zone after it is what the call's work leaves.
use mathlib.Core.Path.{◌≡◌, refl, ap}
use mathlib.Core.Bool.{true, false}
use mathlib.Core.List.{List}
use Prim.Native.Nat.{ℕ}
use Rattle.bigendian.specs.BigEndian.{Bytes}
use Rattle.calls.specs.Calls.{Call, beside, Given}
use Rattle.calls.specs.Table.{causes, holds_in, order}
use Rattle.calls.proofs.First.{among, clear}
use Rattle.zone.specs.Work.{facts, work}
use Rattle.zone.specs.Call.{zone_in, Result, call}
pub use Rattle.zone.proofs.Accepted.{Accepted, accepted}
use Rattle.call_laws.proofs.Outcome.{step, call-of, after_call, step-work}

module _ {c : Call} {s : List ℕ} (a : Accepted c s) where
  -- the table's cause of number n does not hold
  pub cleared : (n : ℕ) → among n order ≡ true → holds_in n (causes c (facts true (zone_in s))) ≡ false
  cleared n m = clear (causes c (facts true (zone_in s))) n m a.passed

  abbrev is-work : step c (zone_in s) ≡ work c (zone_in s)
  is-work = step-work c (zone_in s) a.passed

  module _ (y : Bytes s) where
    -- what it answers, and what any call answers before it
    pub answered : (call c s).answer ≡ (work c (zone_in s)).answer
    answered = ap (λ (r : Result). r.answer) (call-of s y a.well c (work c (zone_in s)) is-work)

    pub before : (b : Call) → (call b s).answer ≡ (step b (zone_in s)).answer
    before b = ap (λ (r : Result). r.answer) (call-of s y a.well b (step b (zone_in s)) refl)

    -- and after it
    pub after : Given (beside c) → (b : Call) → (call b (call c s).bytes).answer ≡ (step b (work c (zone_in s)).next).answer
    after f b = ap (λ (r : Result). r.answer) (after_call s y a.well c f (work c (zone_in s)) is-work b)
