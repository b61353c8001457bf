-- Why a zone refuses a call, as the code says it, and that nothing refuses it.
use Rattle.std.specs.Prelude.{◌≡◌, true, List, ℕ}
use Rattle.calls.specs.Calls.{Call}
use Rattle.calls.specs.Table.{refusal_of, refusal_value}
use Rattle.calls.specs.Refusals.{code_of, beside_of}
use Rattle.calls.specs.declared.Refusal.{Refusal}
use Rattle.zone.specs.Work.{facts}
use Rattle.call_laws.specs.Frame.{zone_at}

-- the zone's bytes z refuse the call with e, whatever the buffer
pub record Refuses (c : Call) (z : List ℕ) (e : Refusal) : Type 0 where
  pub number_is : (buf : ℕ) → refusal_of c (facts true (zone_at buf z)) ≡ code_of e
  pub beside_is : (buf : ℕ) → refusal_value (code_of e) c (facts true (zone_at buf z)) ≡ beside_of e

-- nothing refuses it
abbrev pub Passes : Call → List ℕ → Type 0
Passes c z = (buf : ℕ) → refusal_of c (facts true (zone_at buf z)) ≡ 0
