-- What the census answers, read from what the code returns.
use Rattle.std.specs.Prelude.{List, ℕ, replicate, Result, Ok, Err}
use Rattle.block_type.specs.Limits.{strata}
use Rattle.calls.specs.Refusals.{code_of}
use Rattle.calls.specs.declared.Refusal.{Refusal}
use Rattle.zone.specs.Census.{Counted, counted}

-- all counts, 0 for each when refused
abbrev pub counted_of : Result (List ℕ) Refusal → Counted
counted_of (Ok cs) = counted 0 cs
counted_of (Err e) = counted (code_of e) (replicate strata 0)

-- the answer of a census, the counts of which are the caller's after the call
abbrev pub with_counts : {T : Type 0} → Result T Refusal → List ℕ → Result (List ℕ) Refusal
with_counts (Ok _) cs = Ok cs
with_counts (Err e) cs = Err e
