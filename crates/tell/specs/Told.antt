-- What sum and check answer, read from what the code returns.
use Rattle.std.specs.Prelude.{ℕ, Option, Some, None, Result, Ok, Err}
use Rattle.calls.specs.Calls.{Answer, told_two}
use Rattle.calls.specs.Refusals.{code_of}
use Rattle.calls.specs.declared.Refusal.{Refusal}
use Rattle.tell.specs.declared.Sums.{Sums}

-- two values, 0 for each when refused
abbrev pub sums_of : Result Sums Refusal → Answer
sums_of (Ok t) = told_two 0 t.total t.largest
sums_of (Err e) = told_two (code_of e) 0 0

-- yes and the number of live handles, or no and 0; it is never refused
abbrev pub checked_of : Option ℕ → Answer
checked_of (Some live) = told_two 0 1 live
checked_of None = told_two 0 0 0
