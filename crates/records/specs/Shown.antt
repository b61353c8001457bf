-- What the functions that users call promise: how a line is told, and what a run of records prints and leaves.
use Rattle.std.specs.Prelude.{◌≡◌, List, ℕ, ◌≤◌, length, take, Result}
use Rattle.calls.specs.Refusals.{answer_of, done_of}
use Rattle.calls.specs.declared.Refusal.{Refusal}
use Rattle.records.specs.Records as Records
use Rattle.records.specs.Records.{skip, line, output, after_input}
use Rattle.records.specs.declared.Line.{Line}
use Rattle.records.specs.declared.Line.TheVariants.{Skip, Said}

-- the line that the code's stands for
abbrev pub line_of : Line → Records.Line
line_of Skip = skip
line_of (Said n v) = line n v

-- of a call with a value
abbrev pub SaysValue : Result ℕ Refusal → Line → Type 0
SaysValue r l = line_of l ≡ line (answer_of r).number (answer_of r).value

-- of one with none
abbrev pub SaysDone : Result (Unit {0}) Refusal → Line → Type 0
SaysDone r l = line_of l ≡ line (done_of r).number (done_of r).value

-- an input was run: r bytes are printed, which stand at the start of out, and the buffer is as the last record left it
pub record Run (input zone zone' out' : List ℕ) (r : ℕ) : Type 0 where
  pub fits : r ≤ length out'
  pub prints : take r out' ≡ output input zone
  pub leaves : zone' ≡ after_input input zone
