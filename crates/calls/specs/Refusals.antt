-- The refusals as the code has them: their numbers in the table, what stands beside, and what a call answers that gives a Result.
use Rattle.std.specs.Prelude.{List, [], ℕ, Result, Ok, Err}
use Rattle.calls.specs.Calls.{Answer, told_with}
use Rattle.calls.specs.declared.Refusal.{Refusal}
use Rattle.calls.specs.declared.Refusal.TheVariants.{NotWellFormed, BadInitialize, TooLarge, NoFreeHandle, NoSpace, HandleNotLive, PointerNotFixed, PastBlockEnd, BadEnlarge, ShortBuffer, NamePresent, DirtyPage, NameAbsent, BadLimits}

-- its number in the table
abbrev pub code_of : Refusal → ℕ
code_of NotWellFormed = 1
code_of BadInitialize = 2
code_of TooLarge = 3
code_of NoFreeHandle = 4
code_of NoSpace = 5
code_of HandleNotLive = 6
code_of PointerNotFixed = 7
code_of PastBlockEnd = 8
code_of BadEnlarge = 9
code_of ShortBuffer = 10
code_of NamePresent = 11
code_of (DirtyPage name) = 12
code_of NameAbsent = 13
code_of BadLimits = 14

-- the value beside it: a dirty page's name, and 0 beside every other refusal (docs/ZONE.md, "Refusals and their order")
abbrev pub beside_of : Refusal → ℕ
beside_of (DirtyPage name) = name
beside_of _ = 0

-- what is answered: f reads the value of what is done, g what stands beside a refusal, and bs is the second buffer after the call
abbrev pub answer_by : {T : Type 0} → (T → ℕ) → (Refusal → ℕ) → List ℕ → Result T Refusal → Answer
answer_by f g bs (Ok v) = told_with 0 (f v) bs
answer_by f g bs (Err e) = told_with (code_of e) (g e) bs

-- of a call with a value
abbrev pub answer_of : Result ℕ Refusal → Answer
answer_of r = answer_by (λ v. v) beside_of [] r

-- of one with none
abbrev pub done_of : {T : Type 0} → Result T Refusal → Answer
done_of r = answer_by (λ _. 0) (λ _. 0) [] r

-- of one with none, and a second buffer
abbrev pub shown_of : {T : Type 0} → Result T Refusal → List ℕ → Answer
shown_of r bs = answer_by (λ _. 0) (λ _. 0) bs r
