-- What zone-run prints, told by the ledger alone: for ANY input bytes its lines are those of a book that is fed the records and never
-- sees a zone. Before the first accepted initialization the book is empty; each accepted one begins it anew.
use Rattle.std.specs.Prelude.{◌≡◌, cond, List, [], ◌∷◌, ◌++◌, ℕ, get_or, replicate, eqb}
use Rattle.std.proofs.Math.Option.{Option, none, some}
use Rattle.calls.specs.Calls.{Call, by_handle, read, Answer}
use Rattle.calls.specs.Table.{init_refusal}
use Rattle.ledger.specs.Ledger.{Ledger, step, initial}
use Rattle.records.specs.Records.{Action, initialize, call, read_byte, nothing, action_of, Line, skip, line, text, records_of, output}

-- "65,536 zero bytes as buffer"
abbrev pub buffer_length : ℕ
buffer_length = 65536

-- a record makes of a book a line and a book

-- a call that is entered in the book; v is the value that its line shows. With no zone it is refused with 1 (as all are that a record asks
-- for: check and view are not among them)
abbrev pub book_call : Call → (Answer → ℕ) → Option Ledger → Line × Option Ledger
book_call c v none = (line 1 0, none)
book_call c v (some l) = (line (step c l).answer.number (v (step c l).answer), some (step c l).next)

abbrev pub book_act : Action → Option Ledger → Line × Option Ledger
book_act (initialize n m) b = cond (eqb (init_refusal buffer_length n m) 0) (line 0 0, some (initial buffer_length n m)) (line 2 0, b)
book_act (call c) b = book_call c (λ (a : Answer). a.value) b
book_act (read_byte h i) b = book_call (read (by_handle h) i 1 (0 ∷ [])) (λ (a : Answer). get_or a.bytes 0 0) b
book_act nothing b = (skip, b)

-- records one after the other
abbrev pub book_lines : List (List ℕ) → Option Ledger → List ℕ
book_lines [] b = []
book_lines (r ∷ rs) b = text (book_act (action_of r) b).0 ++ book_lines rs (book_act (action_of r) b).1

-- of every input
abbrev pub ByTheBook : Type 0
ByTheBook = (input : List ℕ) → output input (replicate buffer_length 0) ≡ book_lines (records_of input) none
