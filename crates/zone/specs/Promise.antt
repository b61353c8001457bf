-- What a call promises: the proposition that the contract of each exported function of a ledger's call, and of initialize, states of the
-- buffer it was lent, its answer, and the buffer it leaves.
use Rattle.std.specs.Prelude.{◌≡◌, List, ℕ}
use Rattle.calls.specs.Calls.{Call, Answer}
use Rattle.zone.specs.Call.{result_of, call, initialize}

abbrev pub Promise : Call → List ℕ → Answer → List ℕ → Type 0
Promise c entry a exit = result_of a exit ≡ call c entry

-- initialize (length, m)
abbrev pub InitPromise : ℕ → ℕ → List ℕ → Answer → List ℕ → Type 0
InitPromise n m entry a exit = result_of a exit ≡ initialize n m entry
