-- For proofs: what is said of the items that pass a test, and of those with a handle.
use Rattle.std.specs.Prelude.{Bool, false, cond, List, [], ◌∷◌, ℕ, ◌-◌, length, leb}
use Rattle.std.proofs.Math.Option.{Option, none, some}
use Rattle.calls.specs.Bays.{Bays, sum_s}
use Rattle.kinds.specs.Kinds.{Item, is}
use Rattle.calls.specs.State.{Fixed}
pub use Rattle.calls.specs.Counted.{count}
use Rattle.bay.specs.Bay.{Cell, items}

-- the items that do not pass the test
abbrev pub remove : (Item → Bool) → List Item → List Item
remove t [] = []
remove t (e ∷ es) = cond (t e) (remove t es) (e ∷ remove t es)

-- "its own bay's sum reaches a − b"; n is that sum
abbrev pub room_for : ℕ → ℕ → Option Item → Bool
room_for a n none = false
room_for a n (some e) = leb (a - length e.bytes) n

-- how many blocks of a zone have it
abbrev pub live : ℕ → Bays (List Cell) Fixed → ℕ
live h s = sum_s (λ (b : List Cell). count (is h) (items b)) s
