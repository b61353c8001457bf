-- What the walk over one bay tells.
use Rattle.std.specs.Prelude.{◌≡◌, List, ℕ, suc, ◌+◌, ◌<◌, ◌≤◌, length, drop, Option, Some, None}
use Rattle.calls.specs.Bays.{last, more}
use Rattle.calls.specs.State.{Fixed, fsize}
use Rattle.bay.specs.Bay.{Cell, bay_size, bay_sum}
use Rattle.access.specs.row.Row.{Row}
use Rattle.bays.specs.Places.{bays_at, end_free}
use Rattle.bays.specs.declared.BayRead.{BayRead}

-- the bay b begins at p, and it is the last one, or a fixed block follows and the next bay begins at `next`
pub data Cut (z : List ℕ) (p next : ℕ) (b : List Cell) : Type 0 where
  at_end : bays_at z p ≡ last b → p + bay_size b ≡ length z → next ≡ suc (length z) → Cut z p next b
  at_fixed : (x : Fixed) → bays_at z p ≡ more b x (bays_at z next) → x.place ≡ p + bay_size b → next ≡ x.place + fsize x → next ≤ length z → Cut z p next b

-- that bay ends at `end`; no bay begins at `next` where that is beyond the bytes
pub record BayBetween (z : List ℕ) (p end next : ℕ) (bay : List Cell) : Type 0 where
  pub cut : Cut z p next bay
  pub end_is : end ≡ p + bay_size bay
  pub inside : end ≤ length z
  pub forth : p < next
  pub near : next ≤ suc (length z)
  pub row : Row (drop next z)

-- the bay that begins at p, by its end, its sum and the free bytes at its end
pub record Read (z : List ℕ) (p end sum tail next : ℕ) : Type 0 where
  pub bay : List Cell
  pub between : BayBetween z p end next bay
  pub sum_is : sum ≡ bay_sum bay
  pub tail_is : tail ≡ end_free bay

-- where the next bay begins, as a number: one more than the bytes behind the last
abbrev pub next_in : List ℕ → Option ℕ → ℕ
next_in z None = suc (length z)
next_in z (Some n) = n

-- a bay begins there, where any does
abbrev pub Begins : List ℕ → Option ℕ → Type 0
Begins z None = Unit {0}
Begins z (Some n) = Row (drop n z) × (n ≤ length z)

-- what the walk answers
pub record ReadFrom (z : List ℕ) (p : ℕ) (r : BayRead) : Type 0 where
  pub start_is : r.bay.start ≡ p
  pub read : Read z p r.bay.end r.bay.sum r.bay.tail (next_in z r.next)
  pub begins : Begins z r.next
