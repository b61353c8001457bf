-- Held blocks of a bay gathered in place.
use Rattle.std.specs.Prelude.{◌≡◌, List, [], ◌++◌, ℕ, ◌+◌, ◌-◌, ◌%◌, ◌≤◌, length, take, drop}
use Rattle.bay.specs.Bay.{Cell, bay_sum, items, packed}
use Rattle.bay.specs.Sound.{bytes_of, cells_of, IsBay, Stepped}
use Rattle.slide.specs.declared.way.Front.{Front}

-- the bytes of the held blocks, one after the other
abbrev pub held_bytes : List Cell → List ℕ
held_bytes cs = bytes_of (packed (items cs) [])

-- one turn: from s, with `to` bytes placed and `at` bytes passed, to s' with r placed and n more passed
pub record Passed (s : List ℕ) (to at n : ℕ) (s' : List ℕ) (r : ℕ) : Type 0 where
  pub bound : r ≤ at + n
  pub four : r % 4 ≡ 0
  pub long : length s' ≡ length s
  pub next : IsBay (drop (at + n) s')
  pub front : take r s' ++ held_bytes (cells_of (drop (at + n) s')) ≡ take to s ++ held_bytes (cells_of (drop at s))
  pub sum : r + at + bay_sum (cells_of (drop at s)) ≡ to + (at + n) + bay_sum (cells_of (drop (at + n) s'))

-- one turn: from s, as f says, to s', as g says
pub record PassedOne (s : List ℕ) (f : Front) (s' : List ℕ) (g : Front) : Type 0 where
  pub size : ℕ
  pub step : Stepped s f.at size
  pub next : g.at ≡ f.at + size
  pub passed : Passed s f.to f.at size s' g.to

-- the held blocks of s₀ from `first` on stand in s from `from` up to `to`, and the rest is as long as the free blocks and what lay between
pub record Gathered (s₀ : List ℕ) (from first : ℕ) (s : List ℕ) (to : ℕ) : Type 0 where
  pub bound : to ≤ length s
  pub four : (length s - to) % 4 ≡ 0
  pub long : length s ≡ length s₀
  pub front : take to s ≡ take from s₀ ++ held_bytes (cells_of (drop first s₀))
  pub sum : to + bay_sum (cells_of (drop first s₀)) ≡ from + (length s₀ - first)
