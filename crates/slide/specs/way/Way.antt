-- A bay that gives up bytes at its start.
use Rattle.std.specs.Prelude.{◌≡◌, List, ◌++◌, ℕ, ◌+◌, ◌%◌, ◌≤◌, length, take, drop}
use Rattle.bay.specs.Bay.{bay_sum, packed_less}
use Rattle.bay.specs.Sound.{bytes_of, cells_of, IsBay}
use Rattle.slide.specs.way.Gathered.{held_bytes}

-- held blocks of s₀ stand in the first `to` bytes of s, in old order, the others from `at` on, and n bytes or more lie between
pub record FrontGathered (s₀ : List ℕ) (n : ℕ) (s : List ℕ) (to at : ℕ) : Type 0 where
  pub room : to + n ≤ at
  pub bound : at ≤ length s
  pub four_to : to % 4 ≡ 0
  pub four_at : at % 4 ≡ 0
  pub long : length s ≡ length s₀
  pub rest : IsBay (drop at s)
  pub front : take to s ++ held_bytes (cells_of (drop at s)) ≡ held_bytes (cells_of s₀)
  pub sum : to + bay_sum (cells_of s₀) ≡ at + bay_sum (cells_of (drop at s))

-- the bay of s₀ is packed in s behind its first n bytes, of which nothing is said
pub record GaveUp (s₀ : List ℕ) (n : ℕ) (s : List ℕ) : Type 0 where
  pub long : length s ≡ length s₀
  pub bytes : drop n s ≡ bytes_of (packed_less n (cells_of s₀))
