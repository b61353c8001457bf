-- A run of held blocks in the bytes z of a zone: it stands from `from` on and goes to `to`, and a free block stands before it from `hole` on, or nothing.
use Rattle.std.specs.Prelude.{◌≡◌, List, ◌++◌, ℕ, ◌+◌, ◌-◌, ◌%◌, ◌<◌, ◌≤◌, length, take, drop}
use Rattle.block_type.specs.Limits.{free_code, longest_zone}
use Rattle.bigendian.specs.BigEndian.{slice, overwrite}
use Rattle.format.specs.WellFormed.{type_of}
use Rattle.bay.specs.Sound.{cell_at, IsBay}
use Rattle.slide.specs.ZoneBay.{set_one}
use Rattle.slide.specs.blank.Between.{Hole}

-- from `at` up to some offset z is a bay that is not empty
pub data BayAhead (z : List ℕ) (at : ℕ) : Type 0 where
  bay_ahead : (e : ℕ) → at < e → e ≤ length z → IsBay (drop at (take e z)) → BayAhead z at

-- the bytes up to the end of the run, which stands up to `end`, once it has gone down
abbrev pub run_down : List ℕ → ℕ → ℕ → ℕ → List ℕ
run_down z to from end = take to z ++ slice z from (end - from)

-- one turn, over the block of n bytes at `at`: the bytes z' and the run afterwards
pub data RunPassed (z : List ℕ) (to from hole at n : ℕ) (z' : List ℕ) (to' from' hole' : ℕ) : Type 0 where
  at_free : type_of (drop at z) ≡ free_code → z' ≡ overwrite z to (slice z from (at - from)) → to' ≡ to + (at - from) → from' ≡ at + n → hole' ≡ at
      → RunPassed z to from hole at n z' to' from' hole'
  at_held : (type_of (drop at z) ≡ free_code → ⊥) → z' ≡ set_one (to + (at - from)) (cell_at z at) z → to' ≡ to → from' ≡ from → hole' ≡ hole
      → RunPassed z to from hole at n z' to' from' hole'

-- the run stands up to the bay's end e, and what it leaves can become one free block
pub record RunEnds (z : List ℕ) (to from hole e : ℕ) : Type 0 where
  pub low : to ≤ hole
  pub before : hole ≤ from
  pub order : from ≤ e
  pub inside : e ≤ length z
  pub short : length z ≤ longest_zone
  pub four : (from - to) % 4 ≡ 0
  pub free : Hole z hole from
