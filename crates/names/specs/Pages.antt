-- Bytes that blocks tile, whose pages have room for a name: what a walk over names relies on.
use Rattle.std.specs.Prelude.{◌≡◌, List, [], ◌∷◌, Bool, true, false, cond, ◌||◌, ℕ, ◌+◌, ◌%◌, ◌≤◌, length, drop}
use Rattle.block_type.specs.Limits.{longest_zone, smallest_block}
use Rattle.format.specs.WellFormed.{size_of, split_blocks, every, size_ok, tile_ok}
use Rattle.format.specs.WellFormed.{is_page, name_of, names, page_size_ok}

-- blocks tile z from `at` on, and pages are long enough
pub record Pages (z : List ℕ) (at : ℕ) : Type 0 where
  pub within : at ≤ length z
  pub four : at % 4 ≡ 0
  pub whole : length z % 4 ≡ 0
  pub limit : length z ≤ longest_zone
  pub sizes : every size_ok (split_blocks (drop at z)) ≡ true
  pub tiles : every tile_ok (split_blocks (drop at z)) ≡ true
  pub long : every page_size_ok (split_blocks (drop at z)) ≡ true

-- the names of the pages from `at` on
abbrev pub names_at : List ℕ → ℕ → List ℕ
names_at z at = names (split_blocks (drop at z))

-- the rule f of some number of a list
unfoldable pub some : (ℕ → Bool) → List ℕ → Bool
some f [] = false
some f (x ∷ xs) = f x || some f xs

-- a step over a block of n bytes
pub record Step (z : List ℕ) (at n : ℕ) : Type 0 where
  pub is_size : n ≡ size_of (drop at z)
  pub low : smallest_block ≤ n
  pub next : Pages z (at + n)
  pub heads : names_at z at ≡ cond (is_page (drop at z)) (name_of (drop at z) ∷ names_at z (at + n)) (names_at z (at + n))
