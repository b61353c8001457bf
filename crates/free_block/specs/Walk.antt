-- What a walk up to an offset passes, and the free blocks beside an offset.
use Rattle.std.specs.Prelude.{◌≡◌, cond, List, [], ◌∷◌, ◌++◌, ℕ, ◌+◌, ◌<◌, ◌≤◌, length, drop}
use Rattle.format.specs.WellFormed.{is_free}
use Rattle.structure.specs.Structure.{Block, size, sizes}
use Rattle.access.specs.row.Row.{Row, blocks_of}
use Rattle.free_block.specs.Around.{last_part, first_part}

-- each of the blocks starts below t, the first at offset `at`
abbrev pub Below : ℕ → ℕ → List Block → Type 0
Below t at [] = Unit {0}
Below t at (b ∷ bs) = (at < t) × Below t (at + size b) bs

-- the walk is at `at`, behind the blocks `before`; the last of them starts at prev
pub record Passed (z : List ℕ) (first t prev at : ℕ) : Type 0 where
  pub before : List Block
  pub parts : blocks_of (drop first z) ≡ before ++ blocks_of (drop at z)
  pub place : at ≡ first + sizes before
  pub near : prev ≤ at
  pub below : Below t first before
  pub free_before : cond (is_free (drop prev z)) prev at + last_part 0 before ≡ at
  pub fits : at ≤ length z
  pub row : Row (drop at z)

-- the same, where it stops
pub record Stopped (z : List ℕ) (first t prev at : ℕ) : Type 0 where
  pub passed : Passed z first t prev at
  pub reached : t ≤ at

-- from `from` on up to `at` lies the free block that starts at prev, and from `end` on up to `to` a free block
pub record Extended (z : List ℕ) (prev at end from to : ℕ) : Type 0 where
  pub from_is : from ≡ cond (is_free (drop prev z)) prev at
  pub to_is : to ≡ end + first_part (blocks_of (drop end z))
