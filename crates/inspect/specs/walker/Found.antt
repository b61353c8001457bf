-- The block that a walk over a zone finds at an offset.
use Rattle.std.specs.Prelude.{◌≡◌, List, ℕ, ◌+◌, ◌≤◌, max, length, drop, Option, Result}
use Rattle.block_type.specs.Limits.{longest_zone}
use Rattle.format.specs.WellFormed.{first_field}
use Rattle.access.specs.row.Row.{blocks_of}
use Rattle.calls.specs.declared.Refusal.{Refusal}
use Rattle.zone.specs.Walker.{describe, walk_step}
use Rattle.inspect.specs.walker.Told.{described_of, block_in, walked_by}
use Rattle.inspect.specs.declared.walker.Described.{Described}

-- its size, 0 for none
abbrev pub size_in : Option Described → ℕ
size_in o = (described_of o).size

-- the block at offset `at`, looked for from `first` on; the offset after it is no more than the zone's end, or than `at`
pub record FoundFrom (z : List ℕ) (first at : ℕ) (o : Option Described) : Type 0 where
  pub is : described_of o ≡ describe at first (blocks_of (drop first z))
  pub ends : at + size_in o ≤ max at (length z)

-- the block at offset `at` of a zone, with no bytes beyond its length
pub data Found (z : List ℕ) (at : ℕ) (o : Option Described) : Type 0 where
  found : FoundFrom z (first_field z) at o → Found z at o

-- the block that starts at `at` in a buffer
pub record Seen (s : List ℕ) (at : ℕ) (r : Result (Option Described) Refusal) : Type 0 where
  pub is : walked_by r (at + (block_in r).size) ≡ walk_step s at
  pub ends : at + (block_in r).size ≤ max at longest_zone
