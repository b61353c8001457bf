-- The structures that a zone can have.
use Rattle.std.specs.Prelude.{◌≡◌, List, [], ◌∷◌, Bool, true, false, ℕ, ◌+◌, ◌%◌, ◌≤◌, ◌<◌, length}
use Rattle.block_type.specs.Limits.{stamp_range, fixed_header, fixed_limit, largest_block, longest_zone, most_masters, zone_header, smallest_block}
use Rattle.bigendian.specs.BigEndian.{Bytes}
use Rattle.format.specs.WellFormed.{offsets}
use Rattle.format.specs.Occurs.{occurs}
use Rattle.structure.specs.Structure.{Block, fixed, Structure, count, len, cell, handles_of, names_in}
use Rattle.kinds.specs.Kinds.{item_size, Written}
use Rattle.bay.specs.Bay.{free, held}

-- sizes as the format has them, and no two free neighbours; prev: the block before is free
abbrev pub Tiled : Bool → List Block → Type 0
Tiled prev [] = Unit {0}
Tiled prev (cell (free n) ∷ bs) = (prev ≡ false) × (smallest_block ≤ n) × (n % 4 ≡ 0) × (n ≤ longest_zone) × Tiled true bs
Tiled prev (fixed d ∷ bs) = ((fixed_header + length d) % 4 ≡ 0) × (length d ≤ fixed_limit) × Bytes d × Tiled false bs
Tiled prev (cell (held e) ∷ bs) = (item_size e % 4 ≡ 0) × (item_size e ≤ largest_block) × Written e × Tiled false bs

pub record Valid (s : Structure) : Type 0 where
  pub tiled : Tiled false s.blocks
  -- every master is one block's or in the chain once
  pub owned : (h : ℕ) → occurs h (handles_of s.blocks) + occurs h s.chain ≡ occurs h (offsets zone_header (count s))
  -- no name twice, and the clock is a byte
  pub apart : (n : ℕ) → occurs n (names_in s.blocks) ≤ 1
  pub byte : s.clock < stamp_range
  pub few : count s ≤ most_masters
  pub short : len s ≤ longest_zone
