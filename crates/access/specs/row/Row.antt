-- A stretch of blocks: bytes that blocks tile, whatever the masters hold.
use Rattle.std.specs.Prelude.{◌≡◌, List, [], ◌∷◌, map, Bool, true, false, ℕ, ◌+◌, ◌%◌, ◌≤◌, length, take, drop}
use Rattle.block_type.specs.Limits.{fixed_header, fixed_limit, smallest_block}
use Rattle.bigendian.specs.BigEndian.{slice}
use Rattle.format.specs.WellFormed.{size_of, type_of, split_blocks}
use Rattle.structure.specs.Structure.{Block, fixed, size, code, encode_block, decode_block, join, cell}
use Rattle.bay.specs.Sound.{Sound1 as SoundCell}
use Rattle.bay.specs.Bay.{free, held}

-- the blocks of a stretch
unfoldable pub blocks_of : List ℕ → List Block
blocks_of r = map decode_block (split_blocks r)

-- the bytes of blocks
abbrev pub bytes_of : List Block → List ℕ
bytes_of bs = join (map encode_block bs)

abbrev pub free_b : Block → Bool
free_b (cell (free n)) = true
free_b (cell (held e)) = false
free_b (fixed d) = false

-- the sizes that the format has
abbrev pub Sound1 : Block → Type 0
Sound1 (cell c) = SoundCell c
Sound1 (fixed d) = ((fixed_header + length d) % 4 ≡ 0) × (length d ≤ fixed_limit)

abbrev pub Sound : List Block → Type 0
Sound [] = Unit {0}
Sound (b ∷ bs) = Sound1 b × Sound bs

pub data Row (r : List ℕ) : Type 0 where
  row : (bs : List Block) → Sound bs → r ≡ bytes_of bs → Row r

abbrev pub block_at : List ℕ → ℕ → Block
block_at s p = decode_block (take (size_of (drop p s)) (drop p s))

-- a step over a block of n bytes
pub record Stepped (s : List ℕ) (p n : ℕ) : Type 0 where
  pub size_is : size_of (drop p s) ≡ n
  pub low : smallest_block ≤ n
  pub four : n % 4 ≡ 0
  pub fits : p + n ≤ length s
  pub next : Row (drop (p + n) s)
  pub blocks : blocks_of (drop p s) ≡ block_at s p ∷ blocks_of (drop (p + n) s)
  pub bytes : size (block_at s p) ≡ n
  pub kind : code (block_at s p) ≡ type_of (drop p s)
  pub image : encode_block (block_at s p) ≡ slice s p n
