-- The bytes of a bay and the bay of some bytes, as contracts inside the library cite them.
use Rattle.std.specs.Prelude.{◌≡◌, List, [], ◌∷◌, ◌++◌, map, cond, ℕ, ◌+◌, ◌%◌, ◌≤◌, length, take, drop, eqb}
use Rattle.bigendian.specs.BigEndian.{slice}
use Rattle.block_type.specs.Limits.{free_code, free_header, longest_zone, largest_block}
use Rattle.format.specs.WellFormed.{size_of, type_of, split_blocks}
use Rattle.kinds.specs.Kinds.{item_size, item_in, ItemOk}
use Rattle.bay.specs.Bay.{Cell, free, held, cell_size, cell_code}
use Rattle.bay.specs.Bytes.{encode_cell}

-- ---- the bytes of a bay

unfoldable pub bytes_of : List Cell → List ℕ
bytes_of [] = []
bytes_of (c ∷ cs) = encode_cell c ++ bytes_of cs

-- sizes and numbers that the format has
abbrev pub Sound1 : Cell → Type 0
Sound1 (free n) = (free_header ≤ n) × (n % 4 ≡ 0) × (n ≤ longest_zone)
Sound1 (held e) = (item_size e % 4 ≡ 0) × (item_size e ≤ largest_block) × ItemOk e

abbrev pub Sound : List Cell → Type 0
Sound [] = Unit {0}
Sound (c ∷ cs) = Sound1 c × Sound cs

-- r is the bytes of some bay
pub data IsBay (r : List ℕ) : Type 0 where
  is_bay : (cs : List Cell) → Sound cs → r ≡ bytes_of cs → IsBay r

-- ---- the bay of some bytes

-- what a block's bytes hold
unfoldable pub decode_cell : List ℕ → Cell
decode_cell b = cond (eqb (type_of b) free_code) (free (size_of b)) (held (item_in b))

unfoldable pub cells_of : List ℕ → List Cell
cells_of r = map decode_cell (split_blocks r)

-- the block at p
abbrev pub cell_at : List ℕ → ℕ → Cell
cell_at s p = decode_cell (take (size_of (drop p s)) (drop p s))

-- a step over the block of n bytes at p
pub record Stepped (s : List ℕ) (p n : ℕ) : Type 0 where
  pub size_is : size_of (drop p s) ≡ n
  pub low : free_header ≤ n
  pub four : n % 4 ≡ 0
  pub fits : p + n ≤ length s
  pub next : IsBay (drop (p + n) s)
  pub cells : cells_of (drop p s) ≡ cell_at s p ∷ cells_of (drop (p + n) s)
  pub bytes : cell_size (cell_at s p) ≡ n
  pub code : cell_code (cell_at s p) ≡ type_of (drop p s)
  pub image : encode_cell (cell_at s p) ≡ slice s p n
