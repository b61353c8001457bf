-- A block's first four bytes as one number, and what the test of a block by it promises to the loop above.
use Rattle.std.specs.Prelude.{◌≡◌, List, Bool, false, ◌&&◌, ℕ, ◌+◌, ◌*◌, ◌-◌, ◌/◌, ◌%◌, ◌<◌, eqb, leb, length, take, drop}
use Rattle.block_type.specs.Limits.{free_code, reloc_header, type_unit, handle_range}
use Rattle.block_type.specs.Types.{type_code}
use Rattle.block_type.specs.declared.BlockType.{BlockType}
use Rattle.bigendian.specs.BigEndian.{from_be}
use Rattle.format.specs.WellFormed.{type_of, size_of, handle_of, master_at}
use Rattle.format.specs.OneWalk.{block_ok}
use Rattle.format.specs.Steps.{Turn}

-- the type is what stands above the size and the handle
abbrev pub type_word : ℕ
type_word = type_unit * handle_range

-- w, the number in the first four bytes of the block at `at`, has its type, size and handle
pub record IsWord (z : List ℕ) (at w : ℕ) : Type 0 where
  pub is_type : type_of (drop at z) ≡ w / type_word
  pub is_half : w / handle_range ≡ from_be (take 2 (drop at z))
  pub is_handle : w % handle_range ≡ handle_of (drop at z)

-- w has the type of the block at `at`, and its size, which is told in all of it where the block is free
pub record IsHeader (z : List ℕ) (at w : ℕ) : Type 0 where
  pub is_type : type_of (drop at z) ≡ w / type_word
  pub free_size_is : w / type_word ≡ free_code → w * 2 ≡ size_of (drop at z)
  pub used_size : free_code < w / type_word → w / handle_range % type_unit * 2 ≡ size_of (drop at z)

-- the master at h holds the data offset of a relocatable block at `at`, and the block's n bytes are there
abbrev pub held : List ℕ → ℕ → ℕ → ℕ → Bool
held z at n h = eqb (master_at z h) (at + reloc_header) && leb n (length z - at)

-- the block at `at` breaks a rule
abbrev pub IsBadBlock : List ℕ → ℕ → Bool → ℕ → Type 0
IsBadBlock z first prev at = block_ok z first prev at (take (size_of (drop at z)) (drop at z)) ≡ false

-- it obeys them: its size, as a turn of the walk wants it, and its type
pub record GoodBlock (z : List ℕ) (first : ℕ) (prev : Bool) (at : ℕ) (kind : BlockType) (n : ℕ) : Type 0 where
  pub turn : Turn z first prev at n
  pub kind_is : type_code kind ≡ type_of (drop at z)
