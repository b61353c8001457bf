-- The four types of blocks: what each has for its code, its header's length and its largest data size.
use Rattle.std.specs.Prelude.{ℕ, ◌+◌, Bool, true, false}
use Rattle.block_type.specs.Limits.{free_code, fixed_code, reloc_code, page_code, free_header, fixed_header, reloc_header, page_header, fixed_limit, reloc_limit, page_limit, up4}
use Rattle.block_type.specs.declared.BlockType.{BlockType}
use Rattle.block_type.specs.declared.BlockType.TheVariants.{Free, Fixed, Relocatable, Page}

-- what its first two bits say
abbrev pub type_code : BlockType → ℕ
type_code Free = free_code
type_code Fixed = fixed_code
type_code Relocatable = reloc_code
type_code Page = page_code

-- how many bytes stand before its data
abbrev pub type_header : BlockType → ℕ
type_header Free = free_header
type_header Fixed = fixed_header
type_header Relocatable = reloc_header
type_header Page = page_header

-- how many data bytes may be asked for (of a free block none are)
abbrev pub type_limit : BlockType → ℕ
type_limit Free = 0
type_limit Fixed = fixed_limit
type_limit Relocatable = reloc_limit
type_limit Page = page_limit

-- whether it is between others that move, and moves with them
abbrev pub movable : BlockType → Bool
movable Free = false
movable Fixed = false
movable Relocatable = true
movable Page = true

-- the bytes of a block of c data bytes
abbrev pub type_need : BlockType → ℕ → ℕ
type_need t c = up4 (type_header t + c)
