-- The bytes of the blocks of a bay.
use Rattle.std.specs.Prelude.{List, ◌++◌, ℕ, ◌+◌, ◌-◌, ◌*◌, ◌/◌, replicate}
use Rattle.bigendian.specs.BigEndian.{to_be}
use Rattle.block_type.specs.Limits.{free_header, type_unit}
use Rattle.kinds.specs.Kinds.{code_of, tag_of, item_size}
use Rattle.bay.specs.Bay.{Cell, free, held}

-- "Free: a 4-byte size in 2-byte words; all later bytes zero", "Relocatable: the same 14 bits, then the handle (2 bytes), data from byte 4", and
-- of a page "the 14-bit size, a 4-byte name, a status word and data from byte 8" (document 02, U5). The type is the first two bits.
abbrev pub encode_cell : Cell → List ℕ
encode_cell (free n) = to_be 4 (n / 2) ++ replicate (n - free_header) 0
encode_cell (held e) = to_be 2 (code_of e * type_unit + item_size e / 2) ++ (tag_of e ++ e.bytes)
