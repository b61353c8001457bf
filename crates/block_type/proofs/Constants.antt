-- Each number of the code is the definition's. (A type's code, header and limit are so by the clauses of the methods `code`, `header` and `limit`.)
use Rattle.std.specs.Prelude.{◌≡◌, refl, ◌*◌}
use Rattle.block_type.specs.Limits.{tag_at, status_at, dirty_bit, lock_bit, stamp_range, handle_range, type_byte_unit, type_unit, smallest_block, zone_header, master_size, longest_zone, argument_range, most_masters, added_masters, added_bytes, length_at, first_at, masters_at, chain_at, clock_at, zero_at, record_size, amount_at, strata, limit_size, limits_length, highest_limit}
use Rattle.block_type.specs.declared.TheConstants.{ZONE_HEADER, MASTER_SIZE, LONGEST_ZONE, ARGUMENT_RANGE, MOST_MASTERS, ADDED_MASTERS, ADDED_BYTES, LENGTH_AT, FIRST_AT, MASTERS_AT, CHAIN_AT, CLOCK_AT, ZERO_AT, RECORD_SIZE, AMOUNT_AT, STRATA, LIMIT_SIZE, LIMITS_LENGTH, HIGHEST_LIMIT}
use Rattle.block_type.specs.declared.TheConstants.BlockType.{TAG_AT, STATUS_AT, DIRTY_BIT, LOCK_BIT, STAMP_RANGE, HANDLE_RANGE, TYPE_BYTE_UNIT, TYPE_UNIT, SMALLEST, TYPE_WORD}

-- ---- of blocks

pub tag_at-is : TAG_AT ≡ tag_at
tag_at-is = refl

pub status_at-is : STATUS_AT ≡ status_at
status_at-is = refl

pub dirty_bit-is : DIRTY_BIT ≡ dirty_bit
dirty_bit-is = refl

pub lock_bit-is : LOCK_BIT ≡ lock_bit
lock_bit-is = refl

pub stamp_range-is : STAMP_RANGE ≡ stamp_range
stamp_range-is = refl

pub handle_range-is : HANDLE_RANGE ≡ handle_range
handle_range-is = refl

pub type_byte_unit-is : TYPE_BYTE_UNIT ≡ type_byte_unit
type_byte_unit-is = refl

pub type_unit-is : TYPE_UNIT ≡ type_unit
type_unit-is = refl

pub smallest_block-is : SMALLEST ≡ smallest_block
smallest_block-is = refl

pub type_word-is : TYPE_WORD ≡ type_unit * handle_range
type_word-is = refl

-- ---- of the zone

pub zone_header-is : ZONE_HEADER ≡ zone_header
zone_header-is = refl

pub master_size-is : MASTER_SIZE ≡ master_size
master_size-is = refl

pub longest_zone-is : LONGEST_ZONE ≡ longest_zone
longest_zone-is = refl

pub argument_range-is : ARGUMENT_RANGE ≡ argument_range
argument_range-is = refl

pub most_masters-is : MOST_MASTERS ≡ most_masters
most_masters-is = refl

pub added_masters-is : ADDED_MASTERS ≡ added_masters
added_masters-is = refl

pub added_bytes-is : ADDED_BYTES ≡ added_bytes
added_bytes-is = refl

pub length_at-is : LENGTH_AT ≡ length_at
length_at-is = refl

pub first_at-is : FIRST_AT ≡ first_at
first_at-is = refl

pub masters_at-is : MASTERS_AT ≡ masters_at
masters_at-is = refl

pub chain_at-is : CHAIN_AT ≡ chain_at
chain_at-is = refl

pub clock_at-is : CLOCK_AT ≡ clock_at
clock_at-is = refl

pub zero_at-is : ZERO_AT ≡ zero_at
zero_at-is = refl

pub record_size-is : RECORD_SIZE ≡ record_size
record_size-is = refl

pub amount_at-is : AMOUNT_AT ≡ amount_at
amount_at-is = refl

pub strata-is : STRATA ≡ strata
strata-is = refl

pub limit_size-is : LIMIT_SIZE ≡ limit_size
limit_size-is = refl

pub limits_length-is : LIMITS_LENGTH ≡ limits_length
limits_length-is = refl

pub highest_limit-is : HIGHEST_LIMIT ≡ highest_limit
highest_limit-is = refl
