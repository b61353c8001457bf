-- The numbers of documents 01 and 02: block types, header lengths, limits, the header of a zone and where its fields lie. `tools/by_name.py` tests
-- that they stand by name everywhere else.
use Rattle.std.specs.Prelude.{ℕ, ◌+◌, ◌*◌, ◌/◌}

-- ---- block types: "0 free, 1 fixed (non-relocatable), 2 relocatable", and 3 (document 02, U5)

abbrev pub free_code : ℕ
free_code = 0

abbrev pub fixed_code : ℕ
fixed_code = 1

abbrev pub reloc_code : ℕ
reloc_code = 2

-- document 02, U5: "A named block has type 3". It is called a page here
abbrev pub page_code : ℕ
page_code = 3

-- ---- header lengths: a free block has "a 4-byte size", a relocatable one "data from byte 4"; of a fixed one "data start at byte 4" (document 02, U6)

abbrev pub free_header : ℕ
free_header = 4

abbrev pub fixed_header : ℕ
fixed_header = 4

abbrev pub reloc_header : ℕ
reloc_header = 4

-- a page "data from byte 8" (document 02, U5)
abbrev pub page_header : ℕ
page_header = 8

-- "Relocatable: the same 14 bits, then the handle (2 bytes)"; of a fixed block "the second word"; of a page "a 4-byte name, a status word"
abbrev pub tag_at : ℕ
tag_at = 2

abbrev pub status_at : ℕ
status_at = 6

-- "In the status word the top bit is dirty, the next is lock, the low byte a stamp": what each bit adds, and what a stamp is below
abbrev pub dirty_bit : ℕ
dirty_bit = 32768

abbrev pub lock_bit : ℕ
lock_bit = 16384

abbrev pub stamp_range : ℕ
stamp_range = 256

-- ---- "A block's first two bits are its type": of its first byte the type is what stands above 6 bits

abbrev pub type_byte_unit : ℕ
type_byte_unit = 64

-- ---- "14-bit size in words": of a block's first two bytes the type is what stands above 14 bits, and a block that is not free has at most
-- this size ("Sizes include the header, are multiples of 4")

abbrev pub type_unit : ℕ
type_unit = 16384

abbrev pub largest_block : ℕ
largest_block = 32764

-- "at least 4": no block is smaller than a free one's header
abbrev pub smallest_block : ℕ
smallest_block = 4

-- "the handle (2 bytes)": handles are below
abbrev pub handle_range : ℕ
handle_range = 65536

-- "Arguments are unsigned 32-bit": they, and the values answered, are below
abbrev pub argument_range : ℕ
argument_range = 4294967296

-- ---- the largest data sizes that may be asked for: "c above 32,760 (relocatable, resize)", "for fixed blocks: c above 32,760" (document 02, U6)
-- is refused

abbrev pub fixed_limit : ℕ
fixed_limit = 32760

abbrev pub reloc_limit : ℕ
reloc_limit = 32760

-- "Create needs up4(8 + c), with c at most 32,756" (document 02, U5)
abbrev pub page_limit : ℕ
page_limit = 32756

-- ---- sizes (a difference of numbers stops at 0, here and everywhere: `3 - 5` is 0)

-- "up4(k) is the least multiple of 4 not below k"
abbrev pub up4 : ℕ → ℕ
up4 k = (k + 3) / 4 * 4

-- "For c data bytes .. a relocatable one [needs] up4(4 + c)"; of a fixed one "The need is up4(4 + c)" (document 02, U6)
abbrev pub fixed_need : ℕ → ℕ
fixed_need c = up4 (fixed_header + c)

abbrev pub reloc_need : ℕ → ℕ
reloc_need c = up4 (reloc_header + c)

abbrev pub page_need : ℕ → ℕ
page_need c = up4 (page_header + c)

-- ---- the zone: "Header, 16 bytes", "Masters follow, 4 bytes each", "bkFst = 16 + 4m"

abbrev pub zone_header : ℕ
zone_header = 16

abbrev pub master_size : ℕ
master_size = 4

abbrev pub first_block : ℕ → ℕ
first_block m = zone_header + master_size * m

-- "L is a multiple of 4, at most the buffer's length and 1,048,576; m ≤ 8,188"

abbrev pub longest_zone : ℕ
longest_zone = 1048576

abbrev pub most_masters : ℕ
most_masters = 8188

-- document 02, U3: "eight masters are added", for which the first bay gives up "32 bytes"

abbrev pub added_masters : ℕ
added_masters = 8

abbrev pub added_bytes : ℕ
added_bytes = master_size * added_masters

-- ---- where the header's fields lie: "at 0 the length L (4 bytes); at 4 bkFst, offset of the first block (4); at 8 m, the number of master
-- pointers (4); at 12 hFstFree, offset of the first free master, 0 for none (2); at 14 two zero bytes"

abbrev pub length_at : ℕ
length_at = 0

abbrev pub first_at : ℕ
first_at = 4

abbrev pub masters_at : ℕ
masters_at = 8

abbrev pub chain_at : ℕ
chain_at = 12

-- document 02, U5: "Header byte 14 becomes a clock, byte 15 remains zero"
abbrev pub clock_at : ℕ
clock_at = 14

abbrev pub zero_at : ℕ
zero_at = 15

-- ---- a roster: "8 bytes a live handle (handle, data size; 4 bytes each)"

abbrev pub record_size : ℕ
record_size = 8

abbrev pub amount_at : ℕ
amount_at = 4

-- ---- a census: "i from 0 to 18"; document 02, U7: "76 bytes: nineteen 4-byte limits in words", "the last is at most 524,288"

abbrev pub strata : ℕ
strata = 19

abbrev pub limit_size : ℕ
limit_size = 4

abbrev pub limits_length : ℕ
limits_length = limit_size * strata

abbrev pub highest_limit : ℕ
highest_limit = 524288
