-- Document 01, 'Bytes of a zone', with document 02's U5 and U6: the fields, the blocks, and what a well-formed zone is, rule by rule, as a test that computes.
-- A block is the list of its own bytes; `split_blocks` cuts them out. Type, size, handle, name and status read a block's first bytes
-- alone, so they can be asked of the bytes from a block on, too.
use Rattle.std.specs.Prelude.{ℕ, zero, suc, ◌+◌, ◌*◌, ◌-◌, ◌/◌, ◌%◌, List, [], ◌∷◌, Bool, true, false, cond, not, ◌&&◌, ◌||◌, length, get_or, take, drop, eqb, leb, ltb}
use Rattle.std.proofs.Math.Option.{Option, none, some}
use Rattle.bigendian.specs.BigEndian.{from_be, slice}
use Rattle.memory.specs.Zeros.{all_zero}
use Rattle.block_type.specs.Limits.{free_code, fixed_code, reloc_code, page_code, free_header, reloc_header, page_header, zone_header, master_size, first_block, longest_zone, most_masters, type_unit, smallest_block, tag_at, status_at, lock_bit, stamp_range, type_byte_unit, length_at, first_at, masters_at, chain_at, clock_at, zero_at}
use Rattle.format.specs.Occurs.{occurs}

-- ---- the header: "at 0 the length L (4 bytes); at 4 bkFst, .. (4); at 8 m, .. (4); at 12 hFstFree, .. (2)"

abbrev pub length_field : List ℕ → ℕ
length_field s = from_be (slice s length_at 4)

abbrev pub first_field : List ℕ → ℕ
first_field s = from_be (slice s first_at 4)

abbrev pub masters_field : List ℕ → ℕ
masters_field s = from_be (slice s masters_at 4)

abbrev pub chain_field : List ℕ → ℕ
chain_field s = from_be (slice s chain_at 2)

-- "Header byte 14 becomes a clock" (document 02, U5)
abbrev pub clock_field : List ℕ → ℕ
clock_field s = get_or s clock_at 0

-- "the buffer has at least 16 bytes; .. L is a multiple of 4, at most the buffer's length and 1,048,576; m ≤ 8,188; bkFst as above and
-- ≤ L"; of the header bytes 14 and 15 "byte 15 remains zero" (document 02, U5)
unfoldable pub header_ok : List ℕ → Bool
header_ok s =
    leb zone_header (length s)
    && (eqb (get_or s zero_at 0) 0
    && eqb (length_field s % 4) 0
    && leb (length_field s) (length s)
    && leb (length_field s) longest_zone
    && leb (masters_field s) most_masters
    && eqb (first_field s) (first_block (masters_field s))
    && leb (first_field s) (length_field s))

-- ---- blocks

-- "A block's first two bits are its type"
unfoldable pub type_of : List ℕ → ℕ
type_of b = get_or b 0 0 / type_byte_unit

-- in bytes, the header included: "Free: a 4-byte size in 2-byte words", "Fixed: 14-bit size in words", "Relocatable: the same"; of a page "the
-- 14-bit size"
unfoldable pub size_of : List ℕ → ℕ
size_of b = cond (eqb (type_of b) free_code) (from_be (take 4 b) * 2) (from_be (take 2 b) % type_unit * 2)

-- "then the handle (2 bytes)"
unfoldable pub handle_of : List ℕ → ℕ
handle_of b = from_be (slice b tag_at 2)

-- of a fixed block: "the second word" (document 02, U6), where a relocatable one has its handle
abbrev pub second_word : List ℕ → ℕ
second_word b = handle_of b

-- of a page: "a 4-byte name, a status word" (document 02, U5)
unfoldable pub name_of : List ℕ → ℕ
name_of b = from_be (slice b tag_at 4)

unfoldable pub status_of : List ℕ → ℕ
status_of b = from_be (slice b status_at 2)

unfoldable pub is_free : List ℕ → Bool
is_free b = eqb (type_of b) free_code

unfoldable pub is_fixed : List ℕ → Bool
is_fixed b = eqb (type_of b) fixed_code

unfoldable pub is_reloc : List ℕ → Bool
is_reloc b = eqb (type_of b) reloc_code

-- a page is what document 02, U5, calls a named block: "A named block has type 3"
unfoldable pub is_page : List ℕ → Bool
is_page b = eqb (type_of b) page_code

-- the blocks of a list of bytes, each as long as its header says, after k bytes that are passed over
unfoldable pub split_from : ℕ → List ℕ → List (List ℕ)
split_from k [] = []
split_from zero (x ∷ xs) = take (size_of (x ∷ xs)) (x ∷ xs) ∷ split_from (size_of (x ∷ xs) - 1) xs
split_from (suc k) (x ∷ xs) = split_from k xs

abbrev pub split_blocks : List ℕ → List (List ℕ)
split_blocks s = split_from 0 s

-- how many are relocatable
unfoldable pub relocs : List (List ℕ) → ℕ
relocs [] = 0
relocs (b ∷ bs) = cond (is_reloc b) 1 0 + relocs bs

-- the rule ok of every block
unfoldable pub every : (List ℕ → Bool) → List (List ℕ) → Bool
every ok [] = true
every ok (b ∷ bs) = ok b && every ok bs

-- "types are 0 to 2", and 3
unfoldable pub type_ok : List ℕ → Bool
type_ok b = leb (type_of b) page_code

-- "Sizes include the header, are multiples of 4 and at least 4"
unfoldable pub size_ok : List ℕ → Bool
size_ok b = leb smallest_block (size_of b) && eqb (size_of b % 4) 0

-- "blocks tile bkFst to L": none runs past L
unfoldable pub tile_ok : List ℕ → Bool
tile_ok b = eqb (size_of b) (length b)

-- "Free: .. all later bytes zero"
unfoldable pub zeros_ok : List ℕ → Bool
zeros_ok b = not (is_free b) || all_zero (drop free_header b)

-- "A fixed block's header becomes 4 bytes, the second word zero" (document 02, U6)
unfoldable pub second_ok : List ℕ → Bool
second_ok b = not (is_fixed b) || eqb (second_word b) 0

-- of a page: "its size is at least 8"
unfoldable pub page_size_ok : List ℕ → Bool
page_size_ok b = not (is_page b) || leb page_header (size_of b)

-- "In the status word the top bit is dirty, the next is lock, the low byte a stamp, the rest zero"
unfoldable pub status_ok : List ℕ → Bool
status_ok b = not (is_page b) || ltb (status_of b % lock_bit) stamp_range

-- the names of the pages, in address order
unfoldable pub names : List (List ℕ) → List ℕ
names [] = []
names (b ∷ bs) = cond (is_page b) (name_of b ∷ names bs) (names bs)

-- "Names are distinct in a well-formed zone": none stands again behind itself
unfoldable pub distinct : List ℕ → Bool
distinct [] = true
distinct (n ∷ ns) = eqb (occurs n ns) 0 && distinct ns

-- "no two free blocks are neighbours"; free: the block before is
unfoldable pub neighbours_ok : Bool → List (List ℕ) → Bool
neighbours_ok free [] = true
neighbours_ok free (b ∷ bs) = not (free && is_free b) && neighbours_ok (is_free b) bs

-- ---- masters; first is bkFst, where they end

-- h is a master's offset: "Masters follow, 4 bytes each, at 16 + 4i for i below m"
unfoldable pub is_master : ℕ → ℕ → Bool
is_master first h = leb zone_header h && leb (h + master_size) first && eqb (h % 4) 0

abbrev pub master_at : List ℕ → ℕ → ℕ
master_at z h = from_be (slice z h 4)

-- the n masters' offsets from k on
unfoldable pub offsets : ℕ → ℕ → List ℕ
offsets k zero = []
offsets k (suc n) = k ∷ offsets (k + master_size) n

-- "each relocatable block's handle is a master's offset and that master holds the block's data offset"; the first block is at `at`
unfoldable pub handles_ok : List ℕ → ℕ → ℕ → List (List ℕ) → Bool
handles_ok z first at [] = true
handles_ok z first at (b ∷ bs) =
    (not (is_reloc b) || (is_master first (handle_of b) && eqb (master_at z (handle_of b)) (at + reloc_header)))
    && handles_ok z first (at + length b) bs

abbrev pub linked : ℕ → Option (List ℕ) → Option (List ℕ)
linked h none = none
linked h (some hs) = some (h ∷ hs)

-- "the chain from hFstFree visits only masters and ends in 0": the masters that it visits from h on, n of them at most;
-- none where it visits anything else, or goes on
unfoldable pub chain_from : List ℕ → ℕ → ℕ → ℕ → Option (List ℕ)
chain_from z first zero h = cond (eqb h 0) (some []) none
chain_from z first (suc n) h =
    cond (eqb h 0) (some []) (cond (is_master first h) (linked h (chain_from z first n (master_at z h))) none)

-- the n masters of a chain from h on
unfoldable pub chain : List ℕ → ℕ → ℕ → List ℕ
chain z zero h = []
chain z (suc n) h = h ∷ chain z n (master_at z h)

-- "relocatable blocks plus chain length equal m"
abbrev pub counts_ok : ℕ → ℕ → Option (List ℕ) → Bool
counts_ok m k none = false
counts_ok m k (some hs) = eqb (k + length hs) m

-- ---- the zone

-- the bytes of the zone in a buffer: "Bytes beyond L are free of any rule"
abbrev pub zone_of : List ℕ → List ℕ
zone_of s = take (length_field s) s

-- the rules of a zone z's blocks bs, which begin at first
unfoldable pub block_rules : List ℕ → ℕ → List (List ℕ) → Bool
block_rules z first bs =
    every type_ok bs
    && every size_ok bs
    && every tile_ok bs
    && every zeros_ok bs
    && every second_ok bs
    && every page_size_ok bs
    && every status_ok bs
    && neighbours_ok false bs
    && handles_ok z first first bs

unfoldable pub zone_rules : List ℕ → ℕ → ℕ → ℕ → Bool
zone_rules z first m head =
    block_rules z first (split_blocks (drop first z))
    && counts_ok m (relocs (split_blocks (drop first z))) (chain_from z first m head)
    && distinct (names (split_blocks (drop first z)))

unfoldable pub well_formed : List ℕ → Bool
well_formed s = header_ok s && zone_rules (zone_of s) (first_field s) (masters_field s) (chain_field s)

-- how many relocatable blocks; 0 where the zone is not well-formed
unfoldable pub count_of : List ℕ → ℕ
count_of s = cond (well_formed s) (relocs (split_blocks (drop (first_field s) (zone_of s)))) 0
