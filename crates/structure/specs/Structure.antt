-- The structure of a zone: its blocks in address order and the chain of its free masters; the bytes that a structure stands for,
-- and the structure of some bytes. The length and the number of masters follow from the two.
use Rattle.std.specs.Prelude.{List, [], ◌∷◌, ◌++◌, map, Bool, cond, ℕ, zero, suc, ◌+◌, ◌*◌, ◌-◌, ◌/◌, length, drop, eqb}
use Rattle.bigendian.specs.BigEndian.{to_be}
use Rattle.block_type.specs.Limits.{fixed_code, fixed_header, zone_header, first_block, type_unit}
use Rattle.kinds.specs.Kinds.{Item, header_of, masters_of, names_of, is, item_size, item_in}
use Rattle.bay.specs.Bay.{Cell, free, held, cell_size, cell_code}
use Rattle.bay.specs.Bytes.{encode_cell}
use Rattle.format.specs.WellFormed.{first_field, masters_field, chain_field, clock_field, type_of, size_of, split_blocks, relocs, zone_of, offsets, chain}

-- a block of a bay, free or movable, or a fixed block by its data
pub data Block : Type 0 where
  cell : Cell → Block
  fixed : List ℕ → Block

pub record Structure : Type 0 where
  -- document 02, U5: "Header byte 14 becomes a clock"
  pub clock : ℕ
  -- the free masters, in the order of the chain
  pub chain : List ℕ
  pub blocks : List Block

-- ---- the bytes of a structure

-- "Sizes include the header"
abbrev pub size : Block → ℕ
size (cell c) = cell_size c
size (fixed d) = fixed_header + length d

-- its type
abbrev pub code : Block → ℕ
code (cell c) = cell_code c
code (fixed d) = fixed_code

-- what a fixed block's header has behind type and size: "the second word zero" (document 02, U6)
abbrev pub fixed_tag : List ℕ
fixed_tag = 0 ∷ 0 ∷ []

-- "Fixed: 14-bit size in words", "data start at byte 4"
unfoldable pub encode_block : Block → List ℕ
encode_block (cell c) = encode_cell c
encode_block (fixed d) = to_be 2 (fixed_code * type_unit + (fixed_header + length d) / 2) ++ (fixed_tag ++ d)

unfoldable pub sizes : List Block → ℕ
sizes [] = 0
sizes (b ∷ bs) = size b + sizes bs

-- the handles of the blocks
unfoldable pub handles_of : List Block → List ℕ
handles_of [] = []
handles_of (cell (free n) ∷ bs) = handles_of bs
handles_of (cell (held e) ∷ bs) = masters_of e ++ handles_of bs
handles_of (fixed d ∷ bs) = handles_of bs

-- the names of the pages
unfoldable pub names_in : List Block → List ℕ
names_in [] = []
names_in (cell (free n) ∷ bs) = names_in bs
names_in (cell (held e) ∷ bs) = names_of e ++ names_in bs
names_in (fixed d ∷ bs) = names_in bs

-- m: "relocatable blocks plus chain length"
abbrev pub count : Structure → ℕ
count s = length (handles_of s.blocks) + length s.chain

-- bkFst
abbrev pub start : Structure → ℕ
start s = first_block (count s)

-- L: "Blocks fill bkFst to L"
abbrev pub len : Structure → ℕ
len s = start s + sizes s.blocks

-- "0 for none"
abbrev pub head_of : List ℕ → ℕ
head_of [] = 0
head_of (h ∷ hs) = h

-- the data offset of the first block that passes the test, the first block of all being at offset `at`; 0 where there is none
unfoldable pub place_of : (Item → Bool) → ℕ → List Block → ℕ
place_of t at [] = 0
place_of t at (cell (free n) ∷ bs) = place_of t (at + n) bs
place_of t at (cell (held e) ∷ bs) = cond (t e) (at + header_of e) (place_of t (at + item_size e) bs)
place_of t at (fixed d ∷ bs) = place_of t (at + (fixed_header + length d)) bs

-- what follows h in the chain; 0 where there is nothing
unfoldable pub next_of : ℕ → List ℕ → ℕ
next_of h [] = 0
next_of h (k ∷ ks) = cond (eqb h k) (head_of ks) (next_of h ks)

-- "A live master holds the offset of the block's first data byte, a free one the next free master's offset or 0": a master
-- is a block's or in the chain, so one of the two numbers is 0
abbrev pub value : Structure → ℕ → ℕ
value s h = place_of (is h) (start s) s.blocks + next_of h s.chain

-- 4 bytes for each number
unfoldable pub words : (ℕ → ℕ) → List ℕ → List ℕ
words f [] = []
words f (h ∷ hs) = to_be 4 (f h) ++ words f hs

unfoldable pub join : List (List ℕ) → List ℕ
join [] = []
join (b ∷ bs) = b ++ join bs

-- "at 0 the length L (4 bytes); at 4 bkFst, .. (4); at 8 m, .. (4); at 12 hFstFree, .. (2)"; "byte 14 becomes a clock, byte 15 remains zero"
unfoldable pub header : Structure → List ℕ
header s = to_be 4 (len s) ++ (to_be 4 (start s) ++ (to_be 4 (count s) ++ (to_be 2 (head_of s.chain) ++ s.clock ∷ 0 ∷ [])))

-- "Masters follow, 4 bytes each, at 16 + 4i for i below m", then the blocks
unfoldable pub encode : Structure → List ℕ
encode s = header s ++ (words (value s) (offsets zone_header (count s)) ++ join (map encode_block s.blocks))

-- ---- the structure of bytes

abbrev pub by_type : ℕ → Block → Block → Block → Block
by_type zero a b c = a
by_type (suc zero) a b c = b
by_type (suc (suc k)) a b c = c

unfoldable pub decode_block : List ℕ → Block
decode_block b = by_type (type_of b) (cell (free (size_of b))) (fixed (drop fixed_header b)) (cell (held (item_in b)))

-- of the bytes of a zone, with none beyond its length
unfoldable pub decode_zone : List ℕ → Structure
decode_zone z = record {
  clock = clock_field z;
  chain = chain z (masters_field z - relocs (split_blocks (drop (first_field z) z))) (chain_field z);
  blocks = map decode_block (split_blocks (drop (first_field z) z));
}

unfoldable pub decode : List ℕ → Structure
decode s = decode_zone (zone_of s)
