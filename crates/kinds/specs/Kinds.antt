-- The kinds of movable blocks: what they hold, and what differs between kinds, as type code, header and master. There are two, the relocatable
-- block, which a handle names, and the page, document 02's "named block" (U5). (What is asked of a handle, and of names, stands with the other rules of a
-- zone, in WellFormed.)
use Rattle.std.specs.Prelude.{Bool, false, cond, List, [], ◌∷◌, ◌++◌, ℕ, ◌+◌, ◌%◌, ◌<◌, length, drop, eqb, leb}
use Rattle.bigendian.specs.BigEndian.{to_be, Bytes}
use Rattle.block_type.specs.Limits.{reloc_code, reloc_header, page_code, page_header, dirty_bit, lock_bit, stamp_range, handle_range, argument_range}
use Rattle.format.specs.WellFormed.{handle_of, name_of, status_of, is_page}

-- ---- a page's status: "the top bit is dirty, the next is lock, the low byte a stamp, the rest zero"

pub record Status : Type 0 where
  pub dirty : Bool
  pub lock : Bool
  pub stamp : ℕ

abbrev pub status_word : Status → ℕ
status_word s = cond s.dirty dirty_bit 0 + (cond s.lock lock_bit 0 + s.stamp)

abbrev pub status_in : ℕ → Status
status_in w = record { dirty = leb dirty_bit w; lock = leb lock_bit (w % dirty_bit); stamp = w % stamp_range }

-- ---- what names a movable block: a handle, or a name, which has a status beside it

pub data Key : Type 0 where
  of_handle : ℕ → Key
  of_name : ℕ → Status → Key

-- a movable block by its key and its data
pub record Item : Type 0 where
  pub key : Key
  pub bytes : List ℕ

abbrev pub item : ℕ → List ℕ → Item
item h d = record { key = of_handle h; bytes = d }

abbrev pub page : ℕ → Status → List ℕ → Item
page n s d = record { key = of_name n s; bytes = d }

-- ---- by kind

-- "2 relocatable"; "A named block has type 3"
abbrev pub key_code : Key → ℕ
key_code (of_handle h) = reloc_code
key_code (of_name n s) = page_code

abbrev pub code_of : Item → ℕ
code_of e = key_code e.key

-- "data from byte 4"; "data from byte 8"
abbrev pub key_header : Key → ℕ
key_header (of_handle h) = reloc_header
key_header (of_name n s) = page_header

abbrev pub header_of : Item → ℕ
header_of e = key_header e.key

-- the header behind type and size: "then the handle (2 bytes)"; "a 4-byte name, a status word"
abbrev pub key_tag : Key → List ℕ
key_tag (of_handle h) = to_be 2 h
key_tag (of_name n s) = to_be 4 n ++ to_be 2 (status_word s)

abbrev pub tag_of : Item → List ℕ
tag_of e = key_tag e.key

-- the master that holds "the offset of the block's first data byte": "A handle is its master's offset"; 0 for none
abbrev pub key_master : Key → ℕ
key_master (of_handle h) = h
key_master (of_name n s) = 0

abbrev pub master_of : Item → ℕ
master_of e = key_master e.key

-- the same as a list, which is empty for a page: handles are counted and listed by it. (`master_of` is for what writes a master, or passes a 0 over)
abbrev pub key_masters : Key → List ℕ
key_masters (of_handle h) = h ∷ []
key_masters (of_name n s) = []

abbrev pub masters_of : Item → List ℕ
masters_of e = key_masters e.key

-- its names
abbrev pub key_names : Key → List ℕ
key_names (of_handle h) = []
key_names (of_name n s) = n ∷ []

abbrev pub names_of : Item → List ℕ
names_of e = key_names e.key

-- the same block with other data: "The handle stays"
abbrev pub holding : Item → List ℕ → Item
holding e d = record { key = e.key; bytes = d }

-- its data changed by f
abbrev pub on_data : (List ℕ → List ℕ) → Item → Item
on_data f e = holding e (f e.bytes)

-- a page's status changed by g
abbrev pub key_on_status : (Status → Status) → Key → Key
key_on_status g (of_handle h) = of_handle h
key_on_status g (of_name n s) = of_name n (g s)

abbrev pub on_status : (Status → Status) → Item → Item
on_status g e = record { key = key_on_status g e.key; bytes = e.bytes }

-- whether it is the block of handle h
abbrev pub key_is : ℕ → Key → Bool
key_is h (of_handle k) = eqb h k
key_is h (of_name n s) = false

abbrev pub is : ℕ → Item → Bool
is h e = key_is h e.key

-- whether it is the page of name n
abbrev pub key_named : ℕ → Key → Bool
key_named n (of_handle h) = false
key_named n (of_name k s) = eqb n k

abbrev pub has_name : ℕ → Item → Bool
has_name n e = key_named n e.key

-- "Sizes include the header"; in the ledger "for each handle, 4 plus data size", and a page takes "8 plus its data size"
abbrev pub item_size : Item → ℕ
item_size e = header_of e + length e.bytes

-- ---- from bytes

-- what a movable block's bytes hold: "Data size is block size less header"
abbrev pub item_in : List ℕ → Item
item_in b = cond (is_page b) (page (name_of b) (status_in (status_of b)) (drop page_header b)) (item (handle_of b) (drop reloc_header b))

-- ---- what can be written

-- the numbers beside the data have room in a header: a handle has 2 bytes, a name 4, a stamp one
abbrev pub KeyOk : Key → Type 0
KeyOk (of_handle h) = h < handle_range
KeyOk (of_name n s) = (n < argument_range) × (s.stamp < stamp_range)

abbrev pub ItemOk : Item → Type 0
ItemOk e = KeyOk e.key

-- of a page the same, and nothing of a handle. (`ItemOk` is asked of the blocks of one bay, where nobody knows the masters. Of a whole zone `Valid` asks that handles are masters'
-- offsets, which have room, so of each block this is asked alone)
abbrev pub KeyFits : Key → Type 0
KeyFits (of_handle h) = Unit {0}
KeyFits (of_name n s) = (n < argument_range) × (s.stamp < stamp_range)

-- it can be written, whatever its master: its data are bytes
abbrev pub Written : Item → Type 0
Written e = Bytes e.bytes × KeyFits e.key
