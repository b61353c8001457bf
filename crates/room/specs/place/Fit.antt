-- A block that is cut out of a free one.
use Rattle.std.specs.Prelude.{◌≡◌, false, cond, List, ℕ, ◌+◌, ◌-◌, ◌/◌, ◌%◌, ◌≤◌, ltb, length, replicate}
use Rattle.bigendian.specs.BigEndian.{slice, to_be, overwrite}
use Rattle.block_type.specs.Limits.{reloc_header, page_header, master_size, largest_block, longest_zone}
use Rattle.kinds.specs.Kinds.{Item, item, page}
use Rattle.bay.specs.Bay.{free}
use Rattle.bay.specs.Bytes.{encode_cell}

-- a relocatable block of need bytes with handle h: "Data are zero"
abbrev pub blank : ℕ → ℕ → Item
blank need h = item h (replicate (need - reloc_header) 0)

-- a page of need bytes with name n: "A new block has both flags clear and zero data" (document 02, U5)
abbrev pub blank_page : ℕ → ℕ → ℕ → Item
blank_page need n stamp = page n (record { dirty = false; lock = false; stamp = stamp }) (replicate (need - page_header) 0)

-- the sizes that a movable block can have (a page has at least `page_header` bytes, which is asked beside this)
pub record Size (need : ℕ) : Type 0 where
  pub low : reloc_header ≤ need
  pub high : need ≤ largest_block
  pub four : need % 4 ≡ 0

-- a free block of n bytes at `at` has room for need bytes, and master h lies below it (0 for a block without a master)
pub record Fit (z : List ℕ) (at n need h : ℕ) : Type 0 where
  pub inside : at + n ≤ length z
  pub short : length z ≤ longest_zone
  pub below : h + master_size ≤ at
  pub size : Size need
  pub fits : need ≤ n
  pub four_n : n % 4 ≡ 0
  pub bytes : slice z at n ≡ encode_cell (free n)

-- behind need bytes of the n free ones at `at`, the header of a free block over what is left, where something is
abbrev pub with_rest : List ℕ → ℕ → ℕ → ℕ → List ℕ
with_rest z at n need = cond (ltb need n) (overwrite z (at + need) (to_be 4 ((n - need) / 2))) z
