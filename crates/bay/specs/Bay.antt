-- One bay of a zone: its blocks in address order, and what each call does to it. Pages, document 02's named blocks, "slide as relocatable ones do" (U5): what
-- is said here of an item is said of both kinds.
use Rattle.std.specs.Prelude.{Bool, cond, List, [], ◌∷◌, ◌++◌, map, ℕ, zero, suc, ◌+◌, ◌-◌, length, leb}
use Rattle.std.proofs.Math.Option.{Option, none, some, get_or}
use Rattle.calls.specs.Bays.{over}
use Rattle.block_type.specs.Limits.{free_code}
use Rattle.kinds.specs.Kinds.{Item, code_of, on_data, item_size, is}
use Rattle.calls.specs.State.{total, alter, sized}

-- ---- a bay's blocks: free ones by their size, movable ones (relocatable blocks and pages) by what they hold

pub data Cell : Type 0 where
  free : ℕ → Cell
  held : Item → Cell

abbrev pub cell_size : Cell → ℕ
cell_size (free n) = n
cell_size (held e) = item_size e

-- its type
abbrev pub cell_code : Cell → ℕ
cell_code (free n) = free_code
cell_code (held e) = code_of e

abbrev pub bay_size : List Cell → ℕ
bay_size [] = 0
bay_size (c ∷ cs) = cell_size c + bay_size cs

-- "Its sum is the total size of its free blocks"
abbrev pub bay_sum : List Cell → ℕ
bay_sum [] = 0
bay_sum (free n ∷ cs) = n + bay_sum cs
bay_sum (held e ∷ cs) = bay_sum cs

abbrev pub items : List Cell → List Item
items [] = []
items (free n ∷ cs) = items cs
items (held e ∷ cs) = e ∷ items cs

-- n free bytes in front of a bay's blocks, merged with a free one that follows
abbrev pub merge : ℕ → List Cell → List Cell
merge n [] = free n ∷ []
merge n (free k ∷ cs) = free (n + k) ∷ cs
merge n (held e ∷ cs) = free n ∷ held e ∷ cs

-- the same, and nothing for 0
abbrev pub gap : ℕ → List Cell → List Cell
gap zero cs = cs
gap (suc n) cs = merge (suc n) cs

-- movable blocks one after the other, then the cells t
abbrev pub packed : List Item → List Cell → List Cell
packed [] t = t
packed (e ∷ es) t = held e ∷ packed es t

-- one bay after another, merged at the seam
abbrev pub join_bays : List Cell → List Cell → List Cell
join_bays [] t = t
join_bays (free n ∷ cs) t = gap n (join_bays cs t)
join_bays (held e ∷ cs) t = held e ∷ join_bays cs t

-- "its relocatable blocks go to its start in old order, one free block holds the rest (none for 0), masters follow" (a master holds where
-- its block is: `value` in Structure), and pages with them in that order
abbrev pub compact_bay : List Cell → List Cell
compact_bay cs = packed (items cs) (gap (bay_sum cs) [])

-- the same with n free bytes less: the held blocks in old order without gaps, then one free block, or none
abbrev pub packed_less : ℕ → List Cell → List Cell
packed_less n cs = packed (items cs) (gap (bay_sum cs - n) [])

-- ---- allocation

-- a free block, with what stands before it and after it
pub record Hole : Type 0 where
  pub before : List Cell
  pub size : ℕ
  pub after : List Cell

-- the same with one block more before it
abbrev pub behind : Cell → Hole → Hole
behind c x = record { before = c ∷ x.before; size = x.size; after = x.after }

-- the free blocks of a bay, the lowest first
abbrev pub holes : List Cell → List Hole
holes [] = []
holes (free n ∷ cs) = record { before = []; size = n; after = cs } ∷ map (behind (free n)) (holes cs)
holes (held e ∷ cs) = map (behind (held e)) (holes cs)

-- x is at least as tight as y
abbrev pub as_tight : Hole → Hole → Bool
as_tight x y = leb x.size y.size

-- the smaller of two, the first of equals
abbrev pub tighter : Hole → Option Hole → Hole
tighter x none = x
tighter x (some y) = cond (as_tight x y) x y

-- "the smallest free block that is big enough, the lowest of equals" (document 02, U2)
abbrev pub choose : ℕ → List Hole → Option Hole
choose n [] = none
choose n (x ∷ xs) = cond (leb n x.size) (some (tighter x (choose n xs))) (choose n xs)

-- "from its low end"
abbrev pub fill : Item → Hole → List Cell
fill e x = x.before ++ (held e ∷ gap (x.size - item_size e) x.after)

-- "if none is, the bay is compacted first"
abbrev pub put : Item → List Cell → List Cell
put e cs = get_or (over (fill e) (choose (item_size e) (holes cs))) (packed (items cs) (held e ∷ gap (bay_sum cs - item_size e) []))

-- "If its last block is free and big enough, the high end of that": the bay without those n bytes
abbrev pub trim : ℕ → List Cell → Option (List Cell)
trim n [] = none
trim n (free k ∷ []) = cond (leb n k) (some (gap (k - n) [])) none
trim n (free k ∷ (c ∷ cs)) = over (free k ∷◌) (trim n (c ∷ cs))
trim n (held e ∷ cs) = over (held e ∷◌) (trim n cs)

-- "else after compacting"
abbrev pub take_high : ℕ → List Cell → List Cell
take_high n cs = get_or (trim n cs) (packed_less n cs)

-- ---- freeing, writing

-- "the block becomes free, merged with free neighbours": each that passes the test
abbrev pub release : (Item → Bool) → List Cell → List Cell
release t [] = []
release t (free n ∷ cs) = gap n (release t cs)
release t (held e ∷ cs) = cond (t e) (gap (item_size e) (release t cs)) (held e ∷ release t cs)

-- each block that passes the test changed by g
abbrev pub edit : (Item → Bool) → (Item → Item) → List Cell → List Cell
edit t g [] = []
edit t g (free n ∷ cs) = free n ∷ edit t g cs
edit t g (held e ∷ cs) = held (alter t g e) ∷ edit t g cs

-- ---- resize: "new data size a = up4(c), old b"

abbrev pub resized : ℕ → Item → Item
resized a e = on_data (sized a) e

-- "into the free block right after it if that has at least a − b bytes"; n is a − b
abbrev pub grow_into : Item → ℕ → List Cell → Option (List Cell)
grow_into d n [] = none
grow_into d n (free k ∷ cs) = cond (leb n k) (some (held d ∷ gap (k - n) cs)) none
grow_into d n (held e ∷ cs) = none

-- "For a ≤ b the tail is freed and merged", else it grows into the cells cs after it
abbrev pub in_place : Item → ℕ → List Cell → Option (List Cell)
in_place e a cs =
    cond (leb a (length e.bytes))
    (some (held (resized a e) ∷ gap (length e.bytes - a) cs))
    (grow_into (resized a e) (a - length e.bytes) cs)

-- the bay with the block of handle h at its new size where it stands; none where there is no room
abbrev pub grow_here : ℕ → ℕ → List Cell → Option (List Cell)
grow_here h a [] = none
grow_here h a (free k ∷ cs) = over (free k ∷◌) (grow_here h a cs)
grow_here h a (held e ∷ cs) = cond (is h e) (in_place e a cs) (over (held e ∷◌) (grow_here h a cs))

-- "or, failing that, the bay is laid out as compacted with this block at its new size"
abbrev pub reshape : ℕ → ℕ → List Cell → List Cell
reshape h a cs =
    get_or
    (grow_here h a cs)
    (packed (map (alter (is h) (on_data (sized a))) (items cs)) (gap (bay_size cs - total (map (alter (is h) (on_data (sized a))) (items cs))) []))
