-- The block that a handle, a pointer or a name names, among blocks of which the first starts at offset `at`: where its data begin, and which they are.
use Rattle.std.specs.Prelude.{Bool, false, cond, List, [], ◌∷◌, ℕ, ◌+◌, eqb}
use Rattle.block_type.specs.Limits.{free_header, fixed_header}
use Rattle.kinds.specs.Kinds.{header_of, holding, is, has_name}
use Rattle.bay.specs.Bay.{free, held}
use Rattle.calls.specs.Calls.{Target, by_handle, by_pointer, by_name}
use Rattle.structure.specs.Structure.{Block, fixed, size, cell}

-- whether t names the block that starts at offset `at`; a pointer names a fixed block by where its data begin
abbrev pub names : Target → ℕ → Block → Bool
names (by_handle h) at (cell (free n)) = false
names (by_handle h) at (fixed d) = false
names (by_handle h) at (cell (held e)) = is h e
names (by_pointer p) at (cell c) = false
names (by_pointer p) at (fixed d) = eqb p (at + fixed_header)
names (by_name i) at (cell (free n)) = false
names (by_name i) at (fixed d) = false
names (by_name i) at (cell (held e)) = has_name i e

abbrev pub header_of_block : Block → ℕ
header_of_block (cell (free n)) = free_header
header_of_block (cell (held e)) = header_of e
header_of_block (fixed d) = fixed_header

abbrev pub held_by : Block → List ℕ
held_by (cell (free n)) = []
held_by (cell (held e)) = e.bytes
held_by (fixed d) = d

-- a block with its data changed by f
abbrev pub refill : (List ℕ → List ℕ) → Block → Block
refill f (cell (free n)) = cell (free n)
refill f (cell (held e)) = cell (held (holding e (f e.bytes)))
refill f (fixed d) = fixed (f d)

-- where the data of the named block begin, 0 for none, and these data
unfoldable pub place_among : Target → ℕ → List Block → ℕ
place_among t at [] = 0
place_among t at (b ∷ bs) = cond (names t at b) (at + header_of_block b) (place_among t (at + size b) bs)

unfoldable pub data_among : Target → ℕ → List Block → List ℕ
data_among t at [] = []
data_among t at (b ∷ bs) = cond (names t at b) (held_by b) (data_among t (at + size b) bs)
