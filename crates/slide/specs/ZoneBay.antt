-- A bay in the bytes of a zone, and other cells in its place.
use Rattle.std.specs.Prelude.{List, [], ◌∷◌, cond, ℕ, ◌+◌, ◌-◌, ◌≤◌, length, eqb}
use Rattle.bigendian.specs.BigEndian.{to_be, slice, overwrite}
use Rattle.block_type.specs.Limits.{longest_zone, master_size}
use Rattle.kinds.specs.Kinds.{header_of, master_of}
use Rattle.bay.specs.Bay.{Cell, free, held, cell_size}
use Rattle.bay.specs.Sound.{bytes_of, cells_of, IsBay}

-- ---- masters

-- the master of a block, 0 for none
abbrev pub owner_of : Cell → ℕ
owner_of (free n) = 0
owner_of (held e) = master_of e

-- "A live master holds the offset of the block's first data byte": the zone z with the master of the block at `at` set
unfoldable pub set_one : ℕ → Cell → List ℕ → List ℕ
set_one at (free n) z = z
set_one at (held e) z = cond (eqb (master_of e) 0) z (overwrite z (master_of e) (to_be 4 (at + header_of e)))

-- the same for each block, the first of them at `at`
unfoldable pub set_all : ℕ → List Cell → List ℕ → List ℕ
set_all at [] z = z
set_all at (c ∷ cs) z = set_all (at + cell_size c) cs (set_one at c z)

-- the masters lie below offset lim
abbrev pub Low : ℕ → List Cell → Type 0
Low lim [] = Unit {0}
Low lim (c ∷ cs) = (owner_of c + master_size ≤ lim) × Low lim cs

-- the same as one fact, for a contract
pub data IsLow (lim : ℕ) (cs : List Cell) : Type 0 where
  is_low : Low lim cs → IsLow lim cs

-- ---- the bay from a to e

abbrev pub part_of : List ℕ → ℕ → ℕ → List ℕ
part_of z a e = slice z a (e - a)

abbrev pub bay_cells : List ℕ → ℕ → ℕ → List Cell
bay_cells z a e = cells_of (part_of z a e)

-- the bytes of z from a to e are a bay, whose masters lie before it
pub record ZoneBay (z : List ℕ) (a e : ℕ) : Type 0 where
  pub order : a ≤ e
  pub inside : e ≤ length z
  pub short : length z ≤ longest_zone
  pub bay : IsBay (part_of z a e)
  pub low : IsLow a (bay_cells z a e)

-- z with the cells cs from a on, and their masters follow
unfoldable pub settled : List ℕ → ℕ → List Cell → List ℕ
settled z a cs = set_all a cs (overwrite z a (bytes_of cs))
