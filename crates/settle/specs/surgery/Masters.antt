-- The masters' pass over blocks of a zone.
use Rattle.std.specs.Prelude.{List, [], ◌∷◌, cond, ℕ, ◌+◌, eqb}
use Rattle.bigendian.specs.BigEndian.{to_be, overwrite}
use Rattle.kinds.specs.Kinds.{header_of, master_of}
use Rattle.bay.specs.Bay.{free, held}
use Rattle.structure.specs.Structure.{Block, fixed, size, cell}

-- the zone z with the master of a block at offset at holding its first data byte
unfoldable pub set_one : ℕ → Block → List ℕ → List ℕ
set_one at (cell (free n)) z = z
set_one at (fixed d) z = z
set_one at (cell (held e)) z = cond (eqb (master_of e) 0) z (overwrite z (master_of e) (to_be 4 (at + header_of e)))

-- the same for each block of a list, the first of them at offset at
unfoldable pub set_all : ℕ → List Block → List ℕ → List ℕ
set_all at [] z = z
set_all at (b ∷ bs) z = set_all (at + size b) bs (set_one at b z)
