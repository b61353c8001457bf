-- The block that a handle, a pointer or a name names: where its data lie, and which they are, in the structure of a zone.
use Rattle.std.specs.Prelude.{cond, List, ℕ, eqb}
use Rattle.format.specs.WellFormed.{well_formed, zone_of}
use Rattle.structure.specs.Structure.{start, decode_zone}
use Rattle.access.specs.Named.{place_among, data_among}
use Rattle.calls.specs.Calls.{Target, by_handle, by_pointer, by_name}

-- where the data of the named block begin in the bytes of a zone, with none beyond its length, 0 for none, and these data
unfoldable pub target_place : Target → List ℕ → ℕ
target_place t z = place_among t (start (decode_zone z)) (decode_zone z).blocks

unfoldable pub target_data : Target → List ℕ → List ℕ
target_data t z = data_among t (start (decode_zone z)) (decode_zone z).blocks

-- the name of the page that is sought; 0 where the block is no page
abbrev pub name_in : Target → ℕ
name_in (by_handle h) = 0
name_in (by_pointer p) = 0
name_in (by_name n) = n

-- the refusal where no block is so named
abbrev pub absent_number : Target → ℕ
absent_number (by_handle h) = 6
absent_number (by_pointer p) = 7
absent_number (by_name n) = 13

-- the refusal of a block in a buffer: 1, 6, 7 or 13; 0 for none
unfoldable pub block_number : Target → List ℕ → ℕ
block_number t s = cond (well_formed s) (cond (eqb (target_place t (zone_of s)) 0) (absent_number t) 0) 1
