-- A block among cells that becomes free, and the place of it with its free neighbours.
use Rattle.std.specs.Prelude.{◌≡◌, List, [], ◌∷◌, ◌++◌, map, ℕ, ◌+◌}
use Rattle.bay.specs.Bay.{Cell, bay_size, gap, join_bays}
use Rattle.bay.specs.Ends.{free_part, end_free, start_free}
use Rattle.structure.specs.Structure.{Block, cell, fixed, size, sizes, start, decode_zone}
use Rattle.structure.specs.IsZone.{IsZone}

-- the free bytes of a block
abbrev pub part_of : Block → ℕ
part_of (cell c) = free_part c
part_of (fixed d) = 0

-- of the last of some blocks, k where there is none
abbrev pub last_part : ℕ → List Block → ℕ
last_part k [] = k
last_part k (b ∷ bs) = last_part (part_of b) bs

-- of the first
abbrev pub first_part : List Block → ℕ
first_part [] = 0
first_part (b ∷ bs) = part_of b

-- the block b stands between the cells low and high of the blocks bs, and bs' are the blocks where it is free
pub record Around (bs bs' : List Block) (b : Block) : Type 0 where
  pub pre : List Block
  pub low : List Cell
  pub high : List Cell
  pub post : List Block
  pub old : bs ≡ pre ++ (map cell low ++ (b ∷ (map cell high ++ post)))
  pub new : bs' ≡ pre ++ (map cell (join_bays low (gap (size b) high)) ++ post)
  pub pre_used : last_part 0 pre ≡ 0
  pub post_used : first_part post ≡ 0

-- in the zone z that block lies from `at` up to `end`, and with its free neighbours from `from` up to `to`
pub record Freeing (z : List ℕ) (bs' : List Block) (b : Block) (from at end to : ℕ) : Type 0 where
  pub zone : IsZone z
  pub around : Around (decode_zone z).blocks bs' b
  pub at_is : at ≡ start (decode_zone z) + (sizes around.pre + bay_size around.low)
  pub end_is : end ≡ at + size b
  pub from_is : from + end_free around.low ≡ at
  pub to_is : to ≡ end + start_free around.high
