-- A bay of a zone, among the blocks of the zone's structure, from whose end n bytes can be taken.
use Rattle.std.specs.Prelude.{◌≡◌, List, ◌++◌, map, ℕ, ◌%◌, ◌≤◌}
use Rattle.block_type.specs.Limits.{free_header}
use Rattle.bay.specs.Bay.{Cell, bay_sum}
use Rattle.structure.specs.Structure.{Block, cell, start, decode_zone}
use Rattle.bays.specs.Found.{Numbers}
use Rattle.structure.specs.IsZone.{IsZone}

pub record Run (z : List ℕ) (n a e sum tail : ℕ) : Type 0 where
  pub zone : IsZone z
  pub before : List Block
  pub bay : List Cell
  pub after : List Block
  pub parts : (decode_zone z).blocks ≡ before ++ (map cell bay ++ after)
  pub numbers : Numbers (start (decode_zone z)) before bay a e sum tail
  pub low : free_header ≤ n
  pub fits : n ≤ bay_sum bay
  pub four : n % 4 ≡ 0
