-- A structure with a new fixed block, and the bay that makes room for it.
use Rattle.std.specs.Prelude.{◌≡◌, List, ℕ, ◌%◌, ◌≤◌}
use Rattle.block_type.specs.Limits.{free_header, largest_block}
use Rattle.structure.specs.Structure.{Structure, start, len, decode_zone}
use Rattle.calls.specs.Bays.{Bays}
use Rattle.calls.specs.State.{Fixed}
use Rattle.bay.specs.Bay.{Cell, take_high}
use Rattle.zone.specs.Group.{group, flatten}
use Rattle.zone.specs.Work.{place_high}
use Rattle.bays.specs.Found.{FoundHigh}
use Rattle.structure.specs.IsZone.{IsZone}

-- a new fixed block of need bytes, and the bays with it
abbrev pub room : ℕ → Structure → Fixed × Bays (List Cell) Fixed
room need s = place_high need (len s) (group (start s) s.blocks)

abbrev pub placed : ℕ → Structure → Structure
placed need s = record { clock = s.clock; chain = s.chain; blocks = flatten (room need s).1 }

-- the bay from a to e of the zone z makes room for a block of need bytes
pub record Site (z : List ℕ) (need a e sum tail : ℕ) : Type 0 where
  pub zone : IsZone z
  pub found : FoundHigh need (start (decode_zone z)) (len (decode_zone z)) (take_high need) (group (start (decode_zone z)) (decode_zone z).blocks) (room need (decode_zone z)) a e sum tail
  pub low : free_header ≤ need
  pub four : need % 4 ≡ 0
  pub high : need ≤ largest_block
