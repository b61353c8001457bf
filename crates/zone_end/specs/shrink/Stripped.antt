-- A structure without the last bytes of its last bay.
use Rattle.std.specs.Prelude.{◌≡◌, List, ℕ, ◌*◌, ◌/◌, ◌%◌, ◌≤◌, min}
use Rattle.block_type.specs.Limits.{free_header}
use Rattle.structure.specs.Structure.{Structure, start, len, decode_zone}
use Rattle.calls.specs.Bays.{on_last, last_s}
use Rattle.bay.specs.Bay.{bay_sum, take_high}
use Rattle.zone.specs.Group.{flatten}
use Rattle.bays.specs.Places.{bays_of}
use Rattle.bays.specs.Found.{FoundLast}
use Rattle.structure.specs.IsZone.{IsZone}

-- "the lesser of k rounded down to a multiple of 4 and the last bay's sum"
abbrev pub strips : Structure → ℕ → ℕ
strips s k = min (k / 4 * 4) (bay_sum (last_s (bays_of s)))

abbrev pub stripped : ℕ → Structure → Structure
stripped n s = record { clock = s.clock; chain = s.chain; blocks = flatten (on_last (take_high n) (bays_of s)) }

-- the last bay of the zone z, of which n bytes are stripped: it starts at a and ends at e
pub record Site (z : List ℕ) (n a e sum tail : ℕ) : Type 0 where
  pub zone : IsZone z
  pub found : FoundLast (start (decode_zone z)) (len (decode_zone z)) (take_high n) (bays_of (decode_zone z)) a e sum tail
  pub low : free_header ≤ n
  pub fits : n ≤ bay_sum (last_s (bays_of (decode_zone z)))
  pub four : n % 4 ≡ 0
