-- Which pages a new one drives out, as the search answers it: a refusal, or the limit below which every unlocked page goes.
use Rattle.std.specs.Prelude.{◌≡◌, ℕ, Bool, true, cond, not, List, length, ◌==◌}
use Rattle.std.proofs.Math.Option.{Option, get_or}
use Rattle.calls.specs.Bays.{map_s}
use Rattle.calls.specs.Pages.{among, dropping}
use Rattle.calls.specs.Table.{Facts, below, is_none}
use Rattle.bay.specs.Bay.{items, bay_sum, release}
use Rattle.structure.specs.Structure.{decode_zone}
use Rattle.zone.specs.Work.{Zone, facts}
use Rattle.zone.specs.Call.{in_bays}
use Rattle.bays.specs.Places.{bays_of}
use Rattle.turn.specs.Rank.{goes}
use Rattle.turn.specs.Limit.{Least}

-- 5 where dropping every unlocked page would not do (`short`), 12 where the dropping would reach a dirty one
abbrev pub number_by : Bool → Option ℕ → ℕ
number_by short stop = cond short 5 (cond (not (is_none stop)) 12 0)

abbrev pub turn_number : ℕ → Facts → ℕ
turn_number need f = number_by (below f.largest_emptied need) (f.stop need)

-- the name beside a 12, 0 beside any other number
abbrev pub turn_name : ℕ → ℕ → Facts → ℕ
turn_name number need f = cond (number == 12) (get_or (f.stop need) 0) 0

-- the zone of these bytes (a create's refusals do not ask for the buffer's length)
abbrev pub bayed : List ℕ → Zone
bayed z = in_bays (length z) (decode_zone z)

-- beside a refusal the limit says nothing
pub record InTurn (z : List ℕ) (need number name limit : ℕ) : Type 0 where
  pub number_is : number ≡ turn_number need (facts true (bayed z))
  pub name_is : name ≡ turn_name number need (facts true (bayed z))
  -- the pages that go are those of rank below the limit, the least that is enough
  pub least : number ≡ 0 → Least (decode_zone z).clock need limit (bays_of (decode_zone z))
  pub gone : number ≡ 0
      → map_s (release (among (dropping items bay_sum need (bayed z)))) (bays_of (decode_zone z)) ≡ map_s (release (goes (decode_zone z).clock limit)) (bays_of (decode_zone z))
