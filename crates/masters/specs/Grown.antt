-- A zone that gets eight masters more, as contracts inside the library cite it.
use Rattle.std.specs.Prelude.{◌≡◌, List, [], ◌++◌, ℕ, ◌+◌, ◌-◌, ◌/◌, ◌≤◌}
use Rattle.bigendian.specs.BigEndian.{to_be, overwrite}
use Rattle.block_type.specs.Limits.{zone_header, master_size, most_masters, added_masters, added_bytes, first_at, masters_at, chain_at}
use Rattle.structure.specs.Structure.{Structure, count, start, decode_zone}
use Rattle.structure.specs.IsZone.{IsZone}
use Rattle.calls.specs.Bays.{first_s}
use Rattle.bay.specs.Bay.{Cell, bay_size, bay_sum, packed_less}
use Rattle.bay.specs.Sound.{bytes_of}
use Rattle.zone.specs.Work.{more_masters}
use Rattle.zone.specs.Call.{in_bays, in_line}
use Rattle.bays.specs.Places.{bays_of}
use Rattle.slide.specs.ZoneBay.{bay_cells}
use Rattle.masters.specs.chain.Chain.{chain_bytes}

-- the structure with the masters added (the buffer's length does not matter)
abbrev pub grown_in : Structure → Structure
grown_in s = in_line (more_masters (in_bays 0 s))

-- the first bay's blocks
abbrev pub front_of : Structure → List Cell
front_of s = first_s (bays_of s)

-- the zone z has no free master and can have eight more, from its first bay, which lies from `first` to `end`
pub record Growing (z : List ℕ) (first end : ℕ) : Type 0 where
  pub zone : IsZone z
  pub none : (decode_zone z).chain ≡ []
  pub few : count (decode_zone z) + added_masters ≤ most_masters
  pub first_is : first ≡ start (decode_zone z)
  pub end_is : end ≡ first + bay_size (front_of (decode_zone z))
  pub enough : added_bytes ≤ bay_sum (front_of (decode_zone z))

-- ---- the bytes, step by step

-- the bay from `first` to `end` has given up its first bytes, and the new masters lie there
unfoldable pub with_masters : List ℕ → ℕ → ℕ → List ℕ
with_masters z first end = overwrite z first (chain_bytes first added_masters ++ bytes_of (packed_less added_bytes (bay_cells z first end)))

-- the header of a zone whose first block was at `first`: the first block, the number of masters before it, the first free one
unfoldable pub with_fields : List ℕ → ℕ → List ℕ
with_fields z first =
    overwrite (overwrite (overwrite z first_at (to_be 4 (first + added_bytes))) masters_at (to_be 4 ((first + added_bytes - zone_header) / master_size))) chain_at (to_be 2 first)
