-- The bytes of a zone, as contracts inside the library cite it.
use Rattle.std.specs.Prelude.{◌≡◌, List, true, ℕ}
use Rattle.bigendian.specs.BigEndian.{Bytes}
use Rattle.format.specs.WellFormed.{well_formed, zone_of}

-- z is the bytes of a well-formed zone, with none beyond its length. A data type, so that a search does not go into the facts
pub data IsZone (z : List ℕ) : Type 0 where
  is_zone : (s : List ℕ) → Bytes s → well_formed s ≡ true → zone_of s ≡ z → IsZone z
