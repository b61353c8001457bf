-- Where a zone's blocks begin, with what a walk relies on.
use Rattle.std.specs.Prelude.{◌≡◌, List, ℕ, ◌≤◌, length, drop}
use Rattle.block_type.specs.Limits.{longest_zone, zone_header}
use Rattle.format.specs.WellFormed.{first_field}
use Rattle.access.specs.row.Row.{Row}

pub record Begins (z : List ℕ) (first : ℕ) : Type 0 where
  pub first_is : first ≡ first_field z
  pub header : zone_header ≤ first
  pub within : first ≤ length z
  pub short : length z ≤ longest_zone
  pub row : Row (drop first z)
