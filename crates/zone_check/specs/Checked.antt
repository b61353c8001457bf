-- What the check says of a well-formed zone.
use Rattle.std.specs.Prelude.{◌≡◌, true, List, ℕ, ◌≤◌, drop, length}
use Rattle.format.specs.WellFormed.{relocs, split_blocks, well_formed, length_field, count_of}
use Rattle.format.specs.OneWalk.{body_ok}
use Rattle.zone_check.specs.Sought.{unless_zero, page_from, page_of}
use Rattle.zone_check.specs.declared.Checked.{Checked}

-- of the bytes z of a zone, with none beyond, whose header has passed
pub record IsBody (name : ℕ) (z : List ℕ) (first m head : ℕ) (k : Checked) : Type 0 where
  pub is_ok : body_ok z first m head ≡ true
  pub is_len : k.len ≡ length z
  pub is_count : k.count ≡ relocs (split_blocks (drop first z))
  pub page_is : k.page ≡ unless_zero (page_from name z first)

-- of a buffer
pub record IsChecked (name : ℕ) (s : List ℕ) (k : Checked) : Type 0 where
  pub well : well_formed s ≡ true
  pub is_len : k.len ≡ length_field s
  pub within : k.len ≤ length s
  pub is_count : k.count ≡ count_of s
  pub page_is : k.page ≡ unless_zero (page_of name s)
