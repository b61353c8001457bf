-- A block that gets another size where it stands.
use Rattle.std.specs.Prelude.{◌≡◌, List, ℕ, ◌+◌, ◌%◌, ◌≤◌, length}
use Rattle.block_type.specs.Limits.{longest_zone, reloc_header, reloc_limit}
use Rattle.resize.specs.reshape.Own.{Known}

-- the block of handle h has b data bytes at `at` and f free bytes behind it, which is room for a data bytes
pub record Here (z : List ℕ) (h at b f a : ℕ) : Type 0 where
  pub is : Known z h at b f
  pub low : reloc_header ≤ at
  pub end : at + b + f ≤ length z
  pub short : length z ≤ longest_zone
  pub four : a % 4 ≡ 0
  pub four_end : (b + f) % 4 ≡ 0
  pub high : a ≤ reloc_limit
  pub fits : a ≤ b + f
