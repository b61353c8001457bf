-- Bytes that are free but for a part.
use Rattle.std.specs.Prelude.{◌≡◌, List, ℕ, ◌+◌, ◌-◌, ◌≤◌, length, replicate}
use Rattle.block_type.specs.Limits.{free_header, longest_zone}
use Rattle.bigendian.specs.BigEndian.{slice}

-- from a up to b there is nothing, or as in a free block all behind the first bytes, its header, is 0
pub data Hole (z : List ℕ) (a b : ℕ) : Type 0 where
  nothing : a ≡ b → Hole z a b
  zeros : a + free_header ≤ b → slice z (a + free_header) (b - (a + free_header)) ≡ replicate (b - (a + free_header)) 0 → Hole z a b

-- what lies from `from` up to `to` can become one free block, and is free but for what lies from `at` up to `end`
pub record Between (z : List ℕ) (from at end to : ℕ) : Type 0 where
  pub low : from ≤ at
  pub order : at ≤ end
  pub high : end ≤ to
  pub some : from + free_header ≤ to
  pub fits : to ≤ length z
  pub short : length z ≤ longest_zone
  pub ahead : Hole z from at
  pub behind : Hole z end to
