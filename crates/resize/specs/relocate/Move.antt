-- The writes by which a block goes to a free block of another bay.
use Rattle.std.specs.Prelude.{◌≡◌, List, [], ◌∷◌, ℕ, ◌+◌, ◌-◌, ◌≤◌, length}
use Rattle.block_type.specs.Limits.{free_header, reloc_header}
use Rattle.bigendian.specs.BigEndian.{to_be, overwrite}
use Rattle.structure.specs.Structure.{encode_block, cell}
use Rattle.bay.specs.Bay.{free, held, gap}
use Rattle.bay.specs.Sound.{bytes_of}
use Rattle.room.specs.place.Fit.{blank, Fit}

-- two stretches apart: the one from `from` up to `to`, the other of n bytes at `at`
pub data Apart (from to at n : ℕ) : Type 0 where
  below : to ≤ at → Apart from to at n
  above : at + n ≤ from → Apart from to at n

-- the new block of need bytes, its data d, the master, the old place
abbrev pub moved_bytes : List ℕ → ℕ → ℕ → ℕ → ℕ → ℕ → ℕ → List ℕ → List ℕ
moved_bytes z h from to at n need d =
    overwrite (overwrite (overwrite (overwrite z at (bytes_of (held (blank need h) ∷ gap (n - need) []))) (at + reloc_header) d) h (to_be 4 (at + reloc_header))) from (encode_block (cell (free (to - from))))

-- a free block of n bytes at `at` has room for need bytes, the b data bytes at old lie apart from it, and the old place is from `from` up to `to`
pub record MoveAt (z : List ℕ) (h old b at n need from to : ℕ) : Type 0 where
  pub fit : Fit z at n need h
  pub long : length (bytes_of (held (blank need h) ∷ gap (n - need) [])) ≡ n
  pub data_inside : old + b ≤ length z
  pub small : b + reloc_header ≤ need
  pub apart : Apart old (old + b) at n
  pub place : from + free_header ≤ to
  pub place_inside : to ≤ length z
