-- One master set, and a step of the masters' pass over the blocks of z from `at` up to `to`.
use Rattle.std.specs.Prelude.{◌≡◌, List, ℕ, ◌+◌, ◌≤◌, length, take, drop}
use Rattle.block_type.specs.Limits.{free_header}
use Rattle.format.specs.WellFormed.{type_of, size_of}
use Rattle.bay.specs.Bay.{Cell, cell_code}
use Rattle.bay.specs.Sound.{cells_of, cell_at, IsBay}
use Rattle.slide.specs.ZoneBay.{owner_of, set_all, IsLow}

-- at `at` in z stands a block of a bay
pub record CellHere (z : List ℕ) (at : ℕ) : Type 0 where
  pub low : free_header ≤ size_of (drop at z)
  pub fits : at + size_of (drop at z) ≤ length z
  pub code : cell_code (cell_at z at) ≡ type_of (drop at z)

-- h is the master of the block c
pub record IsOwner (c : Cell) (h : ℕ) : Type 0 where
  pub is : h ≡ owner_of c
  pub some : h ≡ 0 → ⊥

-- one turn, over a block of n bytes: what is left to set in z' is what was to set in z
pub record Turned (z : List ℕ) (to at : ℕ) (z' : List ℕ) (n : ℕ) : Type 0 where
  pub low : free_header ≤ n
  pub fits : at + n ≤ to
  pub long : length z' ≡ length z
  pub next : IsBay (drop (at + n) (take to z'))
  pub lows : IsLow (at + n) (cells_of (drop (at + n) (take to z')))
  pub left : set_all (at + n) (cells_of (drop (at + n) (take to z'))) z' ≡ set_all at (cells_of (drop at (take to z))) z
