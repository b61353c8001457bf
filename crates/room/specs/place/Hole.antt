-- A free block of a bay by its offset, as a search answers it.
use Rattle.std.proofs.Math.Option.{Option, none, some}
use Rattle.std.specs.Prelude.{Bool, true, false, cond, not, ◌&&◌, ◌||◌, List, ℕ, ◌+◌, leb, ltb}
use Rattle.bay.specs.Bay.{Cell, bay_size, Hole, holes, choose}

pub record HoleN : Type 0 where
  pub found : Bool
  pub at : ℕ
  pub size : ℕ

abbrev pub hole_n : Bool → ℕ → ℕ → HoleN
hole_n f a n = record { found = f; at = a; size = n }

abbrev pub no_hole : HoleN
no_hole = hole_n false 0 0

-- a hole of a bay that begins at p
abbrev pub hole_at : ℕ → Option Hole → HoleN
hole_at p none = no_hole
hole_at p (some x) = hole_n true (p + bay_size x.before) x.size

-- the one that is chosen for need bytes in the bay b, which begins at p
abbrev pub hole_for : ℕ → ℕ → List Cell → HoleN
hole_for need p b = hole_at p (choose need (holes b))

-- n free bytes at `at`, where they are at least need bytes
abbrev pub hole_if : ℕ → ℕ → ℕ → HoleN
hole_if need n at = cond (leb need n) (hole_n true at n) no_hole

-- the tighter of two, the first of equals
abbrev pub tighter_n : HoleN → HoleN → HoleN
tighter_n v w = cond (w.found && (not v.found || ltb w.size v.size)) w v
