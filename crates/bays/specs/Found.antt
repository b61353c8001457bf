-- A bay that a search has found, in the flat list of the blocks; the first bay begins at p and the last one ends at `end`.
use Rattle.std.specs.Prelude.{◌≡◌, List, [], ◌∷◌, ◌++◌, map, ℕ, ◌+◌, ◌≤◌}
use Rattle.structure.specs.Structure.{Block, cell, fixed, sizes}
use Rattle.calls.specs.Bays.{Bays, on_last, last_s}
use Rattle.calls.specs.State.{Fixed, new_fixed}
use Rattle.bay.specs.Bay.{Cell, bay_size, bay_sum}
use Rattle.zone.specs.Group.{flatten}
use Rattle.bays.specs.Places.{end_free}
use Rattle.bays.specs.At.{At}

-- the offsets and sums of the bay that stands behind the blocks `before`
pub record Numbers (p : ℕ) (before : List Block) (bay : List Cell) (a e sum tail : ℕ) : Type 0 where
  pub start_is : a ≡ p + sizes before
  pub end_is : e ≡ a + bay_size bay
  pub sum_is : sum ≡ bay_sum bay
  pub tail_is : tail ≡ end_free bay

-- a bay whose sum reaches need, changed by f, with a new fixed block of need bytes at its end: r is that block, and the bays with it
pub record FoundHigh (need p end : ℕ) (f : List Cell → List Cell) (s : Bays (List Cell) Fixed) (r : Fixed × Bays (List Cell) Fixed) (a e sum tail : ℕ) : Type 0 where
  pub before : List Block
  pub bay : List Cell
  pub after : List Block
  pub old : flatten s ≡ before ++ (map cell bay ++ after)
  pub new : flatten r.1 ≡ before ++ (map cell (f bay) ++ (fixed (new_fixed need e).bytes ∷ after))
  pub block : r.0 ≡ new_fixed need e
  pub numbers : Numbers p before bay a e sum tail
  pub within : e ≤ end
  pub enough : need ≤ bay_sum bay

-- the last bay, which f changes
pub record FoundLast (p end : ℕ) (f : List Cell → List Cell) (s : Bays (List Cell) Fixed) (a e sum tail : ℕ) : Type 0 where
  pub before : List Block
  pub at : At f s (on_last f s) before (last_s s) []
  pub numbers : Numbers p before (last_s s) a e sum tail
  pub ends : e ≡ end
