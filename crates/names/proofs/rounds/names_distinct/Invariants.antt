use Prim.Native.Nat.{◌-◌}
use mathlib.Core.Path.{◌≡◌}
use lib.ListN.{length}
use Rattle.format.specs.WellFormed.{distinct}
use Rattle.names.specs.Pages.{Pages, names_at}
use Rattle.names.proofs.rounds.names_distinct.Given as goal

abbrev pub invariant-loop-at : goal.invariant-loop-at
invariant-loop-at l = Pages l.z l.at × (distinct (names_at l.z l.at) ≡ distinct (names_at l.z l.first))

abbrev pub decreases-loop-at : goal.decreases-loop-at
decreases-loop-at l = length l.z - l.at
