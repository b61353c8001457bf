use Prim.Native.Nat.{◌-◌}
use lib.ListN.{length}
use Rattle.free_block.specs.Walk.{Passed}
use Rattle.free_block.proofs.walk_to.Given as goal

abbrev pub invariant-loop-at : goal.invariant-loop-at
invariant-loop-at l = Passed l.z l.first l.t l.prev l.at

abbrev pub decreases-loop-at : goal.decreases-loop-at
decreases-loop-at l = length l.z - l.at
