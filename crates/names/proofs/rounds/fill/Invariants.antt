use Rattle.std.proofs.Common.{◌-◌, length}
use Rattle.names.specs.Pages.{Pages}
use Rattle.names.specs.Steps.{Holding}
use Rattle.names.proofs.rounds.fill.Given as goal

abbrev pub invariant-loop-at : goal.invariant-loop-at
invariant-loop-at l = Pages l.z l.at × Holding l.z l.trees l.from l.at

abbrev pub decreases-loop-at : goal.decreases-loop-at
decreases-loop-at l = length l.z - l.at
