-- What was printed, and the lines that are still to come, are all.
use Rattle.std.proofs.Common.{◌-◌}
use Rattle.walker_run.specs.Lines.{most_steps}
use Rattle.walker_run.proofs.Walking.{Goes}
use Rattle.walker_run.proofs.walk.Given as goal

abbrev pub invariant-loop : goal.invariant-loop
invariant-loop g l = Goes (g.W.Write.contents l.fn.out) (g.W.Write.contents l.out) l.zone l.at (most_steps - l.counter)
