use Rattle.inspect.proofs.strata.Laws.{Risen}
use Rattle.inspect.proofs.strata.rises.Given as goal

abbrev pub invariant-loop-i : goal.invariant-loop-i
invariant-loop-i l = Risen l.limits l.i l.last
