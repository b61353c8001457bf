use Prim.Native.Nat.{◌-◌}
use Rattle.inspect.proofs.strata.Laws.{Halved}
use Rattle.inspect.proofs.strata.by_limits.Given as goal

abbrev pub invariant-loop-low : goal.invariant-loop-low
invariant-loop-low l = Halved l.limits l.words l.low l.high

abbrev pub decreases-loop-low : goal.decreases-loop-low
decreases-loop-low l = l.high - l.low
