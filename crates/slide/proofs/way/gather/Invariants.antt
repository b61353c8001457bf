use Prim.Native.Nat.{◌-◌}
use lib.ListN.{length}
use Rattle.slide.proofs.way.Gathered.{UnderWay}
use Rattle.slide.proofs.way.gather.Given as goal

abbrev pub invariant-loop-f : goal.invariant-loop-f
invariant-loop-f l = UnderWay l.initial.s l.from l.first l.s l.f.to l.f.at

abbrev pub decreases-loop-f : goal.decreases-loop-f
decreases-loop-f l = length l.s - l.f.at
