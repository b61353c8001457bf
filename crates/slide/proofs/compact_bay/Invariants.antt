use Prim.Native.Nat.{◌-◌}
use Rattle.slide.proofs.run.Walk.{Walked}
use Rattle.slide.proofs.compact_bay.Given as goal

abbrev pub invariant-loop-at : goal.invariant-loop-at
invariant-loop-at l = Walked l.initial.z l.start l.end l.z l.run.to l.run.from l.run.hole l.at

abbrev pub decreases-loop-at : goal.decreases-loop-at
decreases-loop-at l = l.end - l.at
