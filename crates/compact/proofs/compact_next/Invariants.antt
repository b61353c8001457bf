use Prim.Native.Nat.{◌-◌}
use lib.ListN.{length}
use Rattle.slide.proofs.run.Walk.{Walked}
use Rattle.compact.specs.Next.{end_from}
use Rattle.compact.proofs.compact_next.Given as goal

abbrev pub invariant-loop-z : goal.invariant-loop-z
invariant-loop-z l = Walked l.initial.z l.a (end_from l.initial.z l.a) l.z l.w.to l.w.from l.w.hole l.at

abbrev pub decreases-loop-z : goal.decreases-loop-z
decreases-loop-z l = length l.z - l.at
