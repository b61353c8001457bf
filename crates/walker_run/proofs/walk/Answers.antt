use Rattle.std.proofs.Common.{arith}
use Rattle.walker_run.proofs.Walking.{begins, stays, moves, steps_out}
use Rattle.walker_run.proofs.walk.Goals as goal

pub loop-init : goal.loop-init
loop-init g c = begins _ _ _ _ _ c.step.ensures c.in_ok-show.ensures c.start-at.ensures

pub returns-then-m-at : goal.returns-then-m-at
returns-then-m-at g c = stays _ _ _ _ _ _ _ c.loop.invariant (omega arith) c.step-m.ensures c.in_ok-show-2.ensures c.if-m-at.true

pub loop-preserved : goal.loop-preserved
loop-preserved g c = moves _ _ _ _ _ _ _ _ c.loop.invariant (omega arith) (omega arith) c.step-m.ensures c.in_ok-show-2.ensures c.if-m-at.false

pub returns : goal.returns
returns g c = steps_out _ _ _ _ _ c.loop.invariant (omega arith)
