use native.Mathlib.Omega.{arith}
use borrow.Author.Rules.{rules}
use Rattle.free_block.proofs.Walk.{walk_start, walk-next, walk-stop}
use Rattle.free_block.proofs.walk_to.Goals as goal

pub loop-at-init : goal.loop-at-init
loop-at-init c = search walk_start

pub step-n-requires : goal.step-n-requires
step-n-requires c = (search rules, omega arith)

pub overflow_add-at : goal.overflow_add-at
overflow_add-at c = omega arith

pub loop-at-smaller : goal.loop-at-smaller
loop-at-smaller c = omega arith

pub loop-at-preserved : goal.loop-at-preserved
loop-at-preserved c = search walk-next

pub returns : goal.returns
returns c = search walk-stop
