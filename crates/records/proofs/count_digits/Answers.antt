use native.Mathlib.Omega.{arith}
use Rattle.records.proofs.Decimal.{digits-most}
use Rattle.records.proofs.Printing.{count-step, count-done}
use Rattle.records.proofs.count_digits.Goals as goal

-- The invariant: the digits counted and those that are left are one more than all, since the last is counted at the start.

pub loop-rest-init : goal.loop-rest-init
loop-rest-init c = (omega arith, omega arith, digits-most 10 _)

pub overflow_add-count : goal.overflow_add-count
overflow_add-count c = omega arith

pub loop-rest-smaller : goal.loop-rest-smaller
loop-rest-smaller c = omega arith

pub loop-rest-preserved : goal.loop-rest-preserved
loop-rest-preserved c = (search count-step, omega arith, omega arith)

pub returns : goal.returns
returns c = search count-done
