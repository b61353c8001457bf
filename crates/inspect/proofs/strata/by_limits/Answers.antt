use native.Mathlib.Omega.{arith}
use Rattle.inspect.proofs.strata.Laws.{halve-start, halve-up, halve-down, halve-end}
use Rattle.inspect.proofs.strata.by_limits.Goals as goal

pub loop-low-init : goal.loop-low-init
loop-low-init c = search halve-start

pub overflow_add-low : goal.overflow_add-low
overflow_add-low c = omega (arith, c.loop-low.invariant.apart, c.loop-low.invariant.most)

pub overflow_add-mid : goal.overflow_add-mid
overflow_add-mid c = omega (arith, c.loop-low.invariant.apart, c.loop-low.invariant.most)

pub limit-requires : goal.limit-requires
limit-requires c = omega (arith, c.loop-low.invariant.most)

pub loop-low-smaller-then-limit-words : goal.loop-low-smaller-then-limit-words
loop-low-smaller-then-limit-words c = omega arith

pub loop-low-preserved-then-limit-words : goal.loop-low-preserved-then-limit-words
loop-low-preserved-then-limit-words c = search halve-up

pub loop-low-smaller : goal.loop-low-smaller
loop-low-smaller c = omega arith

pub loop-low-preserved : goal.loop-low-preserved
loop-low-preserved c = search halve-down

pub returns : goal.returns
returns c = search halve-end
