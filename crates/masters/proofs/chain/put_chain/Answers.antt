use mathlib.Core.Path.{refl}
use native.Mathlib.Omega.{arith}
use Rattle.masters.proofs.chain.Chain.{chain-none, chain-start, chain_next, chain-last}
use Rattle.masters.proofs.chain.put_chain.Goals as goal

pub returns-then-n-eq0 : goal.returns-then-n-eq0
returns-then-n-eq0 c = search chain-none

pub overflow_sub-last : goal.overflow_sub-last
overflow_sub-last c = omega arith

pub overflow_mul-last : goal.overflow_mul-last
overflow_mul-last c = omega arith

pub overflow_add-last : goal.overflow_add-last
overflow_add-last c = omega arith

pub loop-at-init : goal.loop-at-init
loop-at-init c = (omega arith, omega arith, omega arith, omega arith, refl, search chain-start)

pub overflow_add-at : goal.overflow_add-at
overflow_add-at c = omega arith

pub overflow_cast-at : goal.overflow_cast-at
overflow_cast-at c = omega arith

pub put4-requires : goal.put4-requires
put4-requires c = omega arith

pub overflow_add-at-in-loop-at : goal.overflow_add-at-in-loop-at
overflow_add-at-in-loop-at c = omega arith

pub loop-at-smaller : goal.loop-at-smaller
loop-at-smaller c = omega arith

pub loop-at-preserved : goal.loop-at-preserved
loop-at-preserved c = (omega arith, omega arith, omega arith, omega arith, omega arith, search chain_next)

pub put4-requires-2 : goal.put4-requires-2
put4-requires-2 c = omega arith

pub shape_of-z : goal.shape_of-z
shape_of-z c = omega arith

pub returns : goal.returns
returns c = search chain-last
