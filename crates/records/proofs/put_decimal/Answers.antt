use mathlib.Core.Path.{refl}
use borrow.Author.Rules.{rules}
use native.Mathlib.Omega.{arith}
use Rattle.records.proofs.Printing.{end-some, digit-start, digit-place, digit-before, digit-next, digit_room, digit-step, digits-done, set_same}
use Rattle.records.proofs.put_decimal.Goals as goal

-- The invariant: the digits that are left, put over what is there now, give what all digits give over what was there.

pub overflow_sub-i : goal.overflow_sub-i
overflow_sub-i c = search end-some

pub loop-rest-init : goal.loop-rest-init
loop-rest-init c = (search digit-start, search rules, omega arith, refl, refl)

pub bounds-out-i : goal.bounds-out-i
bounds-out-i c = search digit-place

pub overflow_sub-i-in-loop-rest : goal.overflow_sub-i-in-loop-rest
overflow_sub-i-in-loop-rest c = search digit-before

pub loop-rest-preserved : goal.loop-rest-preserved
loop-rest-preserved c = (search digit-next, search digit_room, omega arith, search digit-step, search set_same)

pub bounds-out-i-2 : goal.bounds-out-i-2
bounds-out-i-2 c = search digit-place

pub shape_of-out : goal.shape_of-out
shape_of-out c = search set_same

pub returns : goal.returns
returns c = search digits-done
