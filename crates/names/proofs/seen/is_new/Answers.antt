use mathlib.Core.Path.{refl}
use native.Mathlib.Omega.{arith}
use borrow.Author.Rules.{rules}
use lib.ListN.{length-set}
use Rattle.names.proofs.seen.Laws.{past-start, past-step, noted-not, noted-new}
use Rattle.names.proofs.seen.is_new.Goals as goal

pub loop-p-init : goal.loop-p-init
loop-p-init c = (refl, search rules, refl, search past-start)

pub shape_of-table-then-v-eq0 : goal.shape_of-table-then-v-eq0
shape_of-table-then-v-eq0 c = simp length-set (omega arith)

pub returns-then-v-eq0 : goal.returns-then-v-eq0
returns-then-v-eq0 c = search noted-new

pub returns-then-v-print : goal.returns-then-v-print
returns-then-v-print c = search noted-not

pub loop-p-preserved : goal.loop-p-preserved
loop-p-preserved c = (search rules, search rules, search rules, search past-step)

pub returns : goal.returns
returns c = search noted-not
