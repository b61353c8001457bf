use Rattle.access.proofs.Checked.{by_type}
use Rattle.allocate.proofs.fixed.Call.{in-0, in-3, in-5}
use Rattle.allocate.proofs.fixed.plan_in.Goals as goal

pub returns-then-c-gt-FIXED_LIMIT-clause-err : goal.returns-then-c-gt-FIXED_LIMIT-clause-err
returns-then-c-gt-FIXED_LIMIT-clause-err c = search in-3

pub returns-in-Some-clause-ok : goal.returns-in-Some-clause-ok
returns-in-Some-clause-ok c = search (in-0, by_type)

pub returns-in-None-clause-err : goal.returns-in-None-clause-err
returns-in-None-clause-err c = search (in-5, by_type)
