use Rattle.resize.proofs.reshape.Plan.{known-word}
use Rattle.resize.proofs.Zone.{in-6, in-3, in-5, in-here, in-lacking, in-way}
use Rattle.resize.proofs.plan_in.Goals as goal

pub returns-in_default-clause-err : goal.returns-in_default-clause-err
returns-in_default-clause-err c = search (in-6, c.in_default.ensures)

pub returns-then-c-gt-RELOCATABLE_LIMIT-clause-err : goal.returns-then-c-gt-RELOCATABLE_LIMIT-clause-err
returns-then-c-gt-RELOCATABLE_LIMIT-clause-err c = search (in-3, c.in-Some.ensures)

pub overflow_add-block : goal.overflow_add-block
overflow_add-block c = search known-word

pub returns-then-block-free-clause-ok : goal.returns-then-block-free-clause-ok
returns-then-block-free-clause-ok c = search (in-here, c.in-Some.ensures)

pub way_to_bay-requires : goal.way_to_bay-requires
way_to_bay-requires c = search (in-lacking, c.in-Some.ensures)

pub returns-in_err-way-clause-err : goal.returns-in_err-way-clause-err
returns-in_err-way-clause-err c = search (in-5, c.in-Some.ensures, c.in_err-way.ensures)

pub returns-clause-ok : goal.returns-clause-ok
returns-clause-ok c = search (in-way, c.in-Some.ensures, c.in_ok-way.ensures)
