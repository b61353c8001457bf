use Rattle.access.proofs.Checked.{by_type}
use Rattle.pages.proofs.drop.Live.{data-low, end-word, block-in}
use Rattle.pages.proofs.drop.Laws.{in-13, in-0}
use Rattle.pages.proofs.drop.plan_in.Goals as goal

pub overflow_sub-at : goal.overflow_sub-at
overflow_sub-at c = search (data-low, by_type, c.in-Some.ensures)

pub overflow_add-span : goal.overflow_add-span
overflow_add-span c = search (end-word, by_type, c.in-Some.ensures)

pub extent_of-requires : goal.extent_of-requires
extent_of-requires c = search (block-in, by_type, c.in-Some.ensures)

pub returns-in-Some-clause-ok : goal.returns-in-Some-clause-ok
returns-in-Some-clause-ok c = search (in-0, by_type, c.in-Some.ensures)

pub returns-in-None-clause-err : goal.returns-in-None-clause-err
returns-in-None-clause-err c = search (in-13, c.in-None.ensures)
