use Rattle.access.proofs.Checked.{by_type, zone-14}
use Rattle.free_block.proofs.Live.{data-low, end-word, block-in}
use Rattle.free.proofs.handle.Laws.{in-6, in-0}
use Rattle.free.proofs.handle.plan_in.Goals as goal

pub get2-requires : goal.get2-requires
get2-requires c = search (zone-14, by_type)

pub overflow_sub-at : goal.overflow_sub-at
overflow_sub-at c = search (data-low, by_type, c.in-Some.ensures)

pub overflow_add-span : goal.overflow_add-span
overflow_add-span c = search (end-word, by_type, c.in-Some.ensures)

pub extent_of-requires : goal.extent_of-requires
extent_of-requires c = search (block-in, by_type, c.in-Some.ensures)

pub returns-in-Some-clause-ok : goal.returns-in-Some-clause-ok
returns-in-Some-clause-ok c = search (in-0, by_type, c.in-Some.ensures)

pub returns-in-None-clause-err : goal.returns-in-None-clause-err
returns-in-None-clause-err c = search (in-6, c.in-None.ensures)
