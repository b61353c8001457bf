use Rattle.stretch.proofs.Laws.{block-small, lost-refused, reach-ok, reach-err}
use Rattle.stretch.proofs.part_of.Goals as goal

pub returns-in_err-span-clause-err : goal.returns-in_err-span-clause-err
returns-in_err-span-clause-err c = search (lost-refused, c.in_err-span.ensures)

pub reach-requires : goal.reach-requires
reach-requires c = search (block-small, c.in_ok-span.ensures)

pub returns-clause-ok : goal.returns-clause-ok
returns-clause-ok c = search (reach-ok, c.in_ok-span.ensures)

pub returns-clause-err : goal.returns-clause-err
returns-clause-err c = search (reach-err, c.in_ok-span.ensures)
