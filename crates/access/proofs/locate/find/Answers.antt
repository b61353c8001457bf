use Rattle.access.proofs.Checked.{bytes_of}
use Rattle.access.proofs.locate.Laws.{span-ill, span-lost, span-found}
use Rattle.access.proofs.locate.find.Goals as goal

pub returns-in_err-sought-clause-err : goal.returns-in_err-sought-clause-err
returns-in_err-sought-clause-err c = search (span-ill, bytes_of, c.in_err-sought.ensures)

pub span_of-requires : goal.span_of-requires
span_of-requires c = rw c.name.ensures at c.in_ok-sought.ensures.ok.page_is

pub returns-clause-ok : goal.returns-clause-ok
returns-clause-ok c = search (span-found, bytes_of, c.in_ok-sought.ensures, c.ok_or.ensures.value)

pub returns-clause-err : goal.returns-clause-err
returns-clause-err c = search (span-lost, bytes_of, c.in_ok-sought.ensures, c.ok_or.ensures.value)
