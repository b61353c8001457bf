use Rattle.tell.proofs.Laws.{sums-ill, sums-done}
use Rattle.tell.proofs.sum.Goals as goal

pub returns-in_err-z : goal.returns-in_err-z
returns-in_err-z c = search (sums-ill, c.in_err-z.ensures)

pub returns : goal.returns
returns c = search (sums-done, c.in_ok-z.ensures)
