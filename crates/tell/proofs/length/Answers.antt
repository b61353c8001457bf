use Rattle.tell.proofs.Laws.{length-ill, length-word, length-done}
use Rattle.tell.proofs.length.Goals as goal

pub returns-in_err-z : goal.returns-in_err-z
returns-in_err-z c = search (length-ill, c.in_err-z.ensures)

pub overflow_cast-result : goal.overflow_cast-result
overflow_cast-result c = search (length-word, c.in_ok-z.ensures)

pub returns : goal.returns
returns c = search (length-done, c.in_ok-z.ensures)
