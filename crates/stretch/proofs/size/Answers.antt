use Rattle.stretch.proofs.Laws.{size_word, size-found, size-lost}
use Rattle.stretch.proofs.size.Goals as goal

pub returns-in_err-span : goal.returns-in_err-span
returns-in_err-span c = search (size-lost, c.in_err-span.ensures)

pub overflow_cast-result : goal.overflow_cast-result
overflow_cast-result c = search (size_word, c.in_ok-span.ensures)

pub returns : goal.returns
returns c = search (size-found, c.in_ok-span.ensures)
