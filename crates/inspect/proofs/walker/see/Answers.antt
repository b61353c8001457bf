use Rattle.inspect.proofs.walker.Laws.{see-ill, see-done}
use Rattle.inspect.proofs.walker.see.Goals as goal

pub returns-in_err-z-clause-seen : goal.returns-in_err-z-clause-seen
returns-in_err-z-clause-seen c = search (see-ill, c.in_err-z.ensures)

pub returns-clause-seen : goal.returns-clause-seen
returns-clause-seen c = search (see-done, c.in_ok-z.ensures)
