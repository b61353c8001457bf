use Rattle.tell.proofs.CheckLaws.{check-no, check-yes}
use Rattle.tell.proofs.check.Goals as goal

pub returns-in_err-k : goal.returns-in_err-k
returns-in_err-k c = rw c.from_residual.ensures (search (check-no, c.in_err-k.ensures))

pub returns : goal.returns
returns c = search (check-yes, c.in_ok-k.ensures)
