use Rattle.call_laws.proofs.Refused.{done-opened}
use Rattle.resize.proofs.Call.{call-end}
use Rattle.resize.proofs.resize.Goals as goal

pub returns-in_err-p : goal.returns-in_err-p
returns-in_err-p c = search (done-opened, c.in_ok-z.ensures, c.in_err-p.ensures)

pub returns : goal.returns
returns c = search (call-end, c.in_ok-z.ensures, c.in_ok-p.ensures)
