use Rattle.call_laws.proofs.Refused.{done-ill, done-opened}
use Rattle.free.proofs.handle.Laws.{call-ready, call-out}
use Rattle.free.proofs.handle.free_handle.Goals as goal

pub returns-in_err-z : goal.returns-in_err-z
returns-in_err-z c = search (done-ill, c.in_err-z.ensures)

pub returns-in_err-p : goal.returns-in_err-p
returns-in_err-p c = search (done-opened, c.in_ok-z.ensures, c.in_err-p.ensures)

pub release-requires : goal.release-requires
release-requires c = search (call-ready, c.in_ok-z.ensures, c.in_ok-p.ensures)

pub returns : goal.returns
returns c = search (call-out, c.in_ok-z.ensures, c.in_ok-p.ensures)
