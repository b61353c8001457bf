use Rattle.call_laws.proofs.Refused.{done-ill, done-opened}
use Rattle.free.proofs.pointer.Laws.{call-between, call-out}
use Rattle.free.proofs.pointer.free_pointer.Goals as goal

pub returns-in_err-z : goal.returns-in_err-z
returns-in_err-z c = search (done-ill, c.in_err-z.ensures)

pub returns-in_err-extent : goal.returns-in_err-extent
returns-in_err-extent c = search (done-opened, c.in_ok-z.ensures, c.in_err-extent.ensures)

pub write_free-requires : goal.write_free-requires
write_free-requires c = search (call-between, c.in_ok-z.ensures, c.in_ok-extent.ensures)

pub returns : goal.returns
returns c = search (call-out, c.in_ok-z.ensures, c.in_ok-extent.ensures)
