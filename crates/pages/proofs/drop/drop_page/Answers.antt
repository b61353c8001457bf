use Rattle.call_laws.proofs.Refused.{done-ill, done-opened}
use Rattle.pages.proofs.drop.Laws.{call-between, call-out}
use Rattle.pages.proofs.drop.drop_page.Goals as goal

pub returns-in_err-k : goal.returns-in_err-k
returns-in_err-k c = search (done-ill, c.in_err-k.ensures)

pub returns-in_err-extent : goal.returns-in_err-extent
returns-in_err-extent c = search (done-opened, c.in_ok-k.ensures.ok.opened, c.in_err-extent.ensures)

pub write_free-requires : goal.write_free-requires
write_free-requires c = search (call-between, c.in_ok-k.ensures.ok.opened, c.in_ok-extent.ensures)

pub returns : goal.returns
returns c = search (call-out, c.in_ok-k.ensures.ok.opened, c.in_ok-extent.ensures)
