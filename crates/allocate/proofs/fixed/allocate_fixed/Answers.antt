use Rattle.call_laws.proofs.Refused.{refused-ill, refused-opened}
use Rattle.allocate.proofs.fixed.Call.{call-sub, call-word, call-place, call-end}
use Rattle.allocate.proofs.fixed.allocate_fixed.Goals as goal

pub returns-in_err-z : goal.returns-in_err-z
returns-in_err-z c = search (refused-ill, c.in_err-z.ensures)

pub returns-in_err-p : goal.returns-in_err-p
returns-in_err-p c = search (refused-opened, c.in_ok-z.ensures, c.in_err-p.ensures)

pub place-requires : goal.place-requires
place-requires c = search (call-place, c.in_ok-z.ensures, c.in_ok-p.ensures)

pub returns : goal.returns
returns c = search (call-end, c.in_ok-z.ensures, c.in_ok-p.ensures)

pub overflow_sub-result : goal.overflow_sub-result
overflow_sub-result c = search (call-sub, c.in_ok-p.ensures)

pub overflow_cast-result : goal.overflow_cast-result
overflow_cast-result c = search (call-word, c.in_ok-p.ensures)
