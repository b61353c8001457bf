use Rattle.call_laws.proofs.Refused.{refused-ill, refused-opened}
use Rattle.allocate.proofs.relocatable.Call.{call-word, call-way, call-end}
use Rattle.allocate.proofs.relocatable.allocate_relocatable.Goals as goal

pub returns-in_err-z : goal.returns-in_err-z
returns-in_err-z c = search (refused-ill, c.in_err-z.ensures)

pub returns-in_err-p : goal.returns-in_err-p
returns-in_err-p c = search (refused-opened, c.in_ok-z.ensures, c.in_err-p.ensures)

pub carry_out-requires : goal.carry_out-requires
carry_out-requires c = search (call-way, c.in_ok-z.ensures, c.in_ok-p.ensures)

pub overflow_cast-result : goal.overflow_cast-result
overflow_cast-result c = rw c.handle.ensures (search (call-word, c.in_ok-p.ensures))

pub returns : goal.returns
returns c = search (call-end, c.in_ok-z.ensures, c.in_ok-p.ensures)
