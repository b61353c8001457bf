use Rattle.call_laws.proofs.Refused.{refused-ill}
use Rattle.compact.proofs.Call.{call-first, call-word, call-end}
use Rattle.compact.proofs.compact.Goals as goal

pub returns-in_err-z : goal.returns-in_err-z
returns-in_err-z c = search (refused-ill, c.in_err-z.ensures)

pub compact_all-best-requires : goal.compact_all-best-requires
compact_all-best-requires c = (search c.in_ok-z.ensures, search (call-first, c.in_ok-z.ensures, c.first_block-first.ensures))

pub overflow_cast-result : goal.overflow_cast-result
overflow_cast-result c = search (call-word, c.in_ok-z.ensures)

pub returns : goal.returns
returns c = search (call-end, c.in_ok-z.ensures)
