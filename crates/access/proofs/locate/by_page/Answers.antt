use Rattle.access.proofs.Checked.{by_type}
use Rattle.access.proofs.locate.Sought.{page-none, page-fits, page-word, page-room, page-span}
use Rattle.access.proofs.locate.by_page.Goals as goal

pub returns-in_err-at : goal.returns-in_err-at
returns-in_err-at c = rw c.from_residual.ensures (search (page-none, by_type, c.in_err-at.was))

pub size_at-requires : goal.size_at-requires
size_at-requires c = search (page-fits, by_type, c.in_ok-at.was)

pub overflow_add-result : goal.overflow_add-result
overflow_add-result c = search (page-word, by_type, c.in_ok-at.was)

pub overflow_sub-result : goal.overflow_sub-result
overflow_sub-result c = search (page-room, by_type, c.in_ok-at.was)

pub returns : goal.returns
returns c = search (page-span, by_type, c.in_ok-at.was)
