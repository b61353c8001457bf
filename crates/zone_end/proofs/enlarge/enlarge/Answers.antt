use Rattle.zone_end.proofs.enlarge.Call.{opened-no, opened-idle, opened-between, opened-end}
use Rattle.zone_end.proofs.enlarge.enlarge.Goals as goal

pub returns-then-not-is_accepted : goal.returns-then-not-is_accepted
returns-then-not-is_accepted c = search (opened-no, c.in_ok-z.ensures)

pub extend-requires : goal.extend-requires
extend-requires c = search (opened-between, c.in_ok-z.ensures)

pub returns-then-k-ne0 : goal.returns-then-k-ne0
returns-then-k-ne0 c = search (opened-end, c.in_ok-z.ensures)

pub returns-else-k-ne0 : goal.returns-else-k-ne0
returns-else-k-ne0 c = search (opened-idle, c.in_ok-z.ensures)
