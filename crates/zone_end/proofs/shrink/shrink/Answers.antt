use Rattle.zone_end.proofs.shrink.Call.{call-none, call-site, call-cut}
use Rattle.zone_end.proofs.shrink.shrink.Goals as goal

pub strip-requires : goal.strip-requires
strip-requires c = search (call-site, c.in_ok-z.ensures)

pub returns-then-p-ne0 : goal.returns-then-p-ne0
returns-then-p-ne0 c = search (call-cut, c.in_ok-z.ensures)

pub returns-else-p-ne0 : goal.returns-else-p-ne0
returns-else-p-ne0 c = search (call-none, c.in_ok-z.ensures)
