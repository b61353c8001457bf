use Rattle.zone_check.proofs.Zone.{header-no, header-yes, header-bad}
use Rattle.zone_check.proofs.header_of.Goals as goal

pub returns-then-s-lt-ZONE_HEADER : goal.returns-then-s-lt-ZONE_HEADER
returns-then-s-lt-ZONE_HEADER c = search header-no

pub returns-then-good : goal.returns-then-good
returns-then-good c = search header-yes

pub returns-else-good : goal.returns-else-good
returns-else-good c = search header-bad
