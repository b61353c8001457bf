use Rattle.zone_check.proofs.Zone.{certain-names}
use Rattle.zone_check.proofs.names_ok.Goals as goal

pub returns-then-certain : goal.returns-then-certain
returns-then-certain c = search certain-names
