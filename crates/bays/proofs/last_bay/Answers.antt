use Rattle.access.proofs.row.Zone.{zone-row, zone-start, zone-short}
use Rattle.bays.proofs.Zone.{last-bay}
use Rattle.bays.proofs.last_bay.Goals as goal

pub find_own-requires : goal.find_own-requires
find_own-requires c = (search zone-row, search zone-start, search zone-short)

pub returns : goal.returns
returns c = search last-bay
