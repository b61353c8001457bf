use Rattle.access.proofs.Checked.{by_type}
use Rattle.zone_end.proofs.enlarge.Zone.{last-at, last-low}
use Rattle.zone_end.proofs.enlarge.last_free.Goals as goal

pub overflow_sub-result : goal.overflow_sub-result
overflow_sub-result c = search (last-low, by_type)

pub returns : goal.returns
returns c = search (last-at, by_type)

pub last_bay-last-requires : goal.last_bay-last-requires
last_bay-last-requires c = (search by_type, search c.first_block.ensures.first_is)
