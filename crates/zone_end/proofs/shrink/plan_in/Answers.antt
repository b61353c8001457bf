use Rattle.access.proofs.Checked.{by_type}
use Rattle.zone_end.proofs.shrink.Call.{plan-done}
use Rattle.zone_end.proofs.shrink.plan_in.Goals as goal

pub returns : goal.returns
returns c = search (plan-done, by_type)

pub last_bay-bay-requires : goal.last_bay-bay-requires
last_bay-bay-requires c = (search by_type, search c.first_block.ensures.first_is)
