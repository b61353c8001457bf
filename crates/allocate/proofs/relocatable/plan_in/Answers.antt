use Rattle.access.proofs.Checked.{by_type}
use Rattle.allocate.proofs.relocatable.Zone.{in-0, in-3, in-5, room-here}
use Rattle.allocate.proofs.relocatable.plan_in.Goals as goal

pub returns-then-c-gt-RELOCATABLE_LIMIT-clause-err : goal.returns-then-c-gt-RELOCATABLE_LIMIT-clause-err
returns-then-c-gt-RELOCATABLE_LIMIT-clause-err c = search in-3

pub spot_in-requires : goal.spot_in-requires
spot_in-requires c = search (room-here, by_type)

pub returns-in-Some-clause-ok : goal.returns-in-Some-clause-ok
returns-in-Some-clause-ok c = search in-0

pub returns-in-None-clause-err : goal.returns-in-None-clause-err
returns-in-None-clause-err c = search (in-5, by_type)
