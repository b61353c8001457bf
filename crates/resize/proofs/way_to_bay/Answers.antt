use Rattle.access.proofs.Checked.{by_type}
use Rattle.resize.proofs.Bays.{own-way, other-way, other-none}
use Rattle.resize.proofs.way_to_bay.Goals as goal

pub returns-then-block-own-clause-ok : goal.returns-then-block-own-clause-ok
returns-then-block-own-clause-ok c = search (own-way, by_type)

pub returns-in-Some-clause-ok : goal.returns-in-Some-clause-ok
returns-in-Some-clause-ok c = let m = rw c.in-Some.is at c.find_room.ensures in search (other-way, by_type)

pub returns-in-None-clause-err : goal.returns-in-None-clause-err
returns-in-None-clause-err c = let m = rw c.in-None.is at c.find_room.ensures in search (other-none, by_type)
