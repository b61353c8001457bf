use Rattle.allocate.proofs.growth.Laws.{room-left, room-none, room-found}
use Rattle.allocate.proofs.growth.has_room.Goals as goal

pub returns-then-need-left : goal.returns-then-need-left
returns-then-need-left c = search room-left

pub find_room-requires : goal.find_room-requires
find_room-requires c = let b = rw c.in-Some.is at c.requires.0 in (b.0, b.1, c.requires.1, c.requires.2)

pub returns-in-Some : goal.returns-in-Some
returns-in-Some c = rw c.is_some.ensures (search room-found)

pub returns-in-None : goal.returns-in-None
returns-in-None c = search room-none
