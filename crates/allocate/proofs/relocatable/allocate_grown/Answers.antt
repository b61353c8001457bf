use Rattle.allocate.proofs.relocatable.Added.{added-need, added-row, added-start, added-short, added-some, added-room, added-done}
use Rattle.allocate.proofs.relocatable.allocate_grown.Goals as goal

pub find_room-requires : goal.find_room-requires
find_room-requires c = (search added-row, search added-start, search added-short, search added-need)

pub spot_in-p-requires : goal.spot_in-p-requires
spot_in-p-requires c = search added-room

pub returns : goal.returns
returns c = search added-done

pub unwrap-site-requires : goal.unwrap-site-requires
unwrap-site-requires c = search added-some
