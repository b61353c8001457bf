use Rattle.create.proofs.Made.{room_for, made-place, made_bytes}
use Rattle.create.proofs.create_in.Goals as goal

pub make_room-site-requires : goal.make_room-site-requires
make_room-site-requires c = search room_for

pub returns : goal.returns
returns c = (search made-place, search made_bytes)
