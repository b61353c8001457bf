use Rattle.access.proofs.Checked.{by_type}
use Rattle.resize.proofs.reshape.Room.{room_word, room_row, room-in, room-is}
use Rattle.resize.proofs.reshape.room_after.Goals as goal

pub overflow_add-end : goal.overflow_add-end
overflow_add-end c = search (room_word, by_type)

pub end_behind-requires : goal.end_behind-requires
end_behind-requires c = (search (room_row, by_type), search (room-in, by_type))

pub returns : goal.returns
returns c = search (room-is, by_type)
