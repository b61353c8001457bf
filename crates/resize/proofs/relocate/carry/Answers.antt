use Rattle.resize.proofs.relocate.Carrying.{carry-live, carry-at}
use Rattle.resize.proofs.relocate.Carried.{carry-done}
use Rattle.resize.proofs.relocate.carry.Goals as goal

pub find_old-old-requires : goal.find_old-old-requires
find_old-old-requires c = search carry-live

pub move_block-requires : goal.move_block-requires
move_block-requires c = search carry-at

pub returns : goal.returns
returns c = search carry-done
