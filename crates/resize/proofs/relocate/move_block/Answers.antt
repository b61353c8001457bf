use Rattle.resize.proofs.relocate.Writes.{move-done}
use Rattle.resize.proofs.relocate.move_block.Goals as goal

pub returns : goal.returns
returns c = search move-done
