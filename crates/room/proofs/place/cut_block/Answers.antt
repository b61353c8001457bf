use Rattle.room.proofs.place.Cut.{cut-done}
use Rattle.room.proofs.place.cut_block.Goals as goal

pub returns : goal.returns
returns c = search cut-done
