use Rattle.allocate.proofs.relocatable.Writes.{carve-fit, carve-done}
use Rattle.allocate.proofs.relocatable.carve.Goals as goal

pub cut_block-requires : goal.cut_block-requires
cut_block-requires c = search carve-fit

pub returns : goal.returns
returns c = search carve-done
