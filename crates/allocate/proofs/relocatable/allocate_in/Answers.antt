use Rattle.allocate.proofs.relocatable.Placed.{ask-bay, ask-head, fits, done}
use Rattle.allocate.proofs.relocatable.allocate_in.Goals as goal

pub prepare-requires : goal.prepare-requires
prepare-requires c = search ask-bay

pub carve-requires : goal.carve-requires
carve-requires c = (search fits, search ask-head)

pub returns : goal.returns
returns c = search done
