use Rattle.resize.proofs.relocate.Zone.{ask-bay, carry-ready, done-ready}
use Rattle.resize.proofs.relocate.relocate.Goals as goal

pub prepare-requires : goal.prepare-requires
prepare-requires c = search ask-bay

pub carry-requires : goal.carry-requires
carry-requires c = search carry-ready

pub returns : goal.returns
returns c = search done-ready
