use Rattle.create.proofs.Place.{carve-done}
use Rattle.create.proofs.carve.Goals as goal

pub returns : goal.returns
returns c = search carve-done
