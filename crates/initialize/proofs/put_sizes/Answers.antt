use Rattle.initialize.proofs.Write.{sizes-done}
use Rattle.initialize.proofs.put_sizes.Goals as goal

pub returns : goal.returns
returns c = search sizes-done
