use Rattle.initialize.proofs.Write.{make-done}
use Rattle.initialize.proofs.make.Goals as goal

pub returns : goal.returns
returns c = search make-done
