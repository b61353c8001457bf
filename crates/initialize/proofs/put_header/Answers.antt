use Rattle.initialize.proofs.Write.{header-done}
use Rattle.initialize.proofs.put_header.Goals as goal

pub returns : goal.returns
returns c = search header-done
