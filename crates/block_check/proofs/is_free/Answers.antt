use Rattle.block_check.proofs.Leaves.{free_law}
use Rattle.block_check.proofs.is_free.Goals as goal

pub returns : goal.returns
returns c = search free_law
