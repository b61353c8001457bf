use Rattle.block_type.proofs.Types.{free-yes, free-no}
use Rattle.block_check.proofs.Leaves.{size-free, size-used}
use Rattle.block_check.proofs.size_at.Goals as goal

pub returns-then-eq : goal.returns-then-eq
returns-then-eq c = search (size-free, free-yes)

pub returns-else-eq : goal.returns-else-eq
returns-else-eq c = search (size-used, free-no)
