use Rattle.block_check.proofs.Leaves.{free-rule-prev, free-rule}
use Rattle.block_check.proofs.free_ok.Goals as goal

pub returns-then-not-prev : goal.returns-then-not-prev
returns-then-not-prev c = search free-rule

pub returns-else-not-prev : goal.returns-else-not-prev
returns-else-not-prev c = search free-rule-prev
