use Rattle.block_check.proofs.Word.{held-law, held-not}
use Rattle.block_check.proofs.is_held.Goals as goal

pub returns-then-get4-at : goal.returns-then-get4-at
returns-then-get4-at c = search held-law

pub returns-else-get4-at : goal.returns-else-get4-at
returns-else-get4-at c = search held-not
