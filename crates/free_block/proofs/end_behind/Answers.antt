use Rattle.free_block.proofs.Walk.{behind-none, behind-free, behind-used}
use Rattle.free_block.proofs.end_behind.Goals as goal

pub returns-then-z-end : goal.returns-then-z-end
returns-then-z-end c = search behind-none

pub returns-then-is_free : goal.returns-then-is_free
returns-then-is_free c = search behind-free

pub returns-else-is_free : goal.returns-else-is_free
returns-else-is_free c = search behind-used
