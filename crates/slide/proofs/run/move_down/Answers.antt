use Rattle.slide.proofs.run.Down.{down-some, down-none}
use Rattle.slide.proofs.run.move_down.Goals as goal

pub returns-then-to-from : goal.returns-then-to-from
returns-then-to-from c = search down-some

pub returns-else-to-from : goal.returns-else-to-from
returns-else-to-from c = search down-none
