use Rattle.memory.proofs.Writes.{fill_step}
use Rattle.memory.proofs.fill_zero.Goals as goal

pub loop-x-preserved : goal.loop-x-preserved
loop-x-preserved c = search fill_step
