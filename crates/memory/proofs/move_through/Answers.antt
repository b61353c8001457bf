use Rattle.memory.proofs.Slide.{through-law}
use Rattle.memory.proofs.move_through.Goals as goal

pub returns : goal.returns
returns c = search through-law
