use Rattle.block_type.proofs.Types.{free-yes, free-no}
use Rattle.slide.proofs.run.Down.{pass-free, pass-held}
use Rattle.slide.proofs.run.pass.Goals as goal

pub returns-then-eq : goal.returns-then-eq
returns-then-eq c = search (pass-free, free-yes)

pub returns-else-eq : goal.returns-else-eq
returns-else-eq c = search (pass-held, free-no)
