use Rattle.names.proofs.Pages.{stepped}
use Rattle.names.proofs.rounds.step.Goals as goal

pub returns : goal.returns
returns c = search stepped
