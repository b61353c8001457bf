use Rattle.access.proofs.row.Laws.{free-stepped}
use Rattle.access.proofs.row.step_free.Goals as goal

pub returns : goal.returns
returns c = search free-stepped
