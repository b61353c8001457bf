use Rattle.access.proofs.row.Laws.{used-stepped}
use Rattle.access.proofs.row.step_used.Goals as goal

pub returns : goal.returns
returns c = search used-stepped
