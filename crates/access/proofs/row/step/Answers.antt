use Rattle.access.proofs.row.Laws.{row_fits, stepped}
use Rattle.access.proofs.row.step.Goals as goal

pub size_at-requires : goal.size_at-requires
size_at-requires c = search row_fits

pub returns : goal.returns
returns c = search stepped
