use Rattle.stretch.proofs.Laws.{shown-or}
use Rattle.stretch.proofs.shown.Goals as goal

pub returns : goal.returns
returns c = search (shown-or, c.part_of.ensures)
