use Rattle.turn.proofs.search.Halves.{halve-low, halve-high}
use Rattle.turn.proofs.search.halve.Goals as goal

pub returns-then-need-w : goal.returns-then-need-w
returns-then-need-w c = search halve-low

pub returns-else-need-w : goal.returns-else-need-w
returns-else-need-w c = search halve-high
