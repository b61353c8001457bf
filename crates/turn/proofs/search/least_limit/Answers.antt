use Rattle.turn.proofs.search.Halves.{halve-done}
use Rattle.turn.proofs.search.least_limit.Goals as goal

pub returns : goal.returns
returns c = search halve-done
