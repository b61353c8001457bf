use Rattle.names.proofs.trees.Search.{turn-law}
use Rattle.names.proofs.trees.turn.Goals as goal

pub returns : goal.returns
returns c = search turn-law
