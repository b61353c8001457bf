use Rattle.names.proofs.trees.Search.{is-in-node, is-in-none}
use Rattle.names.proofs.trees.Trees.contains.Goals as goal

pub returns-then-i-gt0 : goal.returns-then-i-gt0
returns-then-i-gt0 c = search is-in-node

pub returns-else-i-gt0 : goal.returns-else-i-gt0
returns-else-i-gt0 c = search is-in-none
