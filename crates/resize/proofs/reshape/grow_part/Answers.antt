use Rattle.resize.proofs.reshape.Grown.{grow-some, grow-none}
use Rattle.resize.proofs.reshape.grow_part.Goals as goal

pub returns-then-rest-end : goal.returns-then-rest-end
returns-then-rest-end c = search grow-some

pub returns-else-rest-end : goal.returns-else-rest-end
returns-else-rest-end c = search grow-none
