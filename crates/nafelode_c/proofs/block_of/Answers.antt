use Rattle.nafelode_c.proofs.Laws.{named-handle, named-name, named-pointer}
use Rattle.nafelode_c.proofs.block_of.Goals as goal

pub returns-then-by-eq0 : goal.returns-then-by-eq0
returns-then-by-eq0 c = search named-handle

pub returns-then-by-eq2 : goal.returns-then-by-eq2
returns-then-by-eq2 c = search named-name

pub returns : goal.returns
returns c = search named-pointer
