use Rattle.block_type.proofs.Types.{free-yes, free-no}
use Rattle.slide.proofs.way.Gathered.{keep-free, keep-used, keep-still}
use Rattle.slide.proofs.way.keep.Goals as goal

pub returns-then-eq : goal.returns-then-eq
returns-then-eq c = search (keep-free, free-yes)

pub returns-then-to-at : goal.returns-then-to-at
returns-then-to-at c = search (keep-used, free-no)

pub returns : goal.returns
returns c = search (keep-still, free-no)
