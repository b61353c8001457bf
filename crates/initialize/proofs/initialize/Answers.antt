use Rattle.initialize.proofs.Write.{within}
use Rattle.initialize.proofs.Bytes.{init-fresh, init-done, init-no}
use Rattle.initialize.proofs.initialize.Goals as goal

pub slice_bounds-make-end : goal.slice_bounds-make-end
slice_bounds-make-end c = search within

pub make-requires : goal.make-requires
make-requires c = search init-fresh

pub returns-then-is_accepted : goal.returns-then-is_accepted
returns-then-is_accepted c = search init-done

pub returns-else-is_accepted : goal.returns-else-is_accepted
returns-else-is_accepted c = search init-no
