use Rattle.std.proofs.Common.{refl, arith}
use Rattle.stretch.specs.Part.{past_end, short}
use Rattle.stretch.proofs.reach.Goals as goal

pub returns-then-span-s-clause-err : goal.returns-then-span-s-clause-err
returns-then-span-s-clause-err c = past_end (omega arith) refl

pub returns-then-have-count-clause-err : goal.returns-then-have-count-clause-err
returns-then-have-count-clause-err c = short (omega arith) (omega arith) refl
