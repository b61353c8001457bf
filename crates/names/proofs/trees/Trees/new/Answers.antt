use Rattle.std.proofs.Common.{arith, refl, ◌+◌, ◌*◌}
use Rattle.names.specs.Tree.{branches, many_heads, many_keys}
use Rattle.names.proofs.trees.Fresh.{fresh}
use Rattle.names.proofs.trees.Trees.new.Goals as goal

pub invariant_of-result : goal.invariant_of-result
invariant_of-result c = record { grown = fresh (many_heads + many_keys * branches) many_keys many_heads (omega arith) (omega arith) (omega arith) (omega arith) refl }
