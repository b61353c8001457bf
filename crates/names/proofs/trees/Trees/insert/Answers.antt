use Rattle.std.proofs.Common.{rules, refl}
use Rattle.names.proofs.trees.More.{insert-full, insert-there, insert-tree, insert-new}
use Rattle.names.proofs.trees.Trees.insert.Goals as goal

pub returns-then-node-eq-KEYS : goal.returns-then-node-eq-KEYS
returns-then-node-eq-KEYS c = insert-full c.args.self.now c.args.x (search rules)

pub returns-then-self-p-ne0 : goal.returns-then-self-p-ne0
returns-then-self-p-ne0 c = search insert-there

pub invariant_of-self : goal.invariant_of-self
invariant_of-self c = record { grown = insert-tree c.args.self.now c.args.x c.seek-p.result (search rules) c.seek-p.ensures.0 c.seek-p.ensures.1 (search rules) }

pub returns : goal.returns
returns c = insert-new c.args.self.now c.args.x c.seek-p.result (search rules) c.seek-p.ensures.0 c.seek-p.ensures.1 (search rules) _ refl refl refl
