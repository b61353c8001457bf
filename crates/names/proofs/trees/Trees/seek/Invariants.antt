use Rattle.std.proofs.Common.{◌≡◌, ◌-◌, ◌<◌, length}
use Rattle.names.specs.Tree.{name_bits, many_heads, ends, end_of}
use Rattle.names.proofs.trees.Trees.seek.Given as goal

abbrev pub invariant-loop : goal.invariant-loop
invariant-loop l =
    (l.p < length l.self.links)
    × (ends l.self.links l.self.keys many_heads l.x (name_bits - l.counter) l.p l.bits ≡ end_of l.self.links l.self.keys many_heads l.x)
