use Rattle.std.proofs.Common.{arith, rules}
use Rattle.names.proofs.trees.Search.{seek-start, start-within, seek-none, seek-same, seek-go, seek-out, place-within}
use Rattle.names.proofs.trees.Trees.seek.Goals as goal
use Rattle.names.proofs.trees.Trees.seek.Goals.{then-i-eq0-via-then-i-eq0, then-i-eq0-via-else-i-eq0+then-self-i}

pub loop-init : goal.loop-init
loop-init c = (search (start-within, c.args.self.now), search seek-start)

pub returns-then-i-eq0 : goal.returns-then-i-eq0
returns-then-i-eq0 c =
    (elim c.then-i-eq0.branch [ then-i-eq0-via-then-i-eq0 w ↦ search seek-none | then-i-eq0-via-else-i-eq0+then-self-i w ↦ search seek-same ], search rules)

pub loop-preserved : goal.loop-preserved
loop-preserved c = (search (place-within, c.args.self.now), search seek-go)

pub returns : goal.returns
returns c = (search (seek-out, arith), search rules)
