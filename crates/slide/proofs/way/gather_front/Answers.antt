use Rattle.std.proofs.Common.{rules}
use Rattle.slide.proofs.way.Gathered.{front-start, way_next, way-nearer}
use Rattle.slide.proofs.way.Way.{front-goes-on, front-done}
use Rattle.slide.proofs.way.gather_front.Goals as goal

pub loop-f-init : goal.loop-f-init
loop-f-init c = search front-start

pub pass-f-requires : goal.pass-f-requires
pass-f-requires c = (search front-goes-on, search rules, search rules, search rules)

pub loop-f-preserved : goal.loop-f-preserved
loop-f-preserved c = search way_next

pub loop-f-smaller : goal.loop-f-smaller
loop-f-smaller c = search way-nearer

pub returns : goal.returns
returns c = search front-done
