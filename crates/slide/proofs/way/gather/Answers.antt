use Rattle.slide.proofs.way.Gathered.{way-start, way_next, way-nearer, gather-done}
use Rattle.slide.proofs.way.gather.Goals as goal

pub loop-f-init : goal.loop-f-init
loop-f-init c = search way-start

pub loop-f-preserved : goal.loop-f-preserved
loop-f-preserved c = search way_next

pub loop-f-smaller : goal.loop-f-smaller
loop-f-smaller c = search way-nearer

pub returns : goal.returns
returns c = search gather-done
