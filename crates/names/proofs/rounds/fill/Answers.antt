use Rattle.std.proofs.Common.{arith, rules}
use Rattle.names.proofs.Pages.{step-next, name-fits}
use Rattle.names.proofs.rounds.Laws.{holding-start, holding-step, fill_end, fill_stop}
use Rattle.names.proofs.rounds.fill.Goals as goal

pub loop-at-init : goal.loop-at-init
loop-at-init c = (search rules, search holding-start)

pub take-requires : goal.take-requires
take-requires c = (search rules, search name-fits)

pub returns-then-not-take : goal.returns-then-not-take
returns-then-not-take c = search fill_stop

pub loop-at-smaller : goal.loop-at-smaller
loop-at-smaller c = omega arith

pub loop-at-preserved : goal.loop-at-preserved
loop-at-preserved c = (search step-next, search holding-step)

pub returns : goal.returns
returns c = search fill_end
