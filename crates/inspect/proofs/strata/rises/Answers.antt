use Rattle.inspect.proofs.strata.Laws.{rise-start, rise-on, rise-not, rise-end}
use Rattle.inspect.proofs.strata.rises.Goals as goal

pub loop-i-init : goal.loop-i-init
loop-i-init c = search rise-start

pub returns-then-next-last : goal.returns-then-next-last
returns-then-next-last c = search rise-not

pub loop-i-preserved : goal.loop-i-preserved
loop-i-preserved c = search rise-on

pub returns : goal.returns
returns c = search rise-end
