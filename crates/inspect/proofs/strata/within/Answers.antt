use Rattle.inspect.proofs.strata.Laws.{within-rules}
use Rattle.inspect.proofs.strata.within.Goals as goal

pub returns : goal.returns
returns c = search within-rules
