use Rattle.inspect.proofs.strata.Laws.{limit-read}
use Rattle.inspect.proofs.strata.limit.Goals as goal

pub returns : goal.returns
returns c = search limit-read
