use Rattle.records.proofs.Printing.{skip-put}
use Rattle.records.proofs.put_skip.Goals as goal

pub returns : goal.returns
returns c = search skip-put
