use Rattle.access.proofs.Checked.{bytes_of}
use Rattle.nafelode.proofs.Laws.{sum-promised}
use Rattle.nafelode.proofs.sum.Goals as goal

pub returns : goal.returns
returns c = search (sum-promised, bytes_of)
