use Rattle.access.proofs.Checked.{bytes_of}
use Rattle.nafelode.proofs.Laws.{check-promised}
use Rattle.nafelode.proofs.check.Goals as goal

pub returns : goal.returns
returns c = search (check-promised, bytes_of)
