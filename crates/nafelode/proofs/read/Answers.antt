use Rattle.access.proofs.Checked.{bytes_of}
use Rattle.nafelode.proofs.Laws.{read-promised}
use Rattle.nafelode.proofs.read.Goals as goal

pub returns : goal.returns
returns c = search (read-promised, bytes_of)
