use Rattle.access.proofs.Checked.{bytes_of}
use Rattle.nafelode.proofs.Laws.{size-promised}
use Rattle.nafelode.proofs.size.Goals as goal

pub returns : goal.returns
returns c = search (size-promised, bytes_of)
