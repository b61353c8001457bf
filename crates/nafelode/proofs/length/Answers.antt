use Rattle.access.proofs.Checked.{bytes_of}
use Rattle.nafelode.proofs.Laws.{length-promised}
use Rattle.nafelode.proofs.length.Goals as goal

pub returns : goal.returns
returns c = search (length-promised, bytes_of)
