use Rattle.access.proofs.Checked.{bytes_of}
use Rattle.nafelode.proofs.Laws.{roster-promised}
use Rattle.nafelode.proofs.roster.Goals as goal

pub returns : goal.returns
returns c = search (roster-promised, bytes_of)
