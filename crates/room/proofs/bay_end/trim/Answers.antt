use Rattle.room.proofs.bay_end.Trimmed.{trim-done}
use Rattle.room.proofs.bay_end.trim.Goals as goal

pub returns : goal.returns
returns c = search trim-done
