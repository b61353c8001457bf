use Rattle.records.proofs.Acts.{wrote}
use Rattle.records.proofs.write_byte.Goals as goal

pub returns : goal.returns
returns c = search wrote
