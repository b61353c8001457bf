use Rattle.records.proofs.Acts.{peeked}
use Rattle.records.proofs.read_byte.Goals as goal

pub returns : goal.returns
returns c = search peeked
