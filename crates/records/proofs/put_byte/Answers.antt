use Rattle.records.proofs.Printing.{byte_put}
use Rattle.records.proofs.put_byte.Goals as goal

pub returns : goal.returns
returns c = search byte_put
