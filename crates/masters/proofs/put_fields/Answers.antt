use Rattle.masters.proofs.Writes.{fields-done}
use Rattle.masters.proofs.put_fields.Goals as goal

pub returns : goal.returns
returns c = search fields-done
