use Rattle.records.proofs.Printing.{numbers-put}
use Rattle.records.proofs.put_numbers.Goals as goal

pub returns : goal.returns
returns c = search numbers-put
