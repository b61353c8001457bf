use Rattle.names.proofs.Mixed.{head-fits, head-law, head-lt}
use Rattle.names.proofs.head.Goals as goal

pub overflow_mul-result : goal.overflow_mul-result
overflow_mul-result c = record { fits = search head-fits }

pub returns : goal.returns
returns c = (search head-law, search head-lt)
