use Rattle.bay.proofs.BayBytes.{bay-fits, stepped}
use Rattle.slide.proofs.step.Goals as goal

pub size_at-requires : goal.size_at-requires
size_at-requires c = search bay-fits

pub returns : goal.returns
returns c = search stepped
