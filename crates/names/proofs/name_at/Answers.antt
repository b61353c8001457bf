use Rattle.names.proofs.Pages.{name-law}
use Rattle.names.proofs.name_at.Goals as goal

pub returns : goal.returns
returns c = search name-law
