use Rattle.pages.proofs.status.Words.{stamp-set}
use Rattle.pages.proofs.status.stamped_word.Goals as goal

pub returns : goal.returns
returns c = search stamp-set
