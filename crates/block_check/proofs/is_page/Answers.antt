use Rattle.block_check.proofs.Leaves.{page-law}
use Rattle.block_check.proofs.is_page.Goals as goal

pub returns : goal.returns
returns c = search page-law
