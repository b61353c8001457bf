use Rattle.block_check.proofs.Word.{header-law}
use Rattle.block_check.proofs.header_at.Goals as goal

pub returns : goal.returns
returns c = search header-law
