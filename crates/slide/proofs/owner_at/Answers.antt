use Rattle.block_type.proofs.Types.{reloc-yes, reloc-no}
use Rattle.slide.proofs.Master.{own-none, own-zero, own-some}
use Rattle.slide.proofs.owner_at.Goals as goal

pub returns-else-eq : goal.returns-else-eq
returns-else-eq c = search (own-none, reloc-no)

pub returns-in-0 : goal.returns-in-0
returns-in-0 c = search (own-zero, reloc-yes)

pub returns-in_default : goal.returns-in_default
returns-in_default c = search (own-some, reloc-yes)
