use Rattle.bigendian.proofs.Laws.{swapped-law}
use Rattle.bigendian.proofs.swapped.Goals as goal

pub returns : goal.returns
returns c = search swapped-law
