use Rattle.nafelode_c.proofs.Laws.{size-named}
use Rattle.nafelode_c.proofs.nafelode_size.Goals as goal

pub returns : goal.returns
returns c = size-named c.block_of-b.ensures _ c.give.ensures.alone c.size.ensures
