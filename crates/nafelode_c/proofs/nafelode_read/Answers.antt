use Rattle.nafelode_c.proofs.Laws.{read_named}
use Rattle.nafelode_c.proofs.nafelode_read.Goals as goal

pub returns : goal.returns
returns c = read_named c.block_of.ensures _ (c.number.ensures.second _) _ _ _ c.read.ensures
