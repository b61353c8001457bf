use Rattle.nafelode_c.proofs.Laws.{write-named}
use Rattle.nafelode_c.proofs.nafelode_write.Goals as goal

pub returns : goal.returns
returns c = write-named c.block_of.ensures _ (c.number.ensures.second _) _ _ _ _ c.write.ensures
