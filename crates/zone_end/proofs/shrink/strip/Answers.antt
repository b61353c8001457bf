use Rattle.zone_end.proofs.shrink.Placed.{ask-take, ask-sub, ask-word, ask-put, strip-done}
use Rattle.zone_end.proofs.shrink.strip.Goals as goal

pub take_high-requires : goal.take_high-requires
take_high-requires c = search ask-take

pub overflow_sub-p : goal.overflow_sub-p
overflow_sub-p c = search ask-sub

pub overflow_cast-p : goal.overflow_cast-p
overflow_cast-p c = search ask-word

pub put4-requires : goal.put4-requires
put4-requires c = search ask-put

pub returns : goal.returns
returns c = search strip-done
