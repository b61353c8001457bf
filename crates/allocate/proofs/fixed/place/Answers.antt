use Rattle.allocate.proofs.fixed.Placed.{ask-take, ask-sub, ask-put, ask-need, place-done}
use Rattle.allocate.proofs.fixed.place.Goals as goal

pub take_high-requires : goal.take_high-requires
take_high-requires c = search ask-take

pub overflow_sub-p : goal.overflow_sub-p
overflow_sub-p c = search ask-sub

pub put_header-requires : goal.put_header-requires
put_header-requires c = (search ask-put, search ask-need)

pub returns : goal.returns
returns c = search place-done
