use Rattle.masters.proofs.Grown.{ask-bay, ask-sum, ask-header, ask-low, ask-first, ask-order, ask-end, ask-short, pass-bay, pass-low, grow-done}
use Rattle.masters.proofs.grow.Goals as goal

pub make_masters-requires : goal.make_masters-requires
make_masters-requires c = (search ask-bay, search ask-sum)

pub put_fields-requires : goal.put_fields-requires
put_fields-requires c = (search ask-header, search ask-low, search ask-first)

pub set_masters-requires : goal.set_masters-requires
set_masters-requires c = (search ask-order, search ask-end, search ask-short, search pass-bay, search pass-low)

pub returns : goal.returns
returns c = search grow-done
