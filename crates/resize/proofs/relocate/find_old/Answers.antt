use Rattle.resize.proofs.relocate.OldPlace.{old-master, old-place, old-low, old-end, old_in}
use Rattle.resize.proofs.relocate.find_old.Goals as goal

pub get4-place-requires : goal.get4-place-requires
get4-place-requires c = search old-master

pub overflow_sub-place : goal.overflow_sub-place
overflow_sub-place c = search (old-low, old-place)

pub overflow_add-end : goal.overflow_add-end
overflow_add-end c = search (old-end, old-place)

pub extent_of-requires : goal.extent_of-requires
extent_of-requires c = search (old_in, old-place)

pub returns : goal.returns
returns c = search old-place
