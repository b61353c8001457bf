use Rattle.room.proofs.bay_end.Taken.{ask-bay, free-here, free-after, taken_here, taken-after}
use Rattle.room.proofs.bay_end.take_high.Goals as goal

pub trim-requires : goal.trim-requires
trim-requires c = search free-here

pub compact_bay-requires : goal.compact_bay-requires
compact_bay-requires c = search ask-bay

pub trim-requires-else-n-bay : goal.trim-requires-else-n-bay
trim-requires-else-n-bay c = search free-after

pub returns-then-n-bay : goal.returns-then-n-bay
returns-then-n-bay c = search taken_here

pub returns-else-n-bay : goal.returns-else-n-bay
returns-else-n-bay c = search taken-after
