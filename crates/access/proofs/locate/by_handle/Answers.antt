use Rattle.access.proofs.Checked.{by_type}
use Rattle.access.proofs.locate.Handle.{no-master, master_fits, free-master, live-low, live-fits, live_header, live-data}
use Rattle.access.proofs.locate.by_handle.Goals as goal

pub returns-then-not-is_master : goal.returns-then-not-is_master
returns-then-not-is_master c = search (no-master, by_type)

pub get4-at-requires : goal.get4-at-requires
get4-at-requires c = search (master_fits, by_type)

pub returns-then-at-first : goal.returns-then-at-first
returns-then-at-first c = search (free-master, by_type)

pub overflow_sub-at : goal.overflow_sub-at
overflow_sub-at c = search (live-low, by_type)

pub size_at-size-requires : goal.size_at-size-requires
size_at-size-requires c = search (live-fits, by_type)

pub overflow_sub-result : goal.overflow_sub-result
overflow_sub-result c = search (live_header, by_type)

pub returns : goal.returns
returns c = search (live-data, by_type)
