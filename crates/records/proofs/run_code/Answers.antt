use Rattle.records.proofs.Acts.{initializes, allocates, allocates_fixed, frees, frees_fixed, resizes, writes, reads, compacts, enlarges, shrinks}
use Rattle.records.proofs.run_code.Goals as goal

pub returns-in-Initialize : goal.returns-in-Initialize
returns-in-Initialize c = search initializes

pub returns-in-AllocateRelocatable : goal.returns-in-AllocateRelocatable
returns-in-AllocateRelocatable c = search allocates

pub returns-in-AllocateFixed : goal.returns-in-AllocateFixed
returns-in-AllocateFixed c = search allocates_fixed

pub returns-in-FreeHandle : goal.returns-in-FreeHandle
returns-in-FreeHandle c = search frees

pub returns-in-FreePointer : goal.returns-in-FreePointer
returns-in-FreePointer c = search frees_fixed

pub returns-in-Resize : goal.returns-in-Resize
returns-in-Resize c = search resizes

pub returns-in-WriteByte : goal.returns-in-WriteByte
returns-in-WriteByte c = search writes

pub returns-in-ReadByte : goal.returns-in-ReadByte
returns-in-ReadByte c = search reads

pub returns-in-Compact : goal.returns-in-Compact
returns-in-Compact c = search compacts

pub returns-in-Enlarge : goal.returns-in-Enlarge
returns-in-Enlarge c = search enlarges

pub returns-in-Shrink : goal.returns-in-Shrink
returns-in-Shrink c = search shrinks
