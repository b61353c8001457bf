use Rattle.std.proofs.Common.{arith}
use Rattle.structure.proofs.IsZone.{whole_of}
use Rattle.access.proofs.Checked.{by_type}
use Rattle.allocate.proofs.growth.Laws.{grows-many, grows_none, grows-no, grows-yes}
use Rattle.allocate.proofs.growth.plan_growth.Goals as goal

pub overflow_add-masters : goal.overflow_add-masters
overflow_add-masters c = record { fits = omega (arith, (whole_of _ (by_type c.args.z)).few, c.masters.ensures) }

pub returns-then-masters-gt-MOST_MASTERS-clause-err : goal.returns-then-masters-gt-MOST_MASTERS-clause-err
returns-then-masters-gt-MOST_MASTERS-clause-err c = search (grows-many, by_type)

pub returns-then-read-lt-ADDED_BYTES-clause-err : goal.returns-then-read-lt-ADDED_BYTES-clause-err
returns-then-read-lt-ADDED_BYTES-clause-err c = search (grows_none, by_type)

pub returns-then-has_room-clause-ok : goal.returns-then-has_room-clause-ok
returns-then-has_room-clause-ok c = search (grows-yes, by_type)

pub returns-clause-err : goal.returns-clause-err
returns-clause-err c = search (grows-no, by_type)
