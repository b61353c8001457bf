use Rattle.std.proofs.Common.{arith}
use Rattle.access.proofs.Checked.{by_type}
use Rattle.create.proofs.Number.{in-11, in-3, in-room, no_room_lem, in-turn, out-of-turn}
use Rattle.create.proofs.plan_in.Goals as goal

pub returns-then-is_some-clause-err : goal.returns-then-is_some-clause-err
returns-then-is_some-clause-err c = search (in-11, by_type)

pub returns-then-c-gt-PAGE_LIMIT-clause-err : goal.returns-then-c-gt-PAGE_LIMIT-clause-err
returns-then-c-gt-PAGE_LIMIT-clause-err c = search (in-3, by_type)

pub find_site-requires : goal.find_site-requires
find_site-requires c = (search by_type, omega arith)

pub returns-in-Some-clause-ok : goal.returns-in-Some-clause-ok
returns-in-Some-clause-ok c = search (in-room, by_type)

pub find_turn-requires : goal.find_turn-requires
find_turn-requires c = search (no_room_lem, by_type)

pub returns-in_err-limit-in-None-clause-err : goal.returns-in_err-limit-in-None-clause-err
returns-in_err-limit-in-None-clause-err c = search (out-of-turn, by_type, c.in_err-limit-in-None.ensures)

pub returns-in_ok-limit-in-None-clause-ok : goal.returns-in_ok-limit-in-None-clause-ok
returns-in_ok-limit-in-None-clause-ok c = search (in-turn, by_type, c.in_ok-limit-in-None.ensures)
