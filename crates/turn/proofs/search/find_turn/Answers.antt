use Rattle.access.proofs.Checked.{by_type}
use Rattle.turn.proofs.search.Found.{turn-starts, turn-five, turn-twelve, turn-found}
use Rattle.turn.proofs.search.find_turn.Goals as goal

pub returns-then-all-need-clause-err : goal.returns-then-all-need-clause-err
returns-then-all-need-clause-err c = search (turn-five, by_type)

pub least_limit-limit-requires : goal.least_limit-limit-requires
least_limit-limit-requires c = search (turn-starts, by_type)

pub returns-in-Some-clause-err : goal.returns-in-Some-clause-err
returns-in-Some-clause-err c = let d = rw c.in-Some.is at c.first_dirty.ensures in search (turn-twelve, by_type)

pub returns-in_default-clause-ok : goal.returns-in_default-clause-ok
returns-in_default-clause-ok c = let d = rw c.in-Some.is at c.first_dirty.ensures in search (turn-found, by_type)

pub returns-in_default-2-clause-ok : goal.returns-in_default-2-clause-ok
returns-in_default-2-clause-ok c = let d = rw c.in_default.is at c.first_dirty.ensures in search (turn-found, by_type)
