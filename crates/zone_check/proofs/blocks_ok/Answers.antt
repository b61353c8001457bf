use Rattle.zone_check.proofs.Turns.{walked_start, unseen_start, found_none, first-unseen, one-walk, second-walk}
use Rattle.zone_check.proofs.blocks_ok.Goals as goal

pub walk-requires : goal.walk-requires
walk-requires c = (search walked_start, search unseen_start, search found_none)

pub walk-requires-then-t-z : goal.walk-requires-then-t-z
walk-requires-then-t-z c =
    let e = c.in_ok-t.ensures.0 in
    (c.in_ok-t.ensures.1.good, search (first-unseen, c.in_ok-t.ensures.1), rw e c.in_ok-t.ensures.1.finds)

pub returns-then-t-z : goal.returns-then-t-z
returns-then-t-z c = second-walk _ _ _ _ _ _ _ c.walk-then-t-z.ensures c.in_ok-t.ensures.0

pub returns : goal.returns
returns c = search (one-walk, c.in_ok-t.ensures.1)
