use Rattle.turn.proofs.rank.Page.{status-fits, name-fits, ranked-locked, ranked-is, ranked-no}
use Rattle.turn.proofs.rank.rank_at.Goals as goal

pub returns-then-not-is_page-clause-is : goal.returns-then-not-is_page-clause-is
returns-then-not-is_page-clause-is c = search ranked-no

pub get2-status-requires : goal.get2-status-requires
get2-status-requires c = search status-fits

pub returns-then-is_locked-clause-is : goal.returns-then-is_locked-clause-is
returns-then-is_locked-clause-is c = search ranked-locked

pub get4-name-requires : goal.get4-name-requires
get4-name-requires c = search name-fits

pub returns-clause-is : goal.returns-clause-is
returns-clause-is c = search ranked-is
