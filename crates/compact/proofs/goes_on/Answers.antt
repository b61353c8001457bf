use Rattle.compact.proofs.Next.{on-past, on-block}
use Rattle.compact.proofs.goes_on.Goals as goal

pub returns-then-at-z : goal.returns-then-at-z
returns-then-at-z c = search on-block

pub returns-else-at-z : goal.returns-else-at-z
returns-else-at-z c = search on-past
