use Rattle.compact.proofs.Next.{ended-fits, after-end, after-fixed}
use Rattle.compact.proofs.next_after.Goals as goal

pub size_at-requires : goal.size_at-requires
size_at-requires c = search ended-fits

pub returns-then-at-z : goal.returns-then-at-z
returns-then-at-z c = search after-fixed

pub returns : goal.returns
returns c = search after-end
