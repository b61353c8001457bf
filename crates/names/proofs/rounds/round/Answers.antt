use Rattle.names.proofs.rounds.Laws.{round-twice, round-on}
use Rattle.names.proofs.rounds.round.Goals as goal

pub returns-then-look : goal.returns-then-look
returns-then-look c = search round-twice

pub returns-else-look : goal.returns-else-look
returns-else-look c = search round-on
