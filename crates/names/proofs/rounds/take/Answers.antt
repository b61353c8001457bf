use Rattle.names.proofs.Pages.{page-room}
use Rattle.names.proofs.rounds.Laws.{take-page, take-other}
use Rattle.names.proofs.rounds.take.Goals as goal

pub name_at-requires : goal.name_at-requires
name_at-requires c = search page-room

pub returns-then-not-is_page : goal.returns-then-not-is_page
returns-then-not-is_page c = search take-other

pub returns-else-not-is_page : goal.returns-else-not-is_page
returns-else-not-is_page c = search take-page
