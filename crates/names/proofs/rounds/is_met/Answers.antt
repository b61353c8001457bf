use Rattle.names.proofs.Pages.{page-fits}
use Rattle.names.proofs.rounds.Laws.{met-page, met-other}
use Rattle.names.proofs.rounds.is_met.Goals as goal

pub name_at-requires : goal.name_at-requires
name_at-requires c = search page-fits

pub returns-then-is_page : goal.returns-then-is_page
returns-then-is_page c = search met-page

pub returns-else-is_page : goal.returns-else-is_page
returns-else-is_page c = search met-other
