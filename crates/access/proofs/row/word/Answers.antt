use Rattle.access.proofs.row.Laws.{row_fits}
use Rattle.access.proofs.row.word.Goals as goal

pub header_at-requires : goal.header_at-requires
header_at-requires c = search row_fits
