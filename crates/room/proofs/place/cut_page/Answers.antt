use Rattle.room.proofs.place.Cut.{page-done}
use Rattle.room.proofs.place.cut_page.Goals as goal

pub returns : goal.returns
returns c = search page-done
