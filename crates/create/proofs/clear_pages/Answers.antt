use Rattle.access.proofs.Checked.{zone-8, zone-clock}
use Rattle.create.proofs.Room.{gone-by}
use Rattle.create.proofs.clear_pages.Goals as goal

pub get4-first-requires : goal.get4-first-requires
get4-first-requires c = search zone-8

pub bounds-z-14 : goal.bounds-z-14
bounds-z-14 c = search zone-clock

pub returns : goal.returns
returns c = search gone-by
