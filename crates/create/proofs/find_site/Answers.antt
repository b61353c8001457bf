use native.Mathlib.Omega.{arith}
use Rattle.access.proofs.Checked.{zone-8}
use Rattle.access.proofs.row.Zone.{zone-row, zone-start, zone-short}
use Rattle.create.proofs.Room.{site-searched}
use Rattle.create.proofs.find_site.Goals as goal

pub get4-first-requires : goal.get4-first-requires
get4-first-requires c = search zone-8

pub find_room-requires : goal.find_room-requires
find_room-requires c = (search zone-row, search zone-start, search zone-short, omega arith)

pub returns : goal.returns
returns c = search site-searched
