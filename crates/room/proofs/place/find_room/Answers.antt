use Rattle.std.proofs.Common.{arith, rules}
use Rattle.bays.proofs.Given.{begins-at}
use Rattle.room.proofs.place.Walk.{sum_inside, site-start}
use Rattle.room.proofs.place.find_room.Goals as goal

pub read_room-read-requires : goal.read_room-read-requires
read_room-read-requires c = let b = begins-at _ _ _ c.in-Some.is c.loop-next.invariant.2 in (b.0, b.1, omega arith, omega arith)

pub loop-next-init : goal.loop-next-init
loop-next-init c = (omega arith, omega arith, (search rules, omega arith), search site-start)

pub site_in-requires : goal.site_in-requires
site_in-requires c = search sum_inside
