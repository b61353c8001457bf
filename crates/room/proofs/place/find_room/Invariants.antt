use Rattle.std.proofs.Common.{◌≡◌, suc, ◌-◌, ◌<◌, ◌≤◌, length}
use Rattle.block_type.specs.Limits.{longest_zone}
use Rattle.bays.specs.Places.{bays_at}
use Rattle.bays.specs.Read.{Begins, next_in}
use Rattle.bays.proofs.Searches.{from}
use Rattle.room.specs.place.Room.{no_site, low_site}
use Rattle.room.proofs.place.find_room.Given as goal

abbrev pub invariant-loop-next : goal.invariant-loop-next
invariant-loop-next l =
    (length l.z ≤ longest_zone) × (0 < l.need) × Begins l.z l.next × (from no_site (low_site l.need) l.z (next_in l.z l.next) ≡ low_site l.need l.first (bays_at l.z l.first))

abbrev pub decreases-loop-next : goal.decreases-loop-next
decreases-loop-next l = suc (length l.z) - next_in l.z l.next
