use Rattle.std.proofs.Common.{◌-◌, ◌<◌, ◌≤◌, length, drop}
use Rattle.block_type.specs.Limits.{longest_zone}
use Rattle.access.specs.row.Row.{Row}
use Rattle.room.specs.place.Found.{hole_found}
use Rattle.room.proofs.place.Walk.{SeenFor}
use Rattle.room.proofs.place.read_room.Given as goal

abbrev pub invariant-loop-at : goal.invariant-loop-at
invariant-loop-at l =
    (l.sum ≤ l.at) × (l.at ≤ length l.z) × (length l.z ≤ longest_zone) × (0 < l.need) × Row (drop l.at l.z) × SeenFor l.z l.start l.need l.at l.sum (hole_found l.best)

abbrev pub decreases-loop-at : goal.decreases-loop-at
decreases-loop-at l = length l.z - l.at
