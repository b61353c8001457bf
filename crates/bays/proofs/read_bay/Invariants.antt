use Prim.Native.Nat.{◌-◌, ◌≤◌}
use lib.ListN.{length, drop}
use Rattle.block_type.specs.Limits.{longest_zone}
use Rattle.access.specs.row.Row.{Row}
use Rattle.bays.proofs.Walk.{Seen}
use Rattle.bays.proofs.read_bay.Given as goal

abbrev pub invariant-loop-at : goal.invariant-loop-at
invariant-loop-at l = (l.sum ≤ l.at) × (l.at ≤ length l.z) × (length l.z ≤ longest_zone) × Row (drop l.at l.z) × Seen l.z l.start l.at l.sum l.tail

abbrev pub decreases-loop-at : goal.decreases-loop-at
decreases-loop-at l = length l.z - l.at
