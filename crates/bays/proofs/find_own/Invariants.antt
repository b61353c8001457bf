use Rattle.std.proofs.Common.{◌≡◌, suc, ◌-◌, ◌≤◌, length}
use Rattle.block_type.specs.Limits.{longest_zone}
use Rattle.bays.specs.Places.{bays_at, own_bay}
use Rattle.bays.specs.Read.{Read, Begins, next_in}
use Rattle.bays.proofs.find_own.Given as goal

abbrev pub invariant-loop-read : goal.invariant-loop-read
invariant-loop-read l =
    let bay = l.read.bay in
    (length l.z ≤ longest_zone)
    × Read l.z bay.start bay.end bay.sum bay.tail (next_in l.z l.read.next)
    × Begins l.z l.read.next
    × (own_bay l.t bay.start (bays_at l.z bay.start) ≡ own_bay l.t l.first (bays_at l.z l.first))

abbrev pub decreases-loop-read : goal.decreases-loop-read
decreases-loop-read l = suc (length l.z) - next_in l.z l.read.next
