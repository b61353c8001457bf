use Rattle.std.proofs.Common.{◌≡◌, ◌≤◌, length}
use Rattle.block_type.specs.Limits.{longest_zone}
use Rattle.format.specs.WellFormed.{first_field}
use Rattle.bays.specs.Read.{Begins, next_in}
use Rattle.tell.proofs.Totals.{Met}
use Rattle.tell.proofs.sums_in.Given as goal

abbrev pub invariant-loop-bay : goal.invariant-loop-bay
invariant-loop-bay l =
    let z = l.z.bytes.now in
    let next = l.bay-iterator.next in
    (l.bay-iterator.bytes.now ≡ z) × Begins z next × (length z ≤ longest_zone) × (l.total ≤ next_in z next) × Met z (first_field z) (next_in z next) l.total l.largest
