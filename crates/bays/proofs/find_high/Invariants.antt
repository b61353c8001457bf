use Rattle.std.proofs.Common.{◌≡◌}
use Rattle.bays.specs.Places.{bays_at, bay_found, no_bay, or_bay, high_bay}
use Rattle.bays.specs.Read.{Begins, next_in}
use Rattle.bays.proofs.Searches.{from}
use Rattle.bays.proofs.find_high.Given as goal

abbrev pub invariant-loop-bay : goal.invariant-loop-bay
invariant-loop-bay l =
    let next = l.bay-iterator.next in
    (l.bay-iterator.bytes.now ≡ l.z)
    × Begins l.z next
    × (or_bay (from no_bay (high_bay l.need) l.z (next_in l.z next)) (bay_found l.best) ≡ high_bay l.need l.first (bays_at l.z l.first))
