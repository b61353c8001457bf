use Rattle.std.proofs.Common.{◌≡◌, ◌≤◌, min, drop}
use Rattle.format.specs.WellFormed.{first_field}
use Rattle.calls.specs.Bays.{concat_s}
use Rattle.bay.specs.Bay.{items}
use Rattle.access.specs.row.Row.{Row, blocks_of}
use Rattle.bays.specs.Places.{bays_at}
use Rattle.turn.specs.Rank.{rank_range, rank_found, least_dirty}
use Rattle.turn.proofs.search.Walk.{least_in}
use Rattle.turn.proofs.search.first_dirty.Given as goal

abbrev pub invariant-loop-block : goal.invariant-loop-block
invariant-loop-block l =
    let z = l.zone.bytes.now in
    let at = l.block-iterator.at in
    (l.block-iterator.bytes.now ≡ z)
    × Row (drop at z)
    × (rank_found l.least ≤ rank_range)
    × (min (rank_found l.least) (least_in l.clock (blocks_of (drop at z))) ≡ least_dirty l.clock (concat_s items (bays_at z (first_field z))))
