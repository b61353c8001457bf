use Rattle.std.proofs.Common.{◌≡◌, ◌≤◌, drop}
use Rattle.format.specs.WellFormed.{first_field}
use Rattle.access.specs.row.Row.{Row, blocks_of}
use Rattle.turn.specs.Rank.{limit_range}
use Rattle.turn.proofs.search.Walk.{Walked}
use Rattle.turn.proofs.search.weigh.Given as goal

abbrev pub invariant-loop-block : goal.invariant-loop-block
invariant-loop-block l =
    let z = l.zone.bytes.now in
    let at = l.block-iterator.at in
    (l.block-iterator.bytes.now ≡ z)
    × Row (drop at z)
    × (l.w.sum ≤ at)
    × (l.w.over ≤ limit_range)
    × Walked l.clock l.limit (blocks_of (drop (first_field z) z)) (blocks_of (drop at z)) l.w.best l.w.sum l.w.under l.w.over
