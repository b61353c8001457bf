use Rattle.std.proofs.Common.{◌≡◌, length, drop}
use Rattle.access.specs.row.Row.{Row, blocks_of}
use Rattle.calls.specs.Calls.{by_pointer}
use Rattle.access.specs.locate.Locate.{target_place, target_data}
use Rattle.access.specs.Named.{place_among, data_among}
use Rattle.access.proofs.locate.by_pointer.Given as goal

abbrev pub invariant-loop-block : goal.invariant-loop-block
invariant-loop-block l =
    let at = l.block-iterator.at in
    let z = l.z.bytes.now in
    (l.block-iterator.bytes.now ≡ z)
    × Row (drop at z)
    × (place_among (by_pointer l.p) at (blocks_of (drop at z)) ≡ target_place (by_pointer l.p) z)
    × (length (data_among (by_pointer l.p) at (blocks_of (drop at z))) ≡ length (target_data (by_pointer l.p) z))
