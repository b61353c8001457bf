use Rattle.std.proofs.Common.{◌≡◌, drop}
use Rattle.format.specs.WellFormed.{first_field}
use Rattle.access.specs.row.Row.{Row, blocks_of}
use Rattle.zone.specs.Walker.{describe}
use Rattle.inspect.proofs.walker.find.Given as goal

abbrev pub invariant-loop-block : goal.invariant-loop-block
invariant-loop-block l =
    let p = l.block-iterator.at in
    let z = l.z.bytes.now in
    let first = first_field z in
    (l.block-iterator.bytes.now ≡ z) × Row (drop p z) × (describe l.at p (blocks_of (drop p z)) ≡ describe l.at first (blocks_of (drop first z)))
