use mathlib.Core.Path.{◌≡◌}
use Prim.Native.Nat.{◌+◌, ◌≤◌, ◌<◌}
use lib.ListN.{length}
use Rattle.bigendian.specs.BigEndian.{overwrite}
use Rattle.block_type.specs.Limits.{argument_range}
use Rattle.records.specs.Records.{decimal}
use Rattle.records.proofs.put_decimal.Given as goal

abbrev pub invariant-loop-rest : goal.invariant-loop-rest
invariant-loop-rest l =
    (l.i + 1 ≡ l.at + length (decimal l.rest))
    × (l.at + length (decimal l.rest) ≤ length l.out)
    × (l.rest < argument_range)
    × (overwrite l.out l.at (decimal l.rest) ≡ overwrite l.initial.out l.at (decimal l.n))
    × (length l.out ≡ length l.initial.out)

abbrev pub decreases-loop-rest : goal.decreases-loop-rest
decreases-loop-rest l = l.rest
