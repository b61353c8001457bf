use Prim.Native.Nat.{◌-◌, ◌≤◌}
use lib.ListN.{length, drop, replicate}
use Rattle.block_type.specs.Limits.{zone_header, strata}
use Rattle.format.specs.WellFormed.{first_field}
use Rattle.access.specs.row.Row.{Row}
use Rattle.inspect.specs.strata.Limits.{limits_by}
use Rattle.inspect.proofs.census.Laws.{Tally}
use Rattle.inspect.proofs.census.count_in.Given as goal

abbrev pub invariant-loop-p : goal.invariant-loop-p
invariant-loop-p l =
    let z = l.z.bytes.now in
    (zone_header ≤ l.p) × (l.p ≤ length z) × Row (drop l.p z) × Tally (limits_by l.limits) z (first_field z) l.p (replicate strata 0) l.counts

abbrev pub decreases-loop-p : goal.decreases-loop-p
decreases-loop-p l = length l.z.bytes.now - l.p
