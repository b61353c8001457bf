use Rattle.std.proofs.Common.{◌≡◌, ◌-◌, ◌<◌}
use Rattle.block_type.specs.Limits.{argument_range}
use Rattle.format.specs.OneWalk.{links}
use Rattle.zone_check.proofs.chain_ok.Given as goal

abbrev pub invariant-loop : goal.invariant-loop
invariant-loop l = (l.h < argument_range) × (links l.z l.first (l.n - l.counter) l.h ≡ links l.z l.first l.n l.head)
