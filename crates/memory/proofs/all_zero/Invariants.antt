use Rattle.std.proofs.Common.{◌≡◌, ◌*◌, ◌-◌, drop}
use Rattle.bigendian.specs.BigEndian.{slice}
use Rattle.memory.specs.Zeros.{all_zero}
use Rattle.memory.proofs.all_zero.Given as goal

abbrev pub invariant-loop-chunk : goal.invariant-loop-chunk
invariant-loop-chunk l = all_zero (drop (1024 * l.chunk-index) (slice l.s l.from (l.to - l.from))) ≡ all_zero (slice l.s l.from (l.to - l.from))
