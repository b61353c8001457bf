use mathlib.Core.Path.{◌≡◌}
use Prim.Native.Nat.{◌+◌, ◌-◌, ◌≤◌}
use lib.ListN.{length, drop}
use Rattle.bigendian.specs.BigEndian.{overwrite}
use Rattle.memory.proofs.copy_in.Given as goal

abbrev pub invariant-loop-k : goal.invariant-loop-k
invariant-loop-k l = (l.k ≤ length l.src) × (length l.s ≡ length l.initial.s) × (l.at + length l.src ≤ length l.s) × (overwrite l.s (l.at + l.k) (drop l.k l.src) ≡ overwrite l.initial.s l.at l.src)

abbrev pub decreases-loop-k : goal.decreases-loop-k
decreases-loop-k l = length l.src - l.k
