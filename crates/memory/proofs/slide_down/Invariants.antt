use mathlib.Core.Path.{◌≡◌}
use Prim.Native.Nat.{◌+◌, ◌-◌, ◌≤◌}
use lib.ListN.{length}
use Rattle.bigendian.specs.BigEndian.{slice, overwrite}
use Rattle.memory.proofs.slide_down.Given as goal

abbrev pub invariant-loop-k : goal.invariant-loop-k
invariant-loop-k l =
    (l.k ≤ l.n) × (length l.s ≡ length l.initial.s) × (l.src + l.n ≤ length l.s) × (overwrite l.s (l.dst + l.k) (slice l.s (l.src + l.k) (l.n - l.k)) ≡ overwrite l.initial.s l.dst (slice l.initial.s l.src l.n))

abbrev pub decreases-loop-k : goal.decreases-loop-k
decreases-loop-k l = l.n - l.k
