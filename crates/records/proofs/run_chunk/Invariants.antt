use mathlib.Core.Path.{◌≡◌}
use mathlib.Core.List.{◌++◌}
use Prim.Native.Nat.{◌+◌, ◌-◌, ◌≤◌}
use lib.ListN.{length, take, drop}
use Rattle.records.specs.Records.{output, after_input}
use Rattle.records.proofs.run_chunk.Given as goal

abbrev pub invariant-loop-i : goal.invariant-loop-i
invariant-loop-i l =
    (l.i ≤ length l.input)
    × (l.at + (length l.input - l.i + (length l.input - l.i)) ≤ length l.out)
    × (take l.at l.out ++ output (drop l.i l.input) l.zone ≡ output l.input l.initial.zone)
    × (after_input (drop l.i l.input) l.zone ≡ after_input l.input l.initial.zone)
    × (length l.zone ≡ length l.initial.zone)
    × (length l.out ≡ length l.initial.out)

abbrev pub decreases-loop-i : goal.decreases-loop-i
decreases-loop-i l = length l.input - l.i
