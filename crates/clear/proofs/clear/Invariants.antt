use mathlib.Core.Path.{◌≡◌}
use Prim.Native.Nat.{◌-◌, ◌≤◌}
use lib.ListN.{length}
use Rattle.structure.specs.Structure.{decode_zone}
use Rattle.clear.proofs.Going.{Going}
use Rattle.clear.proofs.clear.Given as goal

abbrev pub invariant-loop-at : goal.invariant-loop-at
invariant-loop-at l = (l.prev ≤ l.at) × (l.at ≤ length l.z) × (length l.z ≡ length l.initial.z) × Going l.clock l.limit (decode_zone l.initial.z) l.z l.prev l.at

abbrev pub decreases-loop-at : goal.decreases-loop-at
decreases-loop-at l = length l.z - l.at
