use mathlib.Core.Path.{◌≡◌}
use Prim.Native.Nat.{suc, ◌-◌, ◌≤◌}
use lib.ListN.{length}
use Rattle.structure.specs.Structure.{decode_zone}
use Rattle.compact.proofs.Loop.{Going}
use Rattle.compact.proofs.compact_all.Given as goal

abbrev pub invariant-loop-at : goal.invariant-loop-at
invariant-loop-at l = (l.at ≤ suc (length l.z)) × (length l.z ≡ length l.initial.z) × Going (decode_zone l.initial.z) l.z l.at l.best

abbrev pub decreases-loop-at : goal.decreases-loop-at
decreases-loop-at l = suc (length l.z) - l.at
