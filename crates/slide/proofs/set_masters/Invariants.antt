use mathlib.Core.Path.{◌≡◌}
use Prim.Native.Nat.{◌-◌, ◌≤◌}
use lib.ListN.{length, take, drop}
use Rattle.block_type.specs.Limits.{longest_zone}
use Rattle.bay.specs.Sound.{IsBay, cells_of}
use Rattle.slide.specs.ZoneBay.{IsLow, set_all}
use Rattle.slide.proofs.set_masters.Given as goal

abbrev pub invariant-loop-at : goal.invariant-loop-at
invariant-loop-at l = (l.from ≤ l.at) × (l.at ≤ l.to) × (l.to ≤ length l.z) × (length l.z ≤ longest_zone) × (length l.z ≡ length l.initial.z) × IsBay (drop l.at (take l.to l.z)) × IsLow l.at (cells_of (drop l.at (take l.to l.z))) × (set_all l.at (cells_of (drop l.at (take l.to l.z))) l.z ≡ set_all l.from (cells_of (drop l.from (take l.to l.initial.z))) l.initial.z)

abbrev pub decreases-loop-at : goal.decreases-loop-at
decreases-loop-at l = l.to - l.at
