use mathlib.Core.Path.{◌≡◌}
use Prim.Native.Nat.{◌+◌, ◌-◌, ◌%◌, ◌≤◌}
use lib.ListN.{length}
use Rattle.block_type.specs.Limits.{longest_zone, master_size}
use Rattle.bigendian.specs.BigEndian.{overwrite}
use Rattle.masters.specs.chain.Chain.{chain_bytes}
use Rattle.masters.proofs.chain.Chain.{masters_to}
use Rattle.masters.proofs.chain.put_chain.Given as goal

abbrev pub invariant-loop-at : goal.invariant-loop-at
invariant-loop-at l =
    (l.at ≤ l.last) × ((l.last - l.at) % master_size ≡ 0) × (l.last + master_size ≤ length l.z) × (l.last + master_size ≤ longest_zone) × (length l.z ≡ length l.initial.z) × (overwrite l.z l.at (chain_bytes l.at (masters_to l.at l.last)) ≡ overwrite l.initial.z l.from (chain_bytes l.from l.n))

abbrev pub decreases-loop-at : goal.decreases-loop-at
decreases-loop-at l = l.last - l.at
