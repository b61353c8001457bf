-- The bytes of free masters that are chained upwards.
use Rattle.std.specs.Prelude.{cond, List, [], ◌++◌, ℕ, zero, suc, ◌+◌, eqb}
use Rattle.bigendian.specs.BigEndian.{to_be}
use Rattle.block_type.specs.Limits.{master_size}

-- what the master at h holds, with k masters behind it
abbrev pub link_after : ℕ → ℕ → ℕ
link_after h k = cond (eqb k 0) 0 (h + master_size)

-- k masters from h on
unfoldable pub chain_bytes : ℕ → ℕ → List ℕ
chain_bytes h zero = []
chain_bytes h (suc k) = to_be 4 (link_after h k) ++ chain_bytes (h + master_size) k
