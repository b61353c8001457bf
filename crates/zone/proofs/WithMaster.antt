-- The zone with a free handle, which an allocation starts from: more masters are added where there is none. The table asks for its largest sum.
use mathlib.Core.Path.{◌≡◌, refl, ap}
use mathlib.Core.Bool.{Bool, true, false, cond}
use mathlib.Core.List.{List, [], ◌∷◌}
use Prim.Native.Nat.{ℕ, ◌≤◌}
use native.Mathlib.Omega.{arith}
use lib.ListN.{length}
use Rattle.block_type.specs.Limits.{first_block, added_bytes}
use Rattle.calls.specs.Bays.{first_s, max_s, max_less}
use Rattle.calls.specs.State.{master_count, top}
use Rattle.calls.specs.Table.{is_empty, room_sum}
use Rattle.calls.proofs.FirstBay.{less-first}
use Rattle.bay.specs.Bay.{bay_sum, items, packed_less}
use Rattle.bay.proofs.Laws.{less-sum}
use Rattle.zone.specs.Work.{Zone, facts, more_masters, with_master}

-- the first of them is where the first block was
pub more-head : (z : Zone) → top (more_masters z).chain ≡ first_block (master_count items z)
more-head z = refl

pub with-chain : (z : Zone) → is_empty (with_master z).chain ≡ false
with-chain z = go (is_empty z.chain) refl
  where
    go : (t : Bool) → is_empty z.chain ≡ t → is_empty (cond t (more_masters z) z).chain ≡ false
    go true e = refl
    go false e = e

pub with-room : (z : Zone) (well : Bool) → max_s bay_sum (with_master z).bays ≡ room_sum (facts well z)
with-room z well = go (is_empty z.chain)
  where
    go : (t : Bool) → max_s bay_sum (cond t (more_masters z) z).bays ≡ cond t (max_less bay_sum added_bytes z.bays) (max_s bay_sum z.bays)
    go true = less-first bay_sum added_bytes (packed_less added_bytes) z.bays (less-sum added_bytes (first_s z.bays))
    go false = refl

pub with-long : (z : Zone) → length z.chain ≤ length (with_master z).chain
with-long z = go z.chain refl
  where
    go : (hs : List ℕ) → z.chain ≡ hs → length hs ≤ length (cond (is_empty hs) (more_masters z) z).chain
    go [] q = omega arith
    go (h ∷ hs) q = omega (arith, ap length q)
