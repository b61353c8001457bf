-- What the plan of a growth answers: that nothing refuses the allocation, and the first bay, which gives up its bytes.
use Rattle.std.specs.Prelude.{◌≡◌, Bool, true, ◌&&◌, ◌||◌, List, ℕ, ◌≤◌, leb, length}
use Rattle.block_type.specs.Limits.{reloc_need, added_bytes}
use Rattle.structure.specs.Structure.{Structure, decode_zone}
use Rattle.calls.specs.Calls.{allocate_relocatable}
use Rattle.calls.specs.Bays.{max_s, max_less}
use Rattle.calls.specs.Table.{refusal_of}
use Rattle.bay.specs.Bay.{bay_sum}
use Rattle.zone.specs.Work.{facts}
use Rattle.bays.specs.Places.{bays_of, bays_at}
use Rattle.room.specs.place.Fit.{Size}
use Rattle.masters.specs.Grown.{Growing}
use Rattle.call_laws.specs.Frame.{zone_at}

-- whether left, or the sum of a bay of z from `next` on, reaches need
abbrev pub room_from : List ℕ → ℕ → ℕ → ℕ → Bool
room_from z left next need = leb need left || (leb next (length z) && leb need (max_s bay_sum (bays_at z next)))

-- the largest sum after the first bay has given up its bytes
abbrev pub left_in : Structure → ℕ
left_in s = max_less bay_sum added_bytes (bays_of s)

-- masters are added first, from the bay from a to e, and then the sum of a bay reaches need
pub record GrowsIn (z : List ℕ) (need a e : ℕ) : Type 0 where
  pub growing : Growing z a e
  pub size : Size need
  pub enough : need ≤ left_in (decode_zone z)

-- nothing refuses an allocation of c data bytes, for which need bytes are needed; Goes is what the plan hands over
pub record ReadyIn (z : List ℕ) (c need : ℕ) (Goes : Type 0) : Type 0 where
  pub is_need : need ≡ reloc_need c
  pub passed : (buf : ℕ) → refusal_of (allocate_relocatable c) (facts true (zone_at buf z)) ≡ 0
  pub goes : Goes
