-- The place of one bay among bays: all but that bay.
use Rattle.std.specs.Prelude.{List, [], ◌∷◌, ℕ, ◌<◌}
use Rattle.structure.specs.Structure.{Block, fixed}
use Rattle.calls.specs.Bays.{Bays, last, more, map_s}
use Rattle.calls.specs.State.{Fixed}
use Rattle.bay.specs.Bay.{Cell, bay_sum}
use Rattle.zone.specs.Group.{flat_bay, flatten}

pub data Slot : Type 0 where
  slot_end : Slot
  slot_fixed : Fixed → Bays (List Cell) Fixed → Slot
  slot_behind : List Cell → Fixed → Slot → Slot

-- the bays with the bay b in that place
abbrev pub plug : Slot → List Cell → Bays (List Cell) Fixed
plug slot_end b = last b
plug (slot_fixed x s) b = more b x s
plug (slot_behind c x k) b = more c x (plug k b)

-- every other bay changed
abbrev pub others : (List Cell → List Cell) → Slot → Slot
others f slot_end = slot_end
others f (slot_fixed x s) = slot_fixed x (map_s f s)
others f (slot_behind c x k) = slot_behind (f c) x (others f k)

-- the blocks before it, and those behind it
abbrev pub blocks_before : Slot → List Block
blocks_before slot_end = []
blocks_before (slot_fixed x s) = []
blocks_before (slot_behind c x k) = flat_bay c (fixed x.bytes ∷ blocks_before k)

abbrev pub blocks_after : Slot → List Block
blocks_after slot_end = []
blocks_after (slot_fixed x s) = fixed x.bytes ∷ flatten s
blocks_after (slot_behind c x k) = blocks_after k

-- the sum of no bay before it reaches n
abbrev pub Under : ℕ → Slot → Type 0
Under n slot_end = Unit {0}
Under n (slot_fixed x s) = Unit {0}
Under n (slot_behind c x k) = (bay_sum c < n) × Under n k
