-- A block that moves to another bay: what is asked, and what is left.
use Rattle.std.specs.Prelude.{◌≡◌, Bool, List, ◌∷◌, ◌++◌, ℕ, ◌+◌, ◌-◌, ◌<◌, ◌≤◌, length}
use Rattle.block_type.specs.Limits.{reloc_header, argument_range}
use Rattle.structure.specs.Structure.{Structure, sizes, start, encode, decode_zone}
use Rattle.access.specs.Edit.{place_in, data_in, data_of}
use Rattle.kinds.specs.Kinds.{Item, item, is}
use Rattle.calls.specs.Bays.{map_s}
use Rattle.calls.specs.State.{sized, own_sum}
use Rattle.bay.specs.Bay.{Cell, free, bay_size, bay_sum, items, Hole, fill, release}
use Rattle.bay.specs.Counted.{count}
use Rattle.zone.specs.Group.{flatten}
use Rattle.zone.specs.Work.{place_low}
use Rattle.bays.specs.Places.{bays_of}
use Rattle.free_block.specs.Extends.{Extends}
use Rattle.resize.specs.declared.relocate.Old.{Old}
use Rattle.room.specs.place.Fit.{Size}
use Rattle.room.specs.place.Room.{LowestRoom}
use Rattle.bays.specs.Slot.{Slot, plug, others, blocks_before}
use Rattle.structure.specs.IsZone.{IsZone}

-- "it moves to the lowest bay whose sum reaches 4 + a, as an allocation does, and the old place is freed": h's block, with a data bytes
abbrev pub relocated : ℕ → ℕ → Structure → Structure
relocated h a s = record { clock = s.clock; chain = s.chain; blocks = flatten (place_low (item h (sized a (data_of h s.blocks))) (map_s (release (is h)) (bays_of s))) }

-- the block of handle h with a data bytes
abbrev pub item_of : List ℕ → ℕ → ℕ → Item
item_of z h a = item h (sized a (data_in z h))

-- a live handle, whose b data bytes become a
pub record Grows (z : List ℕ) (h b a : ℕ) : Type 0 where
  pub zone : IsZone z
  pub live : place_in z h ≡ 0 → ⊥
  pub is_b : b ≡ length (data_in z h)
  pub more : b ≤ a
  pub size : Size (reloc_header + a)

-- the handle h is live, with b data bytes
pub data LiveIn (z : List ℕ) (h b : ℕ) : Type 0 where
  live_in : IsZone z → h < argument_range → (place_in z h ≡ 0 → ⊥) → b ≡ length (data_in z h) → LiveIn z h b

-- o says where its data lie, and its block's extent
pub record OldPlace (z : List ℕ) (h b : ℕ) (o : Old) : Type 0 where
  pub place_is : o.place ≡ place_in z h
  pub extends : Extends z (o.place - reloc_header) (o.place + b) o.extent

-- a free block of n bytes at `at`, in a bay that has not h, has room for the block
pub record Carry (z : List ℕ) (h b a at n : ℕ) : Type 0 where
  pub grows : Grows z h b a
  pub slot : Slot
  pub bay : List Cell
  pub bays : bays_of (decode_zone z) ≡ plug slot bay
  pub without : count (is h) (items bay) ≡ 0
  pub hole : Hole
  pub is : bay ≡ hole.before ++ (free hole.size ∷ hole.after)
  pub fits : reloc_header + a ≤ hole.size
  pub at_is : at ≡ start (decode_zone z) + sizes (blocks_before slot) + bay_size hole.before
  pub size_is : n ≡ hole.size

-- the same as one fact, for a contract
pub data CarryIn (z : List ℕ) (h b a at n : ℕ) : Type 0 where
  carry_in : Carry z h b a at n → CarryIn z h b a at n

abbrev pub carry_of : {z : List ℕ} {h b a at n : ℕ} → CarryIn z h b a at n → Carry z h b a at n
carry_of (carry_in x) = x

-- the structure with the block there, and its old place free
abbrev pub carried_to : (z : List ℕ) (h b a at n : ℕ) → Carry z h b a at n → Structure
carried_to z h b a at n x = record { clock = (decode_zone z).clock; chain = (decode_zone z).chain; blocks = flatten (plug (others (release (is h)) x.slot) (fill (item_of z h a) x.hole)) }

-- y is the bytes z after that
pub record Carried (z : List ℕ) (h b a at n : ℕ) (y : List ℕ) : Type 0 where
  pub left : (x : Carry z h b a at n) → y ≡ encode (carried_to z h b a at n x)

-- the bay from `from` up to `to` is the lowest whose sum reaches the need, the block's own bay has no room, and there is room at `at`, after
-- compacting where tidy says so
pub record Relocate (z : List ℕ) (h b a from to at n : ℕ) (tidy : Bool) : Type 0 where
  pub grows : Grows z h b a
  pub lowest : LowestRoom z (reloc_header + a) from to at n tidy
  pub lacking : own_sum items bay_sum h (bays_of (decode_zone z)) + b < a

-- the same as one fact, for a contract
pub data RelocateIn (z : List ℕ) (h b a from to at n : ℕ) (tidy : Bool) : Type 0 where
  relocate_in : Relocate z h b a from to at n tidy → RelocateIn z h b a from to at n tidy

abbrev pub relocate_of : {z : List ℕ} {h b a from to at n : ℕ} {tidy : Bool} → RelocateIn z h b a from to at n tidy → Relocate z h b a from to at n tidy
relocate_of (relocate_in x) = x
