-- Document 02, U2, of the calls: "Inside the chosen bay a relocatable allocation takes the smallest free block that is big enough", "Resize into
-- another bay does the same", and so does a create (U5). They place a block by `put`, in the lowest bay whose sum reaches its size: `WhichHole` (crate bay) and `LowestBay`
-- (crate calls) say what that is. And U3: what the first bay is laid out as before that, where masters are added. (Theorems about `work`: nobody has to believe them.)
use Rattle.std.specs.Prelude.{◌≡◌, List, [], ◌∷◌, ℕ, ◌-◌, ◌≤◌, ◌<◌, leb, length}
use Rattle.block_type.specs.Limits.{up4, page_need, first_block, added_bytes}
use Rattle.calls.specs.Calls.{by_handle, allocate_relocatable, resize, create_page, on_page}
use Rattle.calls.specs.Bays.{Bays, last, more, on_lowest, map_s}
use Rattle.kinds.specs.Kinds.{Item, item, item_size, is}
use Rattle.calls.specs.State.{new_item, sized, Fixed, data_of, own_sum, live_count}
use Rattle.calls.specs.Pages.{tick, new_page}
use Rattle.bay.specs.Bay.{Cell, bay_sum, items, put, release, reshape}
use Rattle.bay.specs.Choice.{in_order}
use Rattle.zone.specs.Work.{Zone, has, make_room, work}

-- the bays with the block e in its place (`place_low`, spelt out here, so that it cannot mean anything else)
abbrev pub in_lowest : Item → Bays (List Cell) Fixed → Bays (List Cell) Fixed
in_lowest e s = on_lowest (λ b. leb (item_size e) (bay_sum b)) (put e) s

-- the first bay has given up the bytes of eight masters: its blocks in old order without gaps, and one free block behind them (none for 0; document
-- 02, U3)
abbrev pub first_gives : Bays (List Cell) Fixed → Bays (List Cell) Fixed
first_gives (last b) = last (in_order (items b) (bay_sum b - added_bytes))
first_gives (more b x s) = more (in_order (items b) (bay_sum b - added_bytes)) x s

pub record OneChoice : Type 0 where
  -- where a master is free
  pub allocated : (c h : ℕ) (hs : List ℕ) (z : Zone) → z.chain ≡ h ∷ hs → (work (allocate_relocatable c) z).next.bays ≡ in_lowest (new_item h c) z.bays
  -- where none is, and all masters are live: the new handle is behind them (document 02, U3)
  pub added : (c : ℕ) (z : Zone) → z.chain ≡ [] → (work (allocate_relocatable c) z).next.bays ≡ in_lowest (new_item (first_block (live_count items z)) c) (first_gives z.bays)
  -- where its own bay lacks the room; the old place is free by then
  pub moved : (h c : ℕ) (z : Zone) → own_sum items bay_sum h z.bays < up4 c - length (data_of items (by_handle h) z)
      → (work (resize h c) z).next.bays ≡ in_lowest (item h (sized (up4 c) (data_of items (by_handle h) z))) (map_s (release (is h)) z.bays)
  -- where it has the room (a resize to less always has), the block stays in its own bay, in place (`GrowsInPlace`, crate bay) or with the bay laid
  -- out anew; no hole is chosen
  pub grown : (h c : ℕ) (z : Zone) → up4 c - length (data_of items (by_handle h) z) ≤ own_sum items bay_sum h z.bays
      → (work (resize h c) z).next.bays ≡ on_lowest (has h) (reshape h (up4 c)) z.bays
  -- a page is "placed as a relocatable block is" (document 02, U5): in the zone that the dropping leaves (`PageSays` says which pages go)
  pub created : (n c : ℕ) (z : Zone) → (work (on_page n (create_page c)) z).next.bays ≡ in_lowest (new_page n (tick z.clock) c) (make_room (page_need c) z).bays
