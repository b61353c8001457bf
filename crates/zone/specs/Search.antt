-- For proofs: a block that is looked for and may not be there, and the changes of bays that may find no bay to change.
use Rattle.std.specs.Prelude.{Bool, false, cond, List, [], ℕ, leb, eqb}
use Rattle.std.proofs.Math.Option.{Option}
use Rattle.calls.specs.Bays.{Bays, or_else, map_s, find_s}
use Rattle.kinds.specs.Kinds.{Item, item_size, is}
use Rattle.calls.specs.State.{get, Fixed, fsize, pointer, new_fixed}
use Rattle.zone.specs.PickBays.{on_low, on_high, on_join}
use Rattle.bay.specs.Bay.{Cell, bay_sum, items, gap, join_bays, put, take_high, release, resized, reshape}
use Rattle.bay.specs.Counted.{count, room_for}
use Rattle.zone.specs.Work.{Zone}

abbrev pub lookup : ℕ → Zone → Option Item
lookup h z = find_s (λ (b : List Cell). get (is h) (items b)) z.bays

-- "whose sum reaches the need"
abbrev pub reaches : ℕ → List Cell → Bool
reaches n b = leb n (bay_sum b)

abbrev pub place_low : Item → Bays (List Cell) Fixed → Option (Bays (List Cell) Fixed)
place_low i s = on_low (reaches (item_size i)) (put i) s

abbrev pub place_high : ℕ → ℕ → Bays (List Cell) Fixed → Option (Fixed × Bays (List Cell) Fixed)
place_high n end s = on_high (reaches n) (take_high n) (new_fixed n) [] (λ (x : Fixed). x.place) end s

abbrev pub join_at : ℕ → Bays (List Cell) Fixed → Option (Bays (List Cell) Fixed)
join_at p s = on_join (λ (x : Fixed). eqb p (pointer x)) (λ (b : List Cell) (x : Fixed) (c : List Cell). join_bays b (gap (fsize x) c)) s

-- the bay has the handle once, and its sum reaches a − b
abbrev pub own : ℕ → ℕ → List Cell → Bool
own h a b = cond (eqb (count (is h) (items b)) 1) (room_for a (bay_sum b) (get (is h) (items b))) false

abbrev pub resize_in : ℕ → ℕ → Item → Bays (List Cell) Fixed → Option (Bays (List Cell) Fixed)
resize_in h a e s = or_else (on_low (own h a) (reshape h a) s) (place_low (resized a e) (map_s (release (is h)) s))
