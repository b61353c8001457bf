-- A bay in its place among bays: the flat list, its size, and bays that are all changed.
use mathlib.Core.Path.{◌≡◌, refl, ap}
use mathlib.Core.Bool.{true}
use mathlib.Core.List.{List, ◌++◌, map}
use Prim.Native.Nat.{ℕ, ◌+◌, ◌≤◌}
use native.Mathlib.Omega.{arith}
use lib.Dec.{leb}
use borrow.Author.Tests.{lt-leb}
use Rattle.structure.specs.Structure.{cell, sizes}
use Rattle.kinds.specs.Kinds.{Item, is}
use Rattle.calls.specs.Bays.{Bays, more, map_s, on_lowest, or_else, find_s}
use Rattle.calls.specs.State.{get, Fixed, fsize}
use Rattle.bay.specs.Bay.{Cell, bay_size, bay_sum, items}
use Rattle.bay.specs.Counted.{count, live}
use Rattle.zone.specs.Group.{flatten}
use Rattle.zone.specs.PickBays.{AllS}
use Rattle.zone.proofs.Places.{Tiled, tile-last, tile-more}
use Rattle.bays.specs.At.{At, at_last, at_here, at_later}
use Rattle.bays.proofs.At.{at_old, later-sizes}
use Rattle.bays.specs.Slot.{Slot, slot_end, slot_fixed, slot_behind, plug, others, blocks_before, blocks_after, Under}

pub plug-at : (f : List Cell → List Cell) (k : Slot) (b : List Cell) → At f (plug k b) (plug k (f b)) (blocks_before k) b (blocks_after k)
plug-at f slot_end b = at_last
plug-at f (slot_fixed x s) b = at_here
plug-at f (slot_behind c x k) b = at_later (plug-at f k b)

pub plug-flat : (k : Slot) (b : List Cell) → flatten (plug k b) ≡ blocks_before k ++ (map cell b ++ blocks_after k)
plug-flat k b = at_old (plug-at (λ c. c) k b)

pub plug-map : (f : List Cell → List Cell) (k : Slot) (b : List Cell) → map_s f (plug k b) ≡ plug (others f k) (f b)
plug-map f slot_end b = refl
plug-map f (slot_fixed x s) b = refl
plug-map f (slot_behind c x k) b = ap (λ (s : Bays (List Cell) Fixed). more (f c) x s) (plug-map f k b)

-- the blocks before it, with one bay and one fixed block more in front
pub behind-sizes : (c : List Cell) (x : Fixed) (k : Slot) → sizes (blocks_before (slot_behind c x k)) ≡ bay_size c + (fsize x + sizes (blocks_before k))
behind-sizes c x k = later-sizes c x (blocks_before k)

pub others-sizes : (f : List Cell → List Cell) → ((c : List Cell) → bay_size (f c) ≡ bay_size c) → (k : Slot) → sizes (blocks_before (others f k)) ≡ sizes (blocks_before k)
others-sizes f q slot_end = refl
others-sizes f q (slot_fixed x s) = refl
others-sizes f q (slot_behind c x k) = omega (arith, behind-sizes c x k, behind-sizes (f c) x (others f k), q c, others-sizes f q k)

-- the lowest bay whose sum reaches n is the one there
pub plug-lowest : (n : ℕ) (f : List Cell → List Cell) (k : Slot) (b : List Cell) → Under n k → leb n (bay_sum b) ≡ true → on_lowest (λ (c : List Cell). leb n (bay_sum c)) f (plug k b) ≡ plug k (f b)
plug-lowest n f slot_end b u t = refl
plug-lowest n f (slot_fixed x s) b u t = rw t
plug-lowest n f (slot_behind c x k) b u t = rw (lt-leb n (bay_sum c) u.0) (ap (λ (s : Bays (List Cell) Fixed). more c x s) (plug-lowest n f k b u.1 t))

pub plug-live : (h : ℕ) (k : Slot) (b : List Cell) → count (is h) (items b) ≤ live h (plug k b)
plug-live h slot_end b = omega arith
plug-live h (slot_fixed x s) b = omega arith
plug-live h (slot_behind c x k) b = omega (arith, plug-live h k b)

-- what holds of every bay holds of the one there
pub plug-all : (P : List Cell → Type 0) (k : Slot) (b : List Cell) → AllS P (plug k b) → P b
plug-all P slot_end b a = a
plug-all P (slot_fixed x s) b a = a.0
plug-all P (slot_behind c x k) b a = plug-all P k b a.1

-- a bay of the same size in that place
pub plug-tiled : (k : Slot) (b c : List Cell) → bay_size c ≡ bay_size b → {p end : ℕ} → Tiled p (plug k b) end → Tiled p (plug k c) end
plug-tiled slot_end b c q {p} {end} (tile-last e) = tile-last {p = p} {end = end} {b = c} (omega arith)
plug-tiled (slot_fixed x s) b c q {p} (tile-more e t) = tile-more {p = p} {b = c} {x = x} (omega arith) t
plug-tiled (slot_behind d x k) b c q (tile-more e t) = tile-more e (plug-tiled k b c q t)

-- a bay with the same items there: the same block is found
pub plug-find : (h : ℕ) (k : Slot) (b c : List Cell) → items c ≡ items b → find_s (λ (d : List Cell). get (is h) (items d)) (plug k c) ≡ find_s (λ (d : List Cell). get (is h) (items d)) (plug k b)
plug-find h slot_end b c q = ap (get (is h)) q
plug-find h (slot_fixed x s) b c q = ap (λ (es : List Item). or_else (get (is h) es) (find_s (λ (d : List Cell). get (is h) (items d)) s)) q
plug-find h (slot_behind d x k) b c q = ap (or_else (get (is h) (items d))) (plug-find h k b c q)
