-- The bay that a block moves to, where its own bay has no room: it is another bay, and the lowest that reaches the need before the old place is
-- free and after it.
use mathlib.Core.Path.{◌≡◌, ap}
use mathlib.Core.Option.{Option, none, some, get_or}
use mathlib.Core.List.{List}
use Prim.Native.Nat.{ℕ, ◌+◌, ◌<◌, ◌≤◌}
use native.Mathlib.Omega.{arith}
use lib.ListN.{length}
use Rattle.block_type.specs.Limits.{reloc_header}
use Rattle.calls.specs.Bays.{over, or_else, find_s}
use Rattle.kinds.specs.Kinds.{Item, item, is}
use Rattle.calls.specs.State.{get, own_sum}
use Rattle.bay.specs.Bay.{Cell, bay_sum, items, release}
use Rattle.bay.specs.Counted.{count, live}
use Rattle.zone.proofs.Once.{Named, unnamed, named, get-named, often, taken, count-get, sum-released, block_of}
use Rattle.bays.specs.Slot.{Slot, slot_end, slot_fixed, slot_behind, plug, others, Under}
use Rattle.bays.proofs.Slots.{plug-live}

-- the sum of the bay that has the handle, by the block that is found in it
abbrev sum_in : List Cell → Option Item → Option ℕ
sum_in b o = over (λ (e : Item). bay_sum b) o

module _ (h a : ℕ) (e : Item) where
  -- the handle's block has a bay that lacks the room
  abbrev Lacking : Option Item → Option ℕ → Type 0
  Lacking o m = (o ≡ some e) × (get_or m 0 + length e.bytes < a)

  absent : (b : List Cell) (o : Option Item) → count (is h) (items b) ≡ often o → reloc_header + a ≤ bay_sum b → (w : Option Item) (m : Option ℕ) → Lacking (or_else o w) (or_else (sum_in b o) m) → count (is h) (items b) ≡ 0
  absent b none q l w m t = q
  absent b (some i) q l w m t = absurd (omega (arith, t.1))

  -- the bay whose sum reaches the need is another one
  pub without : (k : Slot) (b : List Cell) → live h (plug k b) ≤ 1 → reloc_header + a ≤ bay_sum b → block_of h (plug k b) ≡ some e → own_sum items bay_sum h (plug k b) + length e.bytes < a → count (is h) (items b) ≡ 0
  without slot_end b l r f t = go (get (is h) (items b)) (count-get (is h) (items b) l) f t
    where
      go : (o : Option Item) → count (is h) (items b) ≡ often o → o ≡ some e → get_or (sum_in b o) 0 + length e.bytes < a → count (is h) (items b) ≡ 0
      go none q f t = q
      go (some i) q f t = absurd (omega arith)
  without (slot_fixed x s) b l r f t = absent b (get (is h) (items b)) (count-get (is h) (items b) (omega arith)) r (block_of h s) (find_s (λ (c : List Cell). sum_in c (get (is h) (items c))) s) (f, t)
  without (slot_behind c x k) b l r f t = go (get (is h) (items c)) (count-get (is h) (items c) (omega arith)) f t (λ f t. without k b (omega arith) r f t)
    where
      go : (o : Option Item) → count (is h) (items c) ≡ often o → or_else o (block_of h (plug k b)) ≡ some e
          → get_or (or_else (sum_in c o) (find_s (λ (c : List Cell). sum_in c (get (is h) (items c))) (plug k b))) 0 + length e.bytes < a
          → (block_of h (plug k b) ≡ some e → own_sum items bay_sum h (plug k b) + length e.bytes < a → count (is h) (items b) ≡ 0) → count (is h) (items b) ≡ 0
      go none q f t ih = ih f t
      go (some i) q f t ih = omega (arith, plug-live h k b)

  -- bays without the handle keep their sums
  same_sum : (c : List Cell) → count (is h) (items c) ≡ 0 → bay_sum (release (is h) c) ≡ bay_sum c
  same_sum c l = go (get (is h) (items c)) (count-get (is h) (items c) (omega arith)) (sum-released (is h) c (omega arith))
    where
      go : (o : Option Item) → count (is h) (items c) ≡ often o → bay_sum (release (is h) c) ≡ bay_sum c + taken o → bay_sum (release (is h) c) ≡ bay_sum c
      go none q s = omega arith
      go (some i) q s = absurd (omega arith)

  under_same : (n : ℕ) (k : Slot) (b : List Cell) → live h (plug k b) ≡ 0 → Under n k → Under n (others (release (is h)) k)
  under_same n slot_end b l u = tt
  under_same n (slot_fixed x s) b l u = tt
  under_same n (slot_behind c x k) b l u = (omega (arith, u.0, same_sum c (omega arith)), under_same n k b (omega arith) u.1)

  -- no bay before it reaches the need once the old place is free
  pub under-freed : (k : Slot) (b : List Cell) → live h (plug k b) ≤ 1 → block_of h (plug k b) ≡ some e → own_sum items bay_sum h (plug k b) + length e.bytes < a
      → Under (reloc_header + a) k → Under (reloc_header + a) (others (release (is h)) k)
  under-freed slot_end b l f t u = tt
  under-freed (slot_fixed x s) b l f t u = tt
  under-freed (slot_behind c x k) b l f t u =
      go (get-named h (items c)) (count-get (is h) (items c) (omega arith)) (sum-released (is h) c (omega arith)) f t (λ f t. under-freed k b (omega arith) f t u.1)
    where
      go : {o : Option Item} → Named h o → count (is h) (items c) ≡ often o → bay_sum (release (is h) c) ≡ bay_sum c + taken o → or_else o (block_of h (plug k b)) ≡ some e
          → get_or (or_else (sum_in c o) (find_s (λ (c : List Cell). sum_in c (get (is h) (items c))) (plug k b))) 0 + length e.bytes < a
          → (block_of h (plug k b) ≡ some e → own_sum items bay_sum h (plug k b) + length e.bytes < a → Under (reloc_header + a) (others (release (is h)) k))
          → Under (reloc_header + a) (others (release (is h)) (slot_behind c x k))
      go unnamed q s f t ih = (omega (arith, s, u.0), ih f t)
      go (named {d = d}) q s f t ih =
          let j : item h d ≡ e = cc in
          let n : length d ≡ length e.bytes = ap (λ (i : Item). length i.bytes) j in
          (omega (arith, s, t, n), under_same (reloc_header + a) k b (omega arith) u.1)
