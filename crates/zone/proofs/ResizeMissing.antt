-- A resize, where the handle stands at most once in all bays, finds no bay exactly where the table's cause holds.
use mathlib.Core.Path.{◌≡◌, refl, ap, ap₂, sym, ◌∙◌, subst}
use mathlib.Core.Bool.{Bool, true, false, cond, ◌&&◌, not}
use mathlib.Core.List.{List}
use mathlib.Core.Option.{Option, none, some, get_or}
use Prim.Native.Nat.{ℕ, ◌+◌, ◌-◌, ◌≤◌, max}
use native.Mathlib.Omega.{arith}
use lib.ListN.{length}
use lib.Dec.{eqb, leb}
use borrow.Author.Tests.{leb-false, lt-leb}
use Rattle.block_type.specs.Limits.{reloc_header}
use Rattle.kinds.specs.Kinds.{Item, item, item_size, is}
use Rattle.calls.specs.Bays.{Bays, last, more, over, or_else, map_s, find_s, max_s}
use Rattle.calls.specs.State.{get, Fixed, own_sum}
use Rattle.calls.specs.Table.{below}
use Rattle.calls.proofs.Reach.{below-max}
use Rattle.bay.specs.Bay.{Cell, bay_sum, items, put, release, reshape, resized}
use Rattle.bay.specs.Counted.{count, room_for, live}
use Rattle.bay.proofs.Resize.{length-sized}
use Rattle.zone.specs.PickBays.{on_low}
use Rattle.zone.specs.Search.{own, resize_in}
use Rattle.zone.proofs.Missing.{Missing, gone, there, one-missing, over-missing, else-missing, low-missing}
use Rattle.zone.proofs.Once.{often, taken, count-get, sum-absent, sum-released, block_of, Named, unnamed, named, get-named}

module _ (h a : ℕ) where
  -- the sum of the bay that has the block
  abbrev pub sum_of_own : Bays (List Cell) Fixed → ℕ
  sum_of_own s = own_sum items bay_sum h s

  abbrev pub own_changed : Bays (List Cell) Fixed → Option (Bays (List Cell) Fixed)
  own_changed s = on_low (own h a) (reshape h a) s

  -- bays without the handle
  pub own-absent : (s : Bays (List Cell) Fixed) → live h s ≡ 0 → Missing true (own_changed s)
  own-absent (last b) n = rw n gone
  own-absent (more b x s) n = let z : count (is h) (items b) ≡ 0 = omega arith in rw z (over-missing (more b x) (own-absent s (omega arith)))

  max-absent : (s : Bays (List Cell) Fixed) → live h s ≡ 0 → max_s bay_sum (map_s (release (is h)) s) ≡ max_s bay_sum s
  max-absent (last b) n = sum-absent (is h) b n
  max-absent (more b x s) n = ap₂ max (sum-absent (is h) b (omega arith)) (max-absent s (omega arith))

  -- the own bay is chosen exactly where its sum reaches a − b
  pub own-missing : (s : Bays (List Cell) Fixed) → live h s ≤ 1 → Missing (not (room_for a (sum_of_own s) (block_of h s))) (own_changed s)
  own-missing (last b) n = go (count (is h) (items b)) (get (is h) (items b)) (count-get (is h) (items b) n)
    where
      go : (k : ℕ) (o : Option Item) → k ≡ often o
          → Missing {A = Bays (List Cell) Fixed} (not (room_for a (get_or (over (λ (i : Item). bay_sum b) o) 0) o)) (cond (cond (eqb k 1) (room_for a (bay_sum b) o) false) (some (last (reshape h a b))) none)
      go k none e = rw e gone
      go k (some i) e = rw e (one-missing (leb (a - length i.bytes) (bay_sum b)) _)
  own-missing (more b x s) n = go (count (is h) (items b)) (get (is h) (items b)) (count-get (is h) (items b) (omega arith)) n (λ l. own-missing s l)
    where
      go : (k : ℕ) (o : Option Item) → k ≡ often o → k + live h s ≤ 1 → (live h s ≤ 1 → Missing (not (room_for a (sum_of_own s) (block_of h s))) (own_changed s))
          → Missing (not (room_for a (get_or (or_else (over (λ (i : Item). bay_sum b) o) (find_s (λ (b : List Cell). over (λ (i : Item). bay_sum b) (get (is h) (items b))) s)) 0) (or_else o (block_of h s))))
          (cond (cond (eqb k 1) (room_for a (bay_sum b) o) false) (some (more (reshape h a b) x s)) (over (more b x) (own_changed s)))
      go k none e n r = rw e (over-missing (more b x) (r (omega arith)))
      go k (some i) e n r = rw e (alone (leb (a - length i.bytes) (bay_sum b)))
        where
          alone : (t : Bool) → Missing (not t) (cond t (some (more (reshape h a b) x s)) (over (more b x) (own_changed s)))
          alone true = there
          alone false = over-missing (more b x) (own-absent s (omega arith))

  -- the own bay lacks a − b, so with the freed 4 + b bytes it still lacks 4 + a
  sum_same : (b : List Cell) {o : Option Item} → Named h o → bay_sum (release (is h) b) ≡ bay_sum b + taken o → room_for a (bay_sum b) o ≡ false
      → below (bay_sum (release (is h) b)) (reloc_header + a) ≡ below (bay_sum b) (reloc_header + a)
  sum_same b unnamed q r = ap (λ (k : ℕ). below k (reloc_header + a)) (omega (arith, q))
  sum_same b (named {d = d}) q r =
      let l = leb-false (a - length d) (bay_sum b) r in
      ap not (lt-leb (reloc_header + a) (bay_sum (release (is h) b)) (omega (arith, q, l)) ∙ sym (lt-leb (reloc_header + a) (bay_sum b) (omega (arith, l))))

  pub max-same : (s : Bays (List Cell) Fixed) → live h s ≤ 1 → room_for a (sum_of_own s) (block_of h s) ≡ false
      → below (max_s bay_sum (map_s (release (is h)) s)) (reloc_header + a) ≡ below (max_s bay_sum s) (reloc_header + a)
  max-same (last b) n r = go (get-named h (items b)) (sum-released (is h) b n) r
    where
      go : {o : Option Item} → Named h o → bay_sum (release (is h) b) ≡ bay_sum b + taken o → room_for a (get_or (over (λ (i : Item). bay_sum b) o) 0) o ≡ false
          → below (bay_sum (release (is h) b)) (reloc_header + a) ≡ below (bay_sum b) (reloc_header + a)
      go unnamed q r = sum_same b unnamed q refl
      go (named {d = d}) q r = sum_same b (named {d = d}) q r
  max-same (more b x s) n r =
      below-max (bay_sum (release (is h) b)) (max_s bay_sum (map_s (release (is h)) s)) (reloc_header + a)
      ∙ go (get-named h (items b)) (count-get (is h) (items b) (omega arith)) (sum-released (is h) b (omega arith)) r (λ q. max-same s (omega arith) q)
      ∙ sym (below-max (bay_sum b) (max_s bay_sum s) (reloc_header + a))
    where
      go : {o : Option Item} → Named h o → count (is h) (items b) ≡ often o → bay_sum (release (is h) b) ≡ bay_sum b + taken o
          → room_for a (get_or (or_else (over (λ (i : Item). bay_sum b) o) (find_s (λ (b : List Cell). over (λ (i : Item). bay_sum b) (get (is h) (items b))) s)) 0) (or_else o (block_of h s)) ≡ false
          → (room_for a (sum_of_own s) (block_of h s) ≡ false → below (max_s bay_sum (map_s (release (is h)) s)) (reloc_header + a) ≡ below (max_s bay_sum s) (reloc_header + a))
          → below (bay_sum (release (is h) b)) (reloc_header + a) && below (max_s bay_sum (map_s (release (is h)) s)) (reloc_header + a) ≡ below (bay_sum b) (reloc_header + a) && below (max_s bay_sum s) (reloc_header + a)
      go unnamed c q r f = ap₂ ◌&&◌ (sum_same b unnamed q refl) (f r)
      go (named {d = d}) c q r f = ap₂ ◌&&◌ (sum_same b (named {d = d}) q r) (ap (λ (k : ℕ). below k (reloc_header + a)) (max-absent s (omega (arith, c, n))))

  -- neither the own bay nor any other
  pub resize-missing : (d : List ℕ) (s : Bays (List Cell) Fixed) → live h s ≤ 1 → find_s (λ (b : List Cell). get (is h) (items b)) s ≡ some (item h d)
      → Missing (below (get_or (find_s (λ (b : List Cell). over (λ (i : Item). bay_sum b) (get (is h) (items b))) s) 0) (a - length d) && below (max_s bay_sum s) (reloc_header + a)) (resize_in h a (item h d) s)
  resize-missing d s n q =
      subst (λ (t : Bool). Missing t (resize_in h a (item h d) s))
      (same (room_for a (sum_of_own s) (block_of h s)) refl ∙ ap (λ (o : Option Item). not (room_for a (sum_of_own s) o) && below (max_s bay_sum s) (reloc_header + a)) q)
      (else-missing (own-missing s n) (low-missing bay_sum (item_size (resized a (item h d))) (put (resized a (item h d))) (map_s (release (is h)) s)))
    where
      same : (t : Bool) → room_for a (sum_of_own s) (block_of h s) ≡ t
          → not t && below (max_s bay_sum (map_s (release (is h)) s)) (item_size (resized a (item h d))) ≡ not t && below (max_s bay_sum s) (reloc_header + a)
      same true r = refl
      same false r = ap (λ (k : ℕ). below (max_s bay_sum (map_s (release (is h)) s)) (reloc_header + k)) (length-sized a d) ∙ max-same s n r
