-- Which hole is taken, when a block grows where it stands, when a bay is compacted: the laws of `specs/Choice` hold.
use mathlib.Core.Path.{◌≡◌, refl, sym, ap, ap₂, ◌∙◌, subst}
use mathlib.Core.Bool.{Bool, true, false, cond, false≢true}
use mathlib.Core.Option.{Option, none, some, get_or}
use mathlib.Core.List.{List, [], ◌∷◌, ◌++◌, map, map-append, append-nil}
use Prim.Native.Nat.{ℕ, ◌+◌, ◌-◌, ◌≤◌, ◌<◌}
use native.Mathlib.Nat.{add-zero}
use native.Mathlib.Omega.{arith}
use lib.ListN.{length}
use lib.Dec.{leb}
use borrow.Author.Tests.{le-leb, lt-leb, leb-true, leb-false}
use Rattle.calls.specs.Bays.{over}
use Rattle.kinds.specs.Kinds.{Item, item_size, is, on_data}
use Rattle.calls.specs.State.{get, total, alter, sized}
use Rattle.calls.specs.Table.{is_none}
use Rattle.bay.specs.Bay.{Cell, free, held, bay_size, bay_sum, items, gap, packed, Hole, behind, holes, as_tight, tighter, choose, fill, trim, take_high, resized, in_place, grow_here, reshape}
use Rattle.bay.proofs.Each.{Each, nothing, just, each_weaken, cond-ap}
use Rattle.bay.proofs.Holes.{All, a_nil, a-cons, all_map, choose-all}
use Rattle.bay.proofs.Laws.{items-append, bsum-append, bsize-split}
use Rattle.bay.proofs.Resize.{length-sized}
use Rattle.bay.specs.Choice.{EachFree, no_cell, a_hole, a_block, in_order, Tightest, IsChoice, some_fits, none_fits, FreeBefore, WhichHole, NoRoom, at_the_end, at_block, at_hole, GrowsInPlace, TakesTheEnd, FreeAtTheEnd}

pub packed-is : (es : List Item) (t : List Cell) → packed es t ≡ map held es ++ t
packed-is [] t = refl
packed-is (e ∷ es) t = ap (held e ∷◌) (packed-is es t)

over-id : (o : Option (List Cell)) → o ≡ over ([] ++◌) o
over-id none = refl
over-id (some cs) = refl

over-cons : (c : Cell) (before : List Cell) (o : Option (List Cell)) → over (c ∷◌) (over (before ++◌) o) ≡ over ((c ∷ before) ++◌) o
over-cons c before none = refl
over-cons c before (some cs) = refl

-- ---- which hole

tighter-behind : (c : Cell) (x : Hole) (o : Option Hole) → behind c (tighter x o) ≡ tighter (behind c x) (over (behind c) o)
tighter-behind c x none = refl
tighter-behind c x (some y) = cond-ap (behind c) (as_tight x y) refl refl

pub choose-behind : (n : ℕ) (c : Cell) (xs : List Hole) → choose n (map (behind c) xs) ≡ over (behind c) (choose n xs)
choose-behind n c [] = refl
choose-behind n c (x ∷ xs) =
    let ih = choose-behind n c xs in
    sym (cond-ap (over (behind c)) (leb n x.size) (ap some (tighter-behind c x (choose n xs) ∙ ap (tighter (behind c x)) (sym ih))) (sym ih))

abbrev hole : List Cell → ℕ → List Cell → Hole
hole a n b = record { before = a; size = n; after = b }

each_free : {P Q : ℕ → Type 0} → ((k : ℕ) → P k → Q k) → {cs : List Cell} → EachFree P cs → EachFree Q cs
each_free f no_cell = no_cell
each_free f (a_hole {k = k} p s) = a_hole (f k p) (each_free f s)
each_free f (a_block s) = a_block (each_free f s)

-- one block more before it, which is not as small
tight-behind : {n : ℕ} {cs : List Cell} {x : Hole} {c : Cell} → EachFree (λ (k : ℕ). n ≤ k → x.size < k) (c ∷ []) → Tightest n cs x → Tightest n (c ∷ cs) (behind c x)
tight-behind (a_hole {k = k} f no_cell) t = record {
  of_the_bay = ap (free k ∷◌) t.of_the_bay;
  enough = t.enough;
  none_smaller = a_hole {k = k} (λ m. omega (arith, f m)) t.none_smaller;
  none_lower = a_hole f t.none_lower;
}
tight-behind (a_block {e = e} no_cell) t = record {
  of_the_bay = ap (held e ∷◌) t.of_the_bay;
  enough = t.enough;
  none_smaller = a_block t.none_smaller;
  none_lower = a_block t.none_lower;
}

-- the first block, where none behind it is smaller
tight-first : {n k : ℕ} {cs : List Cell} → n ≤ k → EachFree (λ (j : ℕ). n ≤ j → k ≤ j) cs → Tightest n (free k ∷ cs) (hole [] k cs)
tight-first {k = k} l s = record { of_the_bay = refl; enough = l; none_smaller = a_hole {k = k} (λ m. omega arith) s; none_lower = no_cell }

chosen-free : (n k : ℕ) (t : Bool) → leb n k ≡ t → {cs : List Cell} {o : Option Hole} → IsChoice n cs o
    → IsChoice n (free k ∷ cs) (cond t (some (tighter (hole [] k cs) (over (behind (free k)) o))) (over (behind (free k)) o))
chosen-free n k false e (none_fits s) = none_fits (a_hole (leb-false n k e) s)
chosen-free n k false e (some_fits t) = some_fits (tight-behind (a_hole (λ m. omega (arith, leb-false n k e)) no_cell) t)
chosen-free n k true e (none_fits s) = some_fits (tight-first (leb-true n k e) (each_free (λ j l m. omega arith) s))
chosen-free n k true e {cs = cs} (some_fits {x = x} t) = go (leb k x.size) refl
  where
    go : (u : Bool) → leb k x.size ≡ u → IsChoice n (free k ∷ cs) (some (cond u (hole [] k cs) (behind (free k) x)))
    go true q = some_fits (tight-first (leb-true n k e) (each_free (λ j f m. omega (arith, leb-true k x.size q, f m)) t.none_smaller))
    go false q = some_fits (tight-behind (a_hole (λ m. leb-false k x.size q) no_cell) t)

chosen-held : {n : ℕ} {cs : List Cell} (e : Item) {o : Option Hole} → IsChoice n cs o → IsChoice n (held e ∷ cs) (over (behind (held e)) o)
chosen-held e (none_fits s) = none_fits (a_block s)
chosen-held e (some_fits t) = some_fits (tight-behind (a_block no_cell) t)

chosen_is : (n : ℕ) (cs : List Cell) → IsChoice n cs (choose n (holes cs))
chosen_is n [] = none_fits no_cell
chosen_is n (free k ∷ cs) = rw (choose-behind n (free k) (holes cs)) (chosen-free n k (leb n k) refl (chosen_is n cs))
chosen_is n (held e ∷ cs) = rw (choose-behind n (held e) (holes cs)) (chosen-held e (chosen_is n cs))

-- ---- there is no other

-- each hole has a free block's size
holes-sizes : {P : ℕ → Type 0} {cs : List Cell} → EachFree P cs → All (λ (x : Hole). P x.size) (holes cs)
holes-sizes no_cell = a_nil
holes-sizes (a_hole {k = k} p s) = a-cons p (all_map (behind (free k)) (λ x q. q) (holes-sizes s))
holes-sizes (a_block {e = e} s) = all_map (behind (held e)) (λ x q. q) (holes-sizes s)

each_after : {P : ℕ → Type 0} (before : List Cell) (k : ℕ) (after : List Cell) → EachFree P (before ++ (free k ∷ after)) → EachFree P after
each_after [] k after (a_hole p s) = s
each_after (free j ∷ before) k after (a_hole p s) = each_after before k after s
each_after (held e ∷ before) k after (a_block s) = each_after before k after s

tighter-first : (x : Hole) {o : Option Hole} → Each (λ (y : Hole). x.size ≤ y.size) o → tighter x o ≡ x
tighter-first x nothing = refl
tighter-first x (just {a = y} l) = rw (le-leb x.size y.size l)

-- a free block before it that is not as small
skip-free : (n j : ℕ) (cs : List Cell) {o : Option Hole} (x : Hole) → (n ≤ j → x.size < j) → o ≡ some x → (t : Bool) → leb n j ≡ t → cond t (some (tighter (hole [] j cs) o)) o ≡ some x
skip-free n j cs x m q true e = ap (λ (o : Option Hole). some (tighter (hole [] j cs) o)) q ∙ (rw (lt-leb j x.size (m (leb-true n j e))))
skip-free n j cs x m q false e = q

choose-after : (n : ℕ) (k : ℕ) {before : List Cell} (after : List Cell) → n ≤ k → EachFree (λ (j : ℕ). n ≤ j → k < j) before → EachFree (λ (j : ℕ). n ≤ j → k ≤ j) after
    → choose n (holes (before ++ (free k ∷ after))) ≡ some (hole before k after)
choose-after n k {before = []} after l no_cell r =
    let w = choose-all n (all_map {Q = λ (x : Hole). n ≤ x.size → k ≤ x.size} (behind (free k)) (λ x q. q) (holes-sizes r)) in
    rw (le-leb n k l) (ap some (tighter-first (hole [] k after) (each_weaken (λ x p. p.0 p.1) w)))
choose-after n k {before = free j ∷ before} after l (a_hole m s) r =
    let cs = before ++ (free k ∷ after) in
    skip-free n j cs (hole (free j ∷ before) k after) m (choose-behind n (free j) (holes cs) ∙ ap (over (behind (free j))) (choose-after n k after l s r)) (leb n j) refl
choose-after n k {before = held d ∷ before} after l (a_block s) r =
    choose-behind n (held d) (holes (before ++ (free k ∷ after))) ∙ ap (over (behind (held d))) (choose-after n k after l s r)

choose-none : (n : ℕ) {xs : List Hole} → All (λ (x : Hole). x.size < n) xs → choose n xs ≡ none
choose-none n a_nil = refl
choose-none n (a-cons {a = x} l q) = rw (lt-leb n x.size l) (choose-none n q)

tightest-is : (n : ℕ) {cs : List Cell} {x : Hole} → Tightest n cs x → choose n (holes cs) ≡ some x
tightest-is n {x = x} t =
    ap (λ (cs : List Cell). choose n (holes cs)) t.of_the_bay
    ∙ choose-after n x.size x.after t.enough t.none_lower (each_after x.before x.size x.after (subst (EachFree (λ (k : ℕ). n ≤ k → x.size ≤ k)) t.of_the_bay t.none_smaller))

pub free_before : FreeBefore
free_before = record { none_left = λ cs. refl; last_block = λ n. refl; before_block = λ n e cs. refl; merged = λ n k cs. refl }

pub which-hole : WhichHole
which-hole = record {
  chosen = chosen_is;
  no_other = λ n cs x t. tightest-is n t;
  tightest = λ e cs x t.
      ap (λ (o : Option Hole). get_or (over (fill e) o) (packed (items cs) (held e ∷ gap (bay_sum cs - item_size e) []))) (tightest-is (item_size e) t);
  compacted = λ e cs s.
      ap (λ (o : Option Hole). get_or (over (fill e) o) (packed (items cs) (held e ∷ gap (bay_sum cs - item_size e) []))) (choose-none (item_size e) (holes-sizes s))
      ∙ packed-is (items cs) (held e ∷ gap (bay_sum cs - item_size e) []);
}

-- ---- growth in place

pub here-after : (h a : ℕ) (before cs : List Cell) → get (is h) (items before) ≡ none → grow_here h a (before ++ cs) ≡ over (before ++◌) (grow_here h a cs)
here-after h a [] cs e = over-id (grow_here h a cs)
here-after h a (free k ∷ before) cs e = ap (over (free k ∷◌)) (here-after h a before cs e) ∙ over-cons (free k) before (grow_here h a cs)
here-after h a (held d ∷ before) cs e = go (is h d) e (λ q. here-after h a before cs q)
  where
    go : (t : Bool) → cond t (some d) (get (is h) (items before)) ≡ none → (get (is h) (items before) ≡ none → grow_here h a (before ++ cs) ≡ over (before ++◌) (grow_here h a cs))
        → cond t (in_place d a (before ++ cs)) (over (held d ∷◌) (grow_here h a (before ++ cs))) ≡ over ((held d ∷ before) ++◌) (grow_here h a cs)
    go true q f = absurd (false≢true (ap is_none q))
    go false q f = ap (over (held d ∷◌)) (f q) ∙ over-cons (held d) before (grow_here h a cs)

pub at-handle : (h : ℕ) (e : Item) (a : ℕ) (cs : List Cell) → is h e ≡ true → grow_here h a (held e ∷ cs) ≡ in_place e a cs
at-handle h e a cs i = rw i

smaller-here : (e : Item) (a : ℕ) (after : List Cell) → a ≤ length e.bytes → in_place e a after ≡ some (held (resized a e) ∷ gap (length e.bytes - a) after)
smaller-here e a after l = rw (le-leb a (length e.bytes) l)

larger-here : (e : Item) (a k : ℕ) (after : List Cell) → length e.bytes < a → a - length e.bytes ≤ k
    → in_place e a (free k ∷ after) ≡ some (held (resized a e) ∷ gap (k - (a - length e.bytes)) after)
larger-here e a k after l m = rw (lt-leb a (length e.bytes) l, le-leb (a - length e.bytes) k m)

-- what is found is what stands there
found : {o : Option (List Cell)} (cs ds : List Cell) → o ≡ some cs → get_or o ds ≡ cs
found cs ds e = ap (λ (o : Option (List Cell)). get_or o ds) e

-- no room behind it
none_here : (e : Item) (a : ℕ) {after : List Cell} → length e.bytes < a → NoRoom (a - length e.bytes) after → in_place e a after ≡ none
none_here e a l at_the_end = rw (lt-leb a (length e.bytes) l)
none_here e a l at_block = rw (lt-leb a (length e.bytes) l)
none_here e a l (at_hole {k = k} m) = rw (lt-leb a (length e.bytes) l, lt-leb (a - length e.bytes) k m)

alter-none : (h : ℕ) (g : Item → Item) (es : List Item) → get (is h) es ≡ none → map (alter (is h) g) es ≡ es
alter-none h g [] q = refl
alter-none h g (e ∷ es) q = go (is h e) q (λ k. alter-none h g es k)
  where
    go : (t : Bool) → cond t (some e) (get (is h) es) ≡ none → (get (is h) es ≡ none → map (alter (is h) g) es ≡ es) → cond t (g e) e ∷ map (alter (is h) g) es ≡ e ∷ es
    go true q f = absurd (false≢true (ap is_none q))
    go false q f = ap (e ∷◌) (f q)

total-other : (a b : List Item) (e d : Item) → total (a ++ (d ∷ b)) + item_size e ≡ total (a ++ (e ∷ b)) + item_size d
total-other [] b e d = omega arith
total-other (i ∷ a) b e d = omega (arith, total-other a b e d)

module _ (h : ℕ) (e : Item) (a : ℕ) (before after : List Cell) (i : is h e ≡ true) (p : get (is h) (items before) ≡ none) (q : get (is h) (items after) ≡ none) (l : length e.bytes < a) where
  abbrev all : List Cell
  all = before ++ (held e ∷ after)

  abbrev other : List Item
  other = map (alter (is h) (on_data (sized a))) (items all)

  other-is : other ≡ items before ++ (resized a e ∷ items after)
  other-is =
      let g : Item → Item = alter (is h) (on_data (sized a)) in
      let k : g e ≡ resized a e = rw i in
      ap (map g) (items-append before (held e ∷ after)) ∙ map-append g (items before) (e ∷ items after)
      ∙ ap₂ ◌++◌ (alter-none h (on_data (sized a)) (items before) p) (ap₂ ◌∷◌ k (alter-none h (on_data (sized a)) (items after) q))

  left : bay_size all - total other ≡ bay_sum before + bay_sum after - (a - length e.bytes)
  left = omega (
    arith,
    bsize-split all,
    ap total (items-append before (held e ∷ after)),
    bsum-append before (held e ∷ after),
    ap total other-is,
    total-other (items before) (items after) e (resized a e),
    length-sized a e.bytes,
  )

  anew : NoRoom (a - length e.bytes) after → reshape h a all ≡ in_order (items before ++ (resized a e ∷ items after)) (bay_sum before + bay_sum after - (a - length e.bytes))
  anew n =
      ap (λ (o : Option (List Cell)). get_or o (packed other (gap (bay_size all - total other) []))) (here-after h a before (held e ∷ after) p ∙ ap (over (before ++◌)) (at-handle h e a after i ∙ none_here e a l n))
      ∙ packed-is other (gap (bay_size all - total other) []) ∙ ap₂ in_order other-is left

pub grows-in-place : GrowsInPlace
grows-in-place = record {
  smaller = λ h e a before after i q l.
      found (before ++ (held (resized a e) ∷ gap (length e.bytes - a) after)) _
      (here-after h a before (held e ∷ after) q ∙ ap (over (before ++◌)) (at-handle h e a after i ∙ smaller-here e a after l));
  larger = λ h e a k before after i q l m.
      found (before ++ (held (resized a e) ∷ gap (k - (a - length e.bytes)) after)) _
      (here-after h a before (held e ∷ (free k ∷ after)) q ∙ ap (over (before ++◌)) (at-handle h e a (free k ∷ after) i ∙ larger-here e a k after l m));
  laid_out = λ h e a before after i p q l n. anew h e a before after i p q l n;
}

-- ---- the end of a bay

trim-after : (n : ℕ) (before : List Cell) (c : Cell) → trim n (before ++ (c ∷ [])) ≡ over (before ++◌) (trim n (c ∷ []))
trim-after n [] c = over-id (trim n (c ∷ []))
trim-after n (free k ∷ []) c = ap (over (free k ∷◌)) (over-id (trim n (c ∷ []))) ∙ over-cons (free k) [] (trim n (c ∷ []))
trim-after n (free k ∷ (d ∷ before)) c = ap (over (free k ∷◌)) (trim-after n (d ∷ before) c) ∙ over-cons (free k) (d ∷ before) (trim n (c ∷ []))
trim-after n (held e ∷ before) c = ap (over (held e ∷◌)) (trim-after n before c) ∙ over-cons (held e) before (trim n (c ∷ []))

fits-end : (n k : ℕ) → n ≤ k → trim n (free k ∷ []) ≡ some (gap (k - n) [])
fits-end n k l = rw (le-leb n k l)

short-end : (n k : ℕ) → k < n → trim n (free k ∷ []) ≡ none
short-end n k l = rw (lt-leb n k l)

-- else after compacting
otherwise : (n : ℕ) (before : List Cell) (c : Cell) → trim n (c ∷ []) ≡ none → take_high n (before ++ (c ∷ [])) ≡ in_order (items before ++ items (c ∷ [])) (bay_sum before + bay_sum (c ∷ []) - n)
otherwise n before c e =
    ap (λ (o : Option (List Cell)). get_or o (packed (items (before ++ (c ∷ []))) (gap (bay_sum (before ++ (c ∷ [])) - n) []))) (trim-after n before c ∙ ap (over (before ++◌)) e)
    ∙ packed-is (items (before ++ (c ∷ []))) (gap (bay_sum (before ++ (c ∷ [])) - n) [])
    ∙ ap₂ (λ (es : List Item) (k : ℕ). in_order es (k - n)) (items-append before (c ∷ [])) (bsum-append before (c ∷ []))

pub takes-the-end : TakesTheEnd
takes-the-end = record {
  high_end_lem = λ n k before l. found (before ++ gap (k - n) []) _ (trim-after n before (free k) ∙ ap (over (before ++◌)) (fits-end n k l));
  too_small = λ n k before l. otherwise n before (free k) (short-end n k l) ∙ ap₂ (λ (es : List Item) (j : ℕ). in_order es (bay_sum before + j - n)) (append-nil (items before)) (add-zero k);
  not_free = λ n before e. otherwise n before (held e) refl ∙ ap (λ (k : ℕ). in_order (items before ++ (e ∷ [])) (k - n)) (add-zero (bay_sum before));
}

pub free-at-the-end : FreeAtTheEnd
free-at-the-end cs = packed-is (items cs) (gap (bay_sum cs) [])
