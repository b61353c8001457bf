-- The free block that is chosen in a bay, by its offset: what one block more at the bay's end changes.
use mathlib.Core.Path.{◌≡◌, refl, sym, ap, ◌∙◌}
use mathlib.Core.List.{List, [], ◌∷◌, ◌++◌}
use mathlib.Core.Bool.{Bool, true, false, cond}
use mathlib.Core.Option.{Option, none, some}
use Prim.Native.Nat.{ℕ, ◌+◌, ◌<◌, ◌≤◌}
use native.Mathlib.Nat.{add-zero}
use native.Mathlib.Omega.{arith}
use lib.Dec.{leb, ltb}
use borrow.Author.Tests.{le-leb, lt-leb, leb-true, leb-false, ltb-true, ltb-false, le-ltb, lt-ltb}
use Rattle.calls.specs.Bays.{over}
use Rattle.bay.specs.Bay.{Cell, free, held, cell_size, bay_size, Hole, behind, holes, tighter, choose}
use Rattle.bay.specs.Ends.{free_part}
use Rattle.bay.proofs.Choice.{choose-behind}
use Rattle.room.specs.place.Hole.{HoleN, hole_n, no_hole, hole_at, hole_for, hole_if, tighter_n}

-- ---- the tighter of two

assoc : (a b c : Bool) (i j k l m n : ℕ) → tighter_n (tighter_n (hole_n a i l) (hole_n b j m)) (hole_n c k n) ≡ tighter_n (hole_n a i l) (tighter_n (hole_n b j m) (hole_n c k n))
assoc a b false i j k l m n = refl
assoc a false true i j k l m n = refl
assoc false true true i j k l m n = go (ltb n m)
  where
    go : (t : Bool) → cond t (hole_n true k n) (hole_n true j m) ≡ tighter_n (hole_n false i l) (cond t (hole_n true k n) (hole_n true j m))
    go true = refl
    go false = refl
assoc true true true i j k l m n = go (ltb m l) (ltb n m) (ltb n l) refl refl refl
  where
    go : (t u v : Bool) → ltb m l ≡ t → ltb n m ≡ u → ltb n l ≡ v
        → tighter_n (cond t (hole_n true j m) (hole_n true i l)) (hole_n true k n) ≡ tighter_n (hole_n true i l) (cond u (hole_n true k n) (hole_n true j m))
    go true true true p q r = rw (q, r)
    go true true false p q r = let x : ⊥ = omega (arith, ltb-true m l p, ltb-true n m q, ltb-false n l r) in absurd x
    go true false v p q r = rw (p, q)
    go false true v p q r = refl
    go false false true p q r = let x : ⊥ = omega (arith, ltb-false m l p, ltb-false n m q, ltb-true n l r) in absurd x
    go false false false p q r = rw (p, r)

tighter-tighter : (u v w : HoleN) → tighter_n (tighter_n u v) w ≡ tighter_n u (tighter_n v w)
tighter-tighter u v w = assoc u.found v.found w.found u.at v.at w.at u.size v.size w.size

-- ---- one block, at p

abbrev own : ℕ → ℕ → Cell → HoleN
own need p (free n) = hole_if need n p
own need p (held e) = no_hole

-- nothing seen yet
none_yet : (p : ℕ) (o : Option Hole) → hole_at p o ≡ tighter_n no_hole (hole_at p o)
none_yet p none = refl
none_yet p (some x) = refl

at-behind : (p : ℕ) (c : Cell) (o : Option Hole) → hole_at p (over (behind c) o) ≡ hole_at (p + cell_size c) o
at-behind p c none = refl
at-behind p c (some x) = let e : p + (cell_size c + bay_size x.before) ≡ p + cell_size c + bay_size x.before = omega arith in ap (λ (a : ℕ). hole_n true a x.size) e

-- a free block of n bytes at p before the hole o, which begins behind it
before : (p n : ℕ) (cs : List Cell) (o : Option Hole) → hole_at p (some (tighter (record { before = []; size = n; after = cs }) (over (behind (free n)) o))) ≡ tighter_n (hole_n true p n) (hole_at (p + n) o)
before p n cs none = ap (λ (a : ℕ). hole_n true a n) (add-zero p)
before p n cs (some x) = go (leb n x.size) refl
  where
    go : (t : Bool) → leb n x.size ≡ t
        → hole_at p (some (cond t (record { before = []; size = n; after = cs }) (behind (free n) x))) ≡ cond (ltb x.size n) (hole_n true (p + n + bay_size x.before) x.size) (hole_n true p n)
    go true e = rw (le-ltb x.size n (leb-true n x.size e)) (ap (λ (a : ℕ). hole_n true a n) (add-zero p))
    go false e = rw (lt-ltb x.size n (leb-false n x.size e)) (at-behind p (free n) (some x))

chosen-cons : (need p : ℕ) (c : Cell) (cs : List Cell) → hole_for need p (c ∷ cs) ≡ tighter_n (own need p c) (hole_for need (p + cell_size c) cs)
chosen-cons need p (free n) cs = rw (choose-behind need (free n) (holes cs)) (go (leb need n) (choose need (holes cs)))
  where
    go : (t : Bool) (o : Option Hole) → hole_at p (cond t (some (tighter (record { before = []; size = n; after = cs }) (over (behind (free n)) o))) (over (behind (free n)) o))
        ≡ tighter_n (cond t (hole_n true p n) no_hole) (hole_at (p + n) o)
    go true o = before p n cs o
    go false o = at-behind p (free n) o ∙ none_yet (p + n) o
chosen-cons need p (held e) cs =
    rw (choose-behind need (held e) (holes cs)) (at-behind p (held e) (choose need (holes cs)) ∙ none_yet (p + cell_size (held e)) (choose need (holes cs)))

-- ---- one block more at the end

chosen-snoc : (need p : ℕ) (cs : List Cell) (c : Cell) → hole_for need p (cs ++ c ∷ []) ≡ tighter_n (hole_for need p cs) (own need (p + bay_size cs) c)
chosen-snoc need p [] c = chosen-cons need p c [] ∙ go c
  where
    go : (c : Cell) → tighter_n (own need p c) no_hole ≡ tighter_n no_hole (own need (p + 0) c)
    go (held e) = refl
    go (free n) = rw (add-zero p) (by (leb need n))
      where
        by : (t : Bool) → cond t (hole_n true p n) no_hole ≡ tighter_n no_hole (cond t (hole_n true p n) no_hole)
        by true = refl
        by false = refl
chosen-snoc need p (d ∷ cs) c =
    let e : p + cell_size d + bay_size cs ≡ p + (cell_size d + bay_size cs) = omega arith in
    chosen-cons need p d (cs ++ c ∷ [])
    ∙ ap (tighter_n (own need p d)) (chosen-snoc need (p + cell_size d) cs c)
    ∙ sym (tighter-tighter (own need p d) (hole_for need (p + cell_size d) cs) (own need (p + cell_size d + bay_size cs) c))
    ∙ ap (λ (w : HoleN). tighter_n w (own need (p + cell_size d + bay_size cs) c)) (sym (chosen-cons need p d cs))
    ∙ ap (λ (a : ℕ). tighter_n (hole_for need p (d ∷ cs)) (own need a c)) e

-- its free bytes, 0 for a block that is not free
own_is : (need n at : ℕ) (c : Cell) → 0 < need → n ≡ free_part c → hole_if need n at ≡ own need at c
own_is need n at (free m) l e = rw e
own_is need n at (held i) l e = rw (lt-leb need n (omega arith))

pub chosen_more : (need p : ℕ) (cs : List Cell) (n at : ℕ) (c : Cell) → 0 < need → n ≡ free_part c → at ≡ p + bay_size cs → (w w' : HoleN) → w ≡ hole_for need p cs → w' ≡ tighter_n w (hole_if need n at) → w' ≡ hole_for need p (cs ++ c ∷ [])
chosen_more need p cs n at c l en ea w w' ew e =
    e ∙ ap (tighter_n w) (own_is need n at c l en ∙ ap (λ (a : ℕ). own need a c) ea) ∙ ap (λ (v : HoleN). tighter_n v (own need (p + bay_size cs) c)) ew ∙ sym (chosen-snoc need p cs c)

-- ---- the tests in the code

pub too_small : (need : ℕ) (w : HoleN) (n at : ℕ) → n < need → w ≡ tighter_n w (hole_if need n at)
too_small need w n at l = rw (lt-leb need n l)

module _ (need n at : ℕ) (l : need ≤ n) where
  pub first-hole : hole_n true at n ≡ tighter_n no_hole (hole_if need n at)
  first-hole = rw (le-leb need n l)

  pub tighter-yes : (i m : ℕ) → n < m → hole_n true at n ≡ tighter_n (hole_n true i m) (hole_if need n at)
  tighter-yes i m k = rw (le-leb need n l, lt-ltb n m k)

  pub tighter-no : (i m : ℕ) → m ≤ n → hole_n true i m ≡ tighter_n (hole_n true i m) (hole_if need n at)
  tighter-no i m k = rw (le-leb need n l, le-ltb n m k)
