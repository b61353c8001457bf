-- A bay among the blocks: what the flat lists are, and where the bay lies.
use mathlib.Core.Path.{◌≡◌, refl, sym, ap, ◌∙◌}
use mathlib.Core.List.{List, [], ◌∷◌, ◌++◌, map, append_assoc}
use mathlib.Core.Bool.{Bool}
use Prim.Native.Nat.{ℕ, ◌+◌, ◌<◌, ◌≤◌}
use native.Mathlib.Omega.{arith}
use borrow.Author.Tests.{lt-ltb, le-ltb}
use Rattle.structure.specs.Structure.{Block, cell, fixed, sizes}
use Rattle.calls.specs.Bays.{Bays, last, more}
use Rattle.calls.specs.State.{Fixed, fsize}
use Rattle.bay.specs.Bay.{Cell, bay_size}
use Rattle.zone.specs.Group.{flat_bay, flatten}
use Rattle.zone.proofs.Places.{Tiled, tile-last, tile-more}
use Rattle.bays.specs.Places.{BayN, bay_n, bay_at, own_bay}
use Rattle.bays.specs.At.{At, at_last, at_here, at_later}
use Rattle.bays.specs.Found.{Numbers}

-- ---- the flat lists

pub flat_later : (c : List Cell) (d : List ℕ) (pre r : List Block) {l : List Block} → l ≡ pre ++ r → flat_bay c (fixed d ∷ l) ≡ flat_bay c (fixed d ∷ pre) ++ r
flat_later c d pre r e = ap (λ (l : List Block). flat_bay c (fixed d ∷ l)) e ∙ sym (append_assoc (map cell c) (fixed d ∷ pre) r)

module _ {f : List Cell → List Cell} where
  pub at_old : {s s' : Bays (List Cell) Fixed} {pre : List Block} {b : List Cell} {post : List Block} → At f s s' pre b post → flatten s ≡ pre ++ (map cell b ++ post)
  at_old at_last = refl
  at_old at_here = refl
  at_old (at_later {c = c} {x = x} {pre = pre} {b = b} {post = post} a) = flat_later c x.bytes pre (map cell b ++ post) (at_old a)

  pub at_new : {s s' : Bays (List Cell) Fixed} {pre : List Block} {b : List Cell} {post : List Block} → At f s s' pre b post → flatten s' ≡ pre ++ (map cell (f b) ++ post)
  at_new at_last = refl
  at_new at_here = refl
  at_new (at_later {c = c} {x = x} {pre = pre} {b = b} {post = post} a) = flat_later c x.bytes pre (map cell (f b) ++ post) (at_new a)

-- ---- sizes

pub no-sizes : sizes [] ≡ 0
unfolding sizes
no-sizes = refl

pub bay-sizes : (c : List Cell) (r : List Block) → sizes (map cell c ++ r) ≡ bay_size c + sizes r
unfolding sizes
bay-sizes [] r = omega arith
bay-sizes (d ∷ c) r = omega (arith, bay-sizes c r)

-- the blocks up to a bay, with one bay and one fixed block more in front
pub later-sizes : (c : List Cell) (x : Fixed) (pre : List Block) → sizes (flat_bay c (fixed x.bytes ∷ pre)) ≡ bay_size c + (fsize x + sizes pre)
unfolding sizes
later-sizes c x pre = bay-sizes c (fixed x.bytes ∷ pre)

-- ---- tiled bays

pub tiled-place : {p end : ℕ} {b : List Cell} {x : Fixed} {s : Bays (List Cell) Fixed} → Tiled p (more b x s) end → p + bay_size b ≡ x.place
tiled-place (tile-more e t) = e

pub tiled-rest : {p end : ℕ} {b : List Cell} {x : Fixed} {s : Bays (List Cell) Fixed} → Tiled p (more b x s) end → Tiled (x.place + fsize x) s end
tiled-rest (tile-more e t) = t

pub tiled-last : {p end : ℕ} {b : List Cell} → Tiled p (last b) end → p + bay_size b ≡ end
tiled-last (tile-last e) = e

pub tiled-long : {p end : ℕ} {s : Bays (List Cell) Fixed} → Tiled p s end → p ≤ end
tiled-long (tile-last e) = omega arith
tiled-long (tile-more e t) = omega (arith, tiled-long t)

-- ---- where the bay lies

module _ {f : List Cell → List Cell} (end : ℕ) where
  -- the bay of the block at offset t
  pub own-bay : (t : ℕ) {s s' : Bays (List Cell) Fixed} {pre : List Block} {b : List Cell} {post : List Block} → At f s s' pre b post
      → (p : ℕ) → Tiled p s end → p + sizes pre ≤ t → t < p + sizes pre + bay_size b → own_bay t p s ≡ bay_at (p + sizes pre) b
  own-bay t (at_last {b = b}) p d l h = let e : p ≡ p + sizes [] = omega (arith, no-sizes) in ap (λ (o : ℕ). bay_at o b) e
  own-bay t (at_here {b = b} {x = x}) p d l h =
      let e : p ≡ p + sizes [] = omega (arith, no-sizes) in
      rw (lt-ltb t x.place (omega (arith, tiled-place d, no-sizes))) (ap (λ (o : ℕ). bay_at o b) e)
  own-bay t (at_later {c = c} {x = x} {pre = pre} {b = b} a) p d l h =
      let e : x.place + fsize x + sizes pre ≡ p + sizes (flat_bay c (fixed x.bytes ∷ pre)) = omega (arith, tiled-place d, later-sizes c x pre) in
      rw (le-ltb t x.place (omega (arith, tiled-place d, later-sizes c x pre)))
      (own-bay t a (x.place + fsize x) (tiled-rest d) (omega (arith, tiled-place d, later-sizes c x pre)) (omega (arith, tiled-place d, later-sizes c x pre)) ∙ ap (λ (o : ℕ). bay_at o b) e)

-- ---- the numbers of a bay

pub numbers_of : (g : Bool) (a e sum tail p : ℕ) (pre : List Block) (b : List Cell) → bay_n g a e sum tail ≡ bay_at (p + sizes pre) b → Numbers p pre b a e sum tail
numbers_of g a e sum tail p pre b q =
    let l : a ≡ p + sizes pre = ap (λ (n : BayN). n.start) q in
    record { start_is = l; end_is = ap (λ (n : BayN). n.end) q ∙ ap (λ (o : ℕ). o + bay_size b) (sym l); sum_is = ap (λ (n : BayN). n.sum) q; tail_is = ap (λ (n : BayN). n.tail) q }

-- of the first bay, and of a bay behind one bay and one fixed block more
pub numbers-first : (g : Bool) (a e sum tail p : ℕ) (b : List Cell) → bay_n g a e sum tail ≡ bay_at p b → Numbers p [] b a e sum tail
numbers-first g a e sum tail p b q =
    let l : p ≡ p + sizes [] = omega (arith, no-sizes) in
    numbers_of g a e sum tail p [] b (q ∙ ap (λ (o : ℕ). bay_at o b) l)

pub numbers-later : {a e sum tail : ℕ} (p end : ℕ) (c : List Cell) (x : Fixed) (s : Bays (List Cell) Fixed) (pre : List Block) (b : List Cell)
    → Tiled p (more c x s) end → Numbers (x.place + fsize x) pre b a e sum tail → Numbers p (flat_bay c (fixed x.bytes ∷ pre)) b a e sum tail
numbers-later p end c x s pre b t n = record { start_is = omega (arith, tiled-place t, later-sizes c x pre, n.start_is); end_is = n.end_is; sum_is = n.sum_is; tail_is = n.tail_is }
