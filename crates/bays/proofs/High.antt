-- The highest bay whose sum reaches a need: it is found where there is one, it is the bay that makes room for a new fixed block, and
-- for a need of 0 it is the last bay.
use mathlib.Core.Path.{◌≡◌, refl, sym, ap, ap₂, ◌∙◌}
use mathlib.Core.List.{List, [], ◌∷◌, ◌++◌, map}
use mathlib.Core.Bool.{Bool, true, false, cond, ◌||◌}
use Prim.Native.Nat.{ℕ, ◌+◌, ◌≤◌, max}
use native.Mathlib.Omega.{arith}
use lib.Dec.{leb, leb-zero}
use borrow.Author.Tests.{leb-true, le-ltb}
use Rattle.format.proofs.Bool.{not-both}
use Rattle.structure.specs.Structure.{Block, cell, fixed}
use Rattle.calls.specs.Bays.{Bays, last, more, max_s, last_s}
use Rattle.calls.specs.State.{Fixed, fsize, new_fixed, cut_high}
use Rattle.calls.proofs.Reach.{leb-max}
use Rattle.bay.specs.Bay.{Cell, bay_size, bay_sum}
use Rattle.zone.specs.Group.{flat_bay, flatten}
use Rattle.zone.proofs.Places.{Tiled}
use Rattle.bays.specs.Places.{BayN, bay_n, no_bay, bay_at, fit_at, or_bay, high_bay, own_bay}
use Rattle.bays.specs.At.{at_last, at_later}
use Rattle.bays.specs.Found.{FoundHigh, FoundLast}
use Rattle.bays.proofs.At.{flat_later, tiled-place, tiled-rest, tiled-last, tiled-long, numbers-first, numbers-later}

-- ---- whether there is one

fit_is : (need p : ℕ) (b : List Cell) → (fit_at need p b).found ≡ leb need (bay_sum b)
fit_is need p b = go (leb need (bay_sum b))
  where
    go : (t : Bool) → (cond t (bay_at p b) no_bay).found ≡ t
    go true = refl
    go false = refl

or_is : (u v : BayN) → (or_bay u v).found ≡ u.found || v.found
or_is u v = go u.found refl
  where
    go : (t : Bool) → u.found ≡ t → (cond t u v).found ≡ t || v.found
    go true e = e
    go false e = refl

or-first : (u v : BayN) → u.found ≡ true → or_bay u v ≡ u
or-first u v e = rw e

or-second : (u v : BayN) → u.found ≡ false → or_bay u v ≡ v
or-second u v e = rw e

pub high_is : (need p : ℕ) (s : Bays (List Cell) Fixed) → (high_bay need p s).found ≡ leb need (max_s bay_sum s)
high_is need p (last b) = fit_is need p b
high_is need p (more b x s) =
    let e : max (max_s bay_sum s) (bay_sum b) ≡ max (bay_sum b) (max_s bay_sum s) = omega arith in
    or_is (high_bay need (x.place + fsize x) s) (fit_at need p b)
    ∙ ap₂ ◌||◌ (high_is need (x.place + fsize x) s) (fit_is need p b)
    ∙ leb-max need (max_s bay_sum s) (bay_sum b)
    ∙ ap (leb need) e

-- ---- it is the bay that makes room

module _ (need end : ℕ) (f : List Cell → List Cell) (g : Bool) (a e sum tail : ℕ) (y : g ≡ true) where
  -- the first bay, which ends at `until`
  first : (p : ℕ) (s u : Bays (List Cell) Fixed) (b : List Cell) (until : ℕ) (post : List Block) → bay_n g a e sum tail ≡ fit_at need p b → p + bay_size b ≡ until → until ≤ end
      → flatten s ≡ map cell b ++ post → flatten u ≡ map cell (f b) ++ (fixed (new_fixed need until).bytes ∷ post) → FoundHigh need p end f s (new_fixed need until, u) a e sum tail
  first p s u b until post q l m old new = go (leb need (bay_sum b)) refl q
    where
      go : (t : Bool) → leb need (bay_sum b) ≡ t → bay_n g a e sum tail ≡ cond t (bay_at p b) no_bay → FoundHigh need p end f s (new_fixed need until, u) a e sum tail
      go true v r =
          let n : e ≡ until = ap (λ (w : BayN). w.end) r ∙ l in
          record { before = []; bay = b; after = post; old = old; new = new; block = ap (new_fixed need) (sym n); numbers = numbers-first g a e sum tail p b r; within = omega arith; enough = leb-true need (bay_sum b) v }
      go false v r = absurd (not-both y (ap (λ (w : BayN). w.found) r))

  later : (p : ℕ) (c : List Cell) (x : Fixed) (s : Bays (List Cell) Fixed) (r : Fixed × Bays (List Cell) Fixed) → Tiled p (more c x s) end
      → FoundHigh need (x.place + fsize x) end f s r a e sum tail → FoundHigh need p end f (more c x s) (r.0, more c x r.1) a e sum tail
  later p c x s r t w = record {
    before = flat_bay c (fixed x.bytes ∷ w.before);
    bay = w.bay;
    after = w.after;
    old = flat_later c x.bytes w.before (map cell w.bay ++ w.after) w.old;
    new = flat_later c x.bytes w.before (map cell (f w.bay) ++ (fixed (new_fixed need e).bytes ∷ w.after)) w.new;
    block = w.block;
    numbers = numbers-later p end c x s w.before w.bay t w.numbers;
    within = w.within;
    enough = w.enough;
  }

  pub high-found : (s : Bays (List Cell) Fixed) (p : ℕ) → Tiled p s end → bay_n g a e sum tail ≡ high_bay need p s → FoundHigh need p end f s (cut_high bay_sum f [] need end s) a e sum tail
  high-found (last b) p t q = first p (last b) (more (f b) (new_fixed need end) (last [])) b end [] q (tiled-last t) (omega arith) refl refl
  high-found (more b x s) p t q = go (leb need (max_s bay_sum s)) refl (high-found s (x.place + fsize x) (tiled-rest t))
    where
      go : (u : Bool) → leb need (max_s bay_sum s) ≡ u
          → (bay_n g a e sum tail ≡ high_bay need (x.place + fsize x) s → FoundHigh need (x.place + fsize x) end f s (cut_high bay_sum f [] need end s) a e sum tail)
          → FoundHigh need p end f (more b x s)
          (cond u ((cut_high bay_sum f [] need end s).0, more b x (cut_high bay_sum f [] need end s).1) (new_fixed need x.place, more (f b) (new_fixed need x.place) (more [] x s)))
          a e sum tail
      go true v ih =
          later p b x s (cut_high bay_sum f [] need end s) t (ih (q ∙ or-first (high_bay need (x.place + fsize x) s) (fit_at need p b) (high_is need (x.place + fsize x) s ∙ v)))
      go false v ih =
          first p (more b x s) (more (f b) (new_fixed need x.place) (more [] x s)) b x.place (fixed x.bytes ∷ flatten s)
          (q ∙ or-second (high_bay need (x.place + fsize x) s) (fit_at need p b) (high_is need (x.place + fsize x) s ∙ v))
          (tiled-place t) (omega (arith, tiled-long (tiled-rest t))) refl refl

-- ---- the last bay

module _ (end : ℕ) (f : List Cell → List Cell) (g : Bool) (a e sum tail : ℕ) where
  pub last_found : (s : Bays (List Cell) Fixed) (p : ℕ) → Tiled p s end → bay_n g a e sum tail ≡ high_bay 0 p s → FoundLast p end f s a e sum tail
  last_found (last b) p t q =
      let r : bay_n g a e sum tail ≡ bay_at p b = q ∙ ap (λ (u : Bool). cond u (bay_at p b) no_bay) (leb-zero (bay_sum b)) in
      record { before = []; at = at_last; numbers = numbers-first g a e sum tail p b r; ends = ap (λ (w : BayN). w.end) r ∙ tiled-last t }
  last_found (more b x s) p t q =
      let w = last_found s (x.place + fsize x) (tiled-rest t) (q ∙ or-first (high_bay 0 (x.place + fsize x) s) (fit_at 0 p b) (high_is 0 (x.place + fsize x) s ∙ leb-zero (max_s bay_sum s))) in
      record { before = flat_bay b (fixed x.bytes ∷ w.before); at = at_later w.at; numbers = numbers-later p end b x s w.before (last_s s) t w.numbers; ends = w.ends }

-- it is the one of a block beyond all bays
pub own-last : (end : ℕ) (s : Bays (List Cell) Fixed) (p : ℕ) → Tiled p s end → own_bay end p s ≡ high_bay 0 p s
own-last end (last b) p t = ap (λ (u : Bool). cond u (bay_at p b) no_bay) (sym (leb-zero (bay_sum b)))
own-last end (more b x s) p t =
    rw (le-ltb end x.place (omega (arith, tiled-long (tiled-rest t))))
    (own-last end s (x.place + fsize x) (tiled-rest t)
    ∙ sym (or-first (high_bay 0 (x.place + fsize x) s) (fit_at 0 p b) (high_is 0 (x.place + fsize x) s ∙ leb-zero (max_s bay_sum s))))
