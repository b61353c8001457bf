-- The searches go from bay to bay: what one walk over a bay leaves to search.
use mathlib.Core.Path.{◌≡◌, refl, sym, ap, ap₂, ◌∙◌}
use mathlib.Core.List.{List}
use mathlib.Core.Bool.{Bool, true, false, cond}
use Prim.Native.Nat.{ℕ, suc, ◌+◌, ◌<◌, ◌≤◌}
use native.Mathlib.Omega.{arith}
use lib.Dec.{leb}
use borrow.Author.Tests.{le-leb, lt-leb, lt-ltb, le-ltb}
use lib.ListN.{length}
use Rattle.calls.specs.Bays.{Bays, last, more}
use Rattle.calls.specs.State.{Fixed, fsize}
use Rattle.bay.specs.Bay.{Cell, bay_size, bay_sum}
use Rattle.bays.specs.Places.{bays_at, BayN, bay_n, no_bay, bay_at, fit_at, or_bay, high_bay, better_bay, own_bay}
use Rattle.bays.specs.Read.{Cut, at_end, at_fixed, Read}

-- what f answers of the bays from `at` on, and `none` beyond the bytes
abbrev pub from : {A : Type 0} → A → (ℕ → Bays (List Cell) Fixed → A) → List ℕ → ℕ → A
from none f z at = cond (leb at (length z)) (f at (bays_at z at)) none

module _ {A : Type 0} (none : A) (f : ℕ → Bays (List Cell) Fixed → A) (z : List ℕ) (at : ℕ) where
  pub from_in : at ≤ length z → from none f z at ≡ f at (bays_at z at)
  from_in l = rw (le-leb at (length z) l)

  pub from_out : length z < at → from none f z at ≡ none
  from_out l = rw (lt-leb at (length z) l)

-- ---- the bay that has been read, by its numbers

module _ {z : List ℕ} {p end sum tail next : ℕ} (r : Read z p end sum tail next) where
  bay-is : bay_at p r.bay ≡ bay_n true p end sum tail
  bay-is = rw (← r.between.end_is, ← r.sum_is, ← r.tail_is)

-- ---- the highest bay

cut_high_lem : (need : ℕ) (z : List ℕ) (p next : ℕ) (b : List Cell) → Cut z p next b → high_bay need p (bays_at z p) ≡ or_bay (from no_bay (high_bay need) z next) (fit_at need p b)
cut_high_lem need z p next b (at_end e d n) = ap (high_bay need p) e ∙ ap (λ (w : BayN). or_bay w (fit_at need p b)) (sym (from_out no_bay (high_bay need) z next (omega arith)))
cut_high_lem need z p next b (at_fixed x e q n l) =
    ap (high_bay need p) e
    ∙ ap (λ (o : ℕ). or_bay (high_bay need o (bays_at z next)) (fit_at need p b)) (sym n)
    ∙ ap (λ (w : BayN). or_bay w (fit_at need p b)) (sym (from_in no_bay (high_bay need) z next l))

or-or : (a b c : BayN) → or_bay (or_bay a b) c ≡ or_bay a (or_bay b c)
or-or a b c = go a.found refl
  where
    go : (t : Bool) → a.found ≡ t → cond (cond t a b).found (cond t a b) c ≡ cond t a (or_bay b c)
    go true e = rw e
    go false e = refl

fit-or : (need p : ℕ) (b : List Cell) (c : BayN) → or_bay (fit_at need p b) c ≡ cond (leb need (bay_sum b)) (bay_at p b) c
fit-or need p b c = go (leb need (bay_sum b))
  where
    go : (t : Bool) → or_bay (cond t (bay_at p b) no_bay) c ≡ cond t (bay_at p b) c
    go true = refl
    go false = refl

or-none : (need p : ℕ) (s : Bays (List Cell) Fixed) → or_bay (high_bay need p s) no_bay ≡ high_bay need p s
or-none need p (last b) = fit-or need p b no_bay
or-none need p (more b x s) = or-or (high_bay need (x.place + fsize x) s) (fit_at need p b) no_bay ∙ ap (or_bay (high_bay need (x.place + fsize x) s)) (fit-or need p b no_bay)

-- ---- the loops

pub start-high : (need : ℕ) (z : List ℕ) (p : ℕ) → p ≤ length z → or_bay (from no_bay (high_bay need) z p) no_bay ≡ high_bay need p (bays_at z p)
start-high need z p l = ap (λ (w : BayN). or_bay w no_bay) (from_in no_bay (high_bay need) z p l) ∙ or-none need p (bays_at z p)

module _ (z : List ℕ) (p end sum tail next : ℕ) (r : Read z p end sum tail next) (need : ℕ) (best w : BayN) (l : p ≤ length z) (inv : or_bay (from no_bay (high_bay need) z p) best ≡ w) where
  high-next : or_bay (from no_bay (high_bay need) z next) (better_bay need best p end sum tail) ≡ w
  high-next =
      let e : from no_bay (high_bay need) z p ≡ or_bay (from no_bay (high_bay need) z next) (fit_at need p r.bay) = from_in no_bay (high_bay need) z p l ∙ cut_high_lem need z p next r.bay r.between.cut in
      let f : or_bay (fit_at need p r.bay) best ≡ better_bay need best p end sum tail = fit-or need p r.bay best ∙ ap₂ (λ (s : ℕ) (b : BayN). cond (leb need s) b best) (sym r.sum_is) (bay-is r) in
      ap (or_bay (from no_bay (high_bay need) z next)) (sym f) ∙ sym (or-or (from no_bay (high_bay need) z next) (fit_at need p r.bay) best) ∙ ap (λ (b : BayN). or_bay b best) (sym e) ∙ inv

  pub high-yes : need ≤ sum → or_bay (from no_bay (high_bay need) z next) (bay_n true p end sum tail) ≡ w
  high-yes m = rw (le-leb need sum m) at high-next

  pub high-no : sum < need → or_bay (from no_bay (high_bay need) z next) best ≡ w
  high-no m = rw (lt-leb need sum m) at high-next

pub high-done : (need : ℕ) (z : List ℕ) (best w : BayN) → or_bay (from no_bay (high_bay need) z (suc (length z))) best ≡ w → best ≡ w
high-done need z best w inv = sym (ap (λ (b : BayN). or_bay b best) (from_out no_bay (high_bay need) z (suc (length z)) (omega arith))) ∙ inv

-- ---- the bay of a block

module _ (z : List ℕ) (p end sum tail next : ℕ) (r : Read z p end sum tail next) (t : ℕ) (w : BayN) (inv : own_bay t p (bays_at z p) ≡ w) where
  pub own-hit : t < end → bay_n true p end sum tail ≡ w
  own-hit m = go r.bay r.between.cut r.between.end_is (bay-is r)
    where
      go : (b : List Cell) → Cut z p next b → end ≡ p + bay_size b → bay_at p b ≡ bay_n true p end sum tail → bay_n true p end sum tail ≡ w
      go b (at_end e d n) q i = sym i ∙ ap (own_bay t p) (sym e) ∙ inv
      go b (at_fixed x e q n l) q' i = sym i ∙ sym (rw (e, lt-ltb t x.place (omega arith)) at (sym inv))

  pub own-last : next ≡ suc (length z) → bay_n true p end sum tail ≡ w
  own-last m = go r.bay r.between.cut (bay-is r)
    where
      go : (b : List Cell) → Cut z p next b → bay_at p b ≡ bay_n true p end sum tail → bay_n true p end sum tail ≡ w
      go b (at_end e d n) i = sym i ∙ ap (own_bay t p) (sym e) ∙ inv
      go b (at_fixed x e q n l) i = let v : ⊥ = omega arith in absurd v

  pub own-next : next ≤ length z → end ≤ t → own_bay t next (bays_at z next) ≡ w
  own-next m k = go r.bay r.between.cut r.between.end_is
    where
      go : (b : List Cell) → Cut z p next b → end ≡ p + bay_size b → own_bay t next (bays_at z next) ≡ w
      go b (at_end e d n) q = let v : ⊥ = omega arith in absurd v
      go b (at_fixed x e q n l) q' = ap (λ (o : ℕ). own_bay t o (bays_at z next)) n ∙ (rw (e, le-ltb t x.place (omega arith)) at inv)
