-- The walk over one bay for a new block, and the search from bay to bay.
use mathlib.Core.Path.{◌≡◌, refl, sym, ap, ap₂, ◌∙◌, subst}
use mathlib.Core.List.{List, [], ◌∷◌, ◌++◌}
use mathlib.Core.Bool.{cond}
use Prim.Native.Nat.{ℕ, suc, ◌+◌, ◌/◌, ◌<◌, ◌≤◌}
use native.Mathlib.Nat.{add-zero}
use native.Mathlib.Omega.{arith}
use lib.Dec.{eqb, leb}
use borrow.Author.Tests.{le-leb, lt-leb}
use lib.ListN.{length, drop}
use Rattle.block_type.specs.Limits.{free_code, fixed_code}
use Rattle.format.specs.WellFormed.{type_of}
use Rattle.block_check.specs.Word.{type_word, IsHeader}
use Rattle.access.specs.row.Row.{Stepped}
use Rattle.bay.specs.Bay.{Cell, bay_sum}
use Rattle.bay.proofs.Laws.{bsize-split}
use Rattle.bays.specs.Places.{bays_at}
use Rattle.bays.specs.Read.{Cut, at_end, at_fixed}
use Rattle.bays.proofs.Walk.{part-yes, part_no, PassedCells, passed_none, one_more, ends-fixed, ends-bytes, part-is, sum_more}
use Rattle.bays.proofs.Searches.{from, from_in, from_out}
use Rattle.room.specs.place.Hole.{HoleN, no_hole, hole_for, hole_if, tighter_n}
use Rattle.room.specs.place.Room.{SiteN, no_site, site_by, site_at, low_site, ReadFor}
use Rattle.room.proofs.place.Holes.{chosen_more, too_small}

-- ---- the cells that have been passed

pub record SeenFor (z : List ℕ) (p need at sum : ℕ) (b : HoleN) : Type 0 where
  pub cells : List Cell
  pub passed : PassedCells z p at cells
  pub sum_is : sum ≡ bay_sum cells
  pub is_hole : b ≡ hole_for need p cells

pub for-none : (z : List ℕ) (p need : ℕ) → SeenFor z p need p 0 no_hole
for-none z p need = record { cells = []; passed = passed_none z p; sum_is = refl; is_hole = refl }

module _ (z : List ℕ) (p need at n k w sum : ℕ) (b : HoleN) (st : Stepped z at n) (h : IsHeader z at w) (ew : k ≡ w / type_word) (sn : SeenFor z p need at sum b) where
  ek : k ≡ type_of (drop at z)
  ek = ew ∙ sym h.is_type

  for-more : (g : HoleN) (m : ℕ) → 0 < need → (k ≡ fixed_code → ⊥) → m ≡ cond (eqb k free_code) n 0 → g ≡ tighter_n b (hole_if need m at) → SeenFor z p need (at + n) (sum + m) g
  for-more g m l nk em eh =
      let o = one_more z p at n k st ek sn.cells sn.passed nk in
      let part = part-is o.c k n m o.kind o.bytes em in
      record {
        cells = sn.cells ++ o.c ∷ [];
        passed = o.passed;
        sum_is = sum_more sn.cells o.c sum m sn.sum_is part;
        is_hole = chosen_more need p sn.cells m at o.c l part sn.passed.place b g sn.is_hole eh;
      }

  -- a block that is not free has no byte of a need
  pub for-held : 0 < need → fixed_code < k → SeenFor z p need (at + n) sum b
  for-held l m =
      subst (λ (i : ℕ). SeenFor z p need (at + n) i b) (add-zero sum)
      (for-more b 0 l (λ e. omega arith) (part_no k n (λ e. omega arith)) (too_small need b 0 at l))

  pub for-free : (g : HoleN) → 0 < need → k ≤ fixed_code → (k ≡ fixed_code → ⊥) → g ≡ tighter_n b (hole_if need n at) → SeenFor z p need (at + n) (sum + n) g
  for-free g l m nk eh = let e : k ≡ free_code = omega arith in for-more g n l nk (part-yes k n e) eh

  pub for-fixed : k ≡ fixed_code → at < length z → ReadFor z p need at sum (at + n) b
  for-fixed e l = record { bay = sn.cells; between = ends-fixed z p at n k st ek sn.cells sn.passed e l; sum_is = sn.sum_is; is_hole = sn.is_hole }

pub for-end : (z : List ℕ) (p need at sum : ℕ) (b : HoleN) → SeenFor z p need at sum b → length z ≤ at → at ≤ length z → ReadFor z p need at sum (suc (length z)) b
for-end z p need at sum b sn l h =
    record { bay = sn.cells; between = ends-bytes z p at sn.cells sn.passed l h; sum_is = sn.sum_is; is_hole = sn.is_hole }

-- ---- the free block in the bay

pub sum_inside : {z : List ℕ} {p need end sum next : ℕ} {w : HoleN} → ReadFor z p need end sum next w → sum ≤ end
sum_inside r = omega (arith, r.between.end_is, r.sum_is, bsize-split r.bay)

-- ---- from bay to bay

cut-site : (need : ℕ) (z : List ℕ) (p next : ℕ) (b : List Cell) → Cut z p next b → low_site need p (bays_at z p) ≡ cond (leb need (bay_sum b)) (site_at need p b) (from no_site (low_site need) z next)
cut-site need z p next b (at_end e d n) = ap (low_site need p) e ∙ ap (cond (leb need (bay_sum b)) (site_at need p b)) (sym (from_out no_site (low_site need) z next (omega arith)))
cut-site need z p next b (at_fixed x e q n l) =
    ap (low_site need p) e
    ∙ ap (λ (o : ℕ). cond (leb need (bay_sum b)) (site_at need p b) (low_site need o (bays_at z next))) (sym n)
    ∙ ap (cond (leb need (bay_sum b)) (site_at need p b)) (sym (from_in no_site (low_site need) z next l))

pub site-start : (need : ℕ) (z : List ℕ) (p : ℕ) → p ≤ length z → from no_site (low_site need) z p ≡ low_site need p (bays_at z p)
site-start need z p l = from_in no_site (low_site need) z p l

module _ (z : List ℕ) (p need end sum next : ℕ) (b : HoleN) (r : ReadFor z p need end sum next b) (w : SiteN) (l : p ≤ length z) (inv : from no_site (low_site need) z p ≡ w) where
  here-is : site_by p end sum b ≡ site_at need p r.bay
  here-is = ap (site_by p end sum) r.is_hole ∙ ap₂ (λ (o s : ℕ). site_by p o s (hole_for need p r.bay)) r.between.end_is r.sum_is

  here : cond (leb need sum) (site_by p end sum b) (from no_site (low_site need) z next) ≡ w
  here =
      ap₂ (λ (s : ℕ) (b : SiteN). cond (leb need s) b (from no_site (low_site need) z next)) r.sum_is here-is
      ∙ sym (cut-site need z p next r.bay r.between.cut) ∙ sym (from_in no_site (low_site need) z p l) ∙ inv

  pub site-hit : need ≤ sum → (v : SiteN) → v ≡ site_by p end sum b → v ≡ w
  site-hit m v e = e ∙ (rw (le-leb need sum m) at here)

  pub site-next : sum < need → from no_site (low_site need) z next ≡ w
  site-next m = rw (lt-leb need sum m) at here

pub site-none : (need : ℕ) (z : List ℕ) (w : SiteN) → from no_site (low_site need) z (suc (length z)) ≡ w → no_site ≡ w
site-none need z w inv = sym (from_out no_site (low_site need) z (suc (length z)) (omega arith)) ∙ inv
