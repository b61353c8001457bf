-- The total and the largest of the bays' sums, met from bay to bay.
use mathlib.Core.Path.{◌≡◌, ap}
use mathlib.Core.List.{List}
use mathlib.Core.Bool.{cond}
use Prim.Native.Nat.{ℕ, suc, ◌+◌, ◌<◌, ◌≤◌, max}
use native.Mathlib.Omega.{arith}
use lib.Dec.{leb}
use borrow.Author.Tests.{le-leb, lt-leb}
use lib.ListN.{length}
use mir.Val.{Fits}
use mir.Syntax.{w64}
use Rattle.block_type.specs.Limits.{longest_zone}
use Rattle.calls.specs.Bays.{Bays, sum_s, max_s}
use Rattle.calls.specs.State.{Fixed}
use Rattle.bay.specs.Bay.{Cell, bay_size, bay_sum}
use Rattle.bay.proofs.Laws.{bsize-split}
use Rattle.bays.specs.Places.{bays_at}
use Rattle.bays.specs.Read.{Cut, at_end, at_fixed, Read}
use Rattle.tell.specs.Sums.{SumsFrom}

-- ---- the bays that are left

-- the number that f gives of the bays from `at` on, 0 beyond the bytes
abbrev left : (Bays (List Cell) Fixed → ℕ) → List ℕ → ℕ → ℕ
left f z at = cond (leb at (length z)) (f (bays_at z at)) 0

left_in_lem : (f : Bays (List Cell) Fixed → ℕ) (z : List ℕ) (at : ℕ) → at ≤ length z → left f z at ≡ f (bays_at z at)
left_in_lem f z at l = rw (le-leb at (length z) l)

left_out : (f : Bays (List Cell) Fixed → ℕ) (z : List ℕ) (at : ℕ) → length z < at → left f z at ≡ 0
left_out f z at l = rw (lt-leb at (length z) l)

cut_sum : (z : List ℕ) (p next : ℕ) (b : List Cell) → Cut z p next b → sum_s bay_sum (bays_at z p) ≡ bay_sum b + left (sum_s bay_sum) z next
cut_sum z p next b (at_end e d n) = omega (arith, ap (sum_s bay_sum) e, left_out (sum_s bay_sum) z next (omega arith))
cut_sum z p next b (at_fixed x e q n l) = omega (arith, ap (sum_s bay_sum) e, left_in_lem (sum_s bay_sum) z next l)

cut_most : (z : List ℕ) (p next : ℕ) (b : List Cell) → Cut z p next b → max_s bay_sum (bays_at z p) ≡ max (bay_sum b) (left (max_s bay_sum) z next)
cut_most z p next b (at_end e d n) = omega (arith, ap (max_s bay_sum) e, left_out (max_s bay_sum) z next (omega arith))
cut_most z p next b (at_fixed x e q n l) = omega (arith, ap (max_s bay_sum) e, left_in_lem (max_s bay_sum) z next l)

end-next : {z : List ℕ} {p end next : ℕ} {b : List Cell} → Cut z p next b → end ≡ p + bay_size b → end ≤ next
end-next (at_end e d n) q = omega arith
end-next (at_fixed x e d n l) q = omega arith

-- ---- what has been met, and what is left

-- total and best are those of the bays from `first` up to `at`
pub record Met (z : List ℕ) (first at total best : ℕ) : Type 0 where
  pub all : total + left (sum_s bay_sum) z at ≡ sum_s bay_sum (bays_at z first)
  pub most : max best (left (max_s bay_sum) z at) ≡ max_s bay_sum (bays_at z first)

pub met-none : (z : List ℕ) (first : ℕ) → first ≤ length z → Met z first first 0 0
met-none z first l = record { all = omega (arith, left_in_lem (sum_s bay_sum) z first l); most = omega (arith, left_in_lem (max_s bay_sum) z first l) }

module _ (z : List ℕ) (p end sum tail next : ℕ) (r : Read z p end sum tail next) where
  sum-within : p + sum ≤ end
  sum-within = omega (arith, r.between.end_is, r.sum_is, bsize-split r.bay)

  pub total-within : (total : ℕ) → total ≤ p → total + sum ≤ next
  total-within total l = omega (arith, sum-within, end-next r.between.cut r.between.end_is)

  pub total-word : (total : ℕ) → total ≤ p → length z ≤ longest_zone → Fits w64 (total + sum)
  total-word total l s = record { fits = omega (arith, sum-within, r.between.inside) }

  pub met-more : (first total best best' : ℕ) → p ≤ length z → Met z first p total best → best' ≡ max best sum → Met z first next (total + sum) best'
  met-more first total best best' l m e = record {
    all = omega (arith, m.all, left_in_lem (sum_s bay_sum) z p l, cut_sum z p next r.bay r.between.cut, r.sum_is);
    most = omega (arith, m.most, left_in_lem (max_s bay_sum) z p l, cut_most z p next r.bay r.between.cut, r.sum_is);
  }

pub met_all : (z : List ℕ) (first total best : ℕ) → Met z first (suc (length z)) total best → SumsFrom z first (record { total = total; largest = best })
met_all z first total best m =
    let at = suc (length z) in
    let l : length z < at = omega arith in
    record { total_is = omega (arith, m.all, left_out (sum_s bay_sum) z at l); largest_is = omega (arith, m.most, left_out (max_s bay_sum) z at l) }
