-- Counting in lists: n different masters among n masters are all of them.
use mathlib.Core.Path.{◌≡◌, refl, sym, ap, ◌∙◌, subst}
use mathlib.Core.List.{List, [], ◌∷◌, ◌++◌}
use mathlib.Core.Bool.{Bool, true, false, cond}
use Prim.Native.Nat.{ℕ, zero, suc, ◌+◌, ◌*◌, ◌%◌, ◌<◌, ◌≤◌}
use native.Mathlib.Nat.{zero-add}
use native.Mathlib.Omega.{arith}
use lib.Dec.{eqb}
use borrow.Author.Tests.{eqb-true, eqb-false, eq-eqb, ne_eqb}
use lib.ListN.{length}
use Rattle.block_type.specs.Limits.{zone_header, master_size}
unfoldable pub use Rattle.format.specs.WellFormed.{offsets}
pub use Rattle.format.specs.Occurs.{one}
unfoldable pub use Rattle.format.specs.Occurs.{occurs}

abbrev pub All : (ℕ → Type 0) → List ℕ → Type 0
All P [] = Unit {0}
All P (x ∷ xs) = P x × All P xs

pub one_same : (h k : ℕ) → h ≡ k → one h k ≡ 1
one_same h k e = rw (eq-eqb h k e)

pub one-other : (h k : ℕ) → (h ≡ k → ⊥) → one h k ≡ 0
one-other h k e = rw (ne_eqb h k e)

pub one-comm : (h k : ℕ) → one h k ≡ one k h
one-comm h k = go (eqb h k) refl
  where
    go : (t : Bool) → eqb h k ≡ t → one h k ≡ one k h
    go true e = one_same h k (eqb-true h k e) ∙ sym (one_same k h (sym (eqb-true h k e)))
    go false e = one-other h k (eqb-false h k e) ∙ sym (one-other k h (λ q. eqb-false h k e (sym q)))

pub one-le : (h k : ℕ) → one h k ≤ 1
one-le h k = go (eqb h k)
  where
    go : (t : Bool) → cond t 1 0 ≤ 1
    go true = omega arith
    go false = omega arith

pub length-offsets : (k n : ℕ) → length (offsets k n) ≡ n
unfolding offsets
length-offsets k zero = refl
length-offsets k (suc n) = ap suc (length-offsets (k + master_size) n)

-- n more offsets, behind the first m
pub offsets-add : (k m n : ℕ) → offsets k (m + n) ≡ offsets k m ++ offsets (k + master_size * m) n
unfolding offsets
offsets-add k zero n = let e : k + master_size * 0 ≡ k = omega arith in rw (e, zero-add n)
offsets-add k (suc m) n = let e : k + master_size * suc m ≡ k + master_size + master_size * m = omega arith in let q : suc m + n ≡ suc (m + n) = omega arith in rw (e, q) (ap (k ∷◌) (offsets-add (k + master_size) m n))

pub occurs-below : (h k n : ℕ) → h < k → occurs h (offsets k n) ≡ 0
unfolding occurs offsets
occurs-below h k zero l = refl
occurs-below h k (suc n) l = omega (arith, one-other h k (λ e. omega arith), occurs-below h (k + master_size) n (omega arith))

pub occurs-offset : (h k n : ℕ) → k ≤ h → h < k + master_size * n → h % 4 ≡ k % 4 → occurs h (offsets k n) ≡ 1
unfolding occurs offsets
occurs-offset h k zero l u e = let q : ⊥ = omega arith in absurd q
occurs-offset h k (suc n) l u e = go (eqb h k) refl (λ ne. occurs-offset h (k + master_size) n (omega arith) (omega arith) (omega arith))
  where
    go : (t : Bool) → eqb h k ≡ t → ((h ≡ k → ⊥) → occurs h (offsets (k + master_size) n) ≡ 1) → one h k + occurs h (offsets (k + master_size) n) ≡ 1
    go true q r = let hk = eqb-true h k q in omega (arith, one_same h k hk, occurs-below h (k + master_size) n (omega arith))
    go false q r = let ne = eqb-false h k q in omega (arith, one-other h k ne, r ne)

-- ---- sums over a list

unfoldable pub sum_over : List ℕ → (ℕ → ℕ) → ℕ
sum_over [] f = 0
sum_over (m ∷ ms) f = f m + sum_over ms f

sum-add : (ms : List ℕ) (f g : ℕ → ℕ) → sum_over ms (λ h. f h + g h) ≡ sum_over ms f + sum_over ms g
unfolding sum_over
sum-add [] f g = refl
sum-add (m ∷ ms) f g = omega (arith, sum-add ms f g)

sum-zero : (ms : List ℕ) → sum_over ms (λ h. 0) ≡ 0
unfolding sum_over
sum-zero [] = refl
sum-zero (m ∷ ms) = omega (arith, sum-zero ms)

sum_one : (x : ℕ) (ms : List ℕ) → sum_over ms (λ h. one h x) ≡ occurs x ms
unfolding sum_over occurs
sum_one x [] = refl
sum_one x (m ∷ ms) = omega (arith, one-comm m x, sum_one x ms)

pub sum-occurs : (ms xs : List ℕ) → All (λ (x : ℕ). occurs x ms ≡ 1) xs → sum_over ms (λ h. occurs h xs) ≡ length xs
unfolding occurs
sum-occurs ms [] a = sum-zero ms
sum-occurs ms (x ∷ xs) a = omega (arith, sum-add ms (λ h. one h x) (λ h. occurs h xs), sum_one x ms, a.0, sum-occurs ms xs a.1)

sum-le : (ms : List ℕ) (f : ℕ → ℕ) → ((h : ℕ) → f h ≤ 1) → sum_over ms f ≤ length ms
unfolding sum_over
sum-le [] f b = omega arith
sum-le (m ∷ ms) f b = omega (arith, b m, sum-le ms f b)

pub sum-full : (ms : List ℕ) (f : ℕ → ℕ) → ((h : ℕ) → f h ≤ 1) → sum_over ms f ≡ length ms → All (λ (h : ℕ). f h ≡ 1) ms
unfolding sum_over
sum-full [] f b e = tt
sum-full (m ∷ ms) f b e = (omega (arith, b m, sum-le ms f b), sum-full ms f b (omega (arith, b m, sum-le ms f b)))

pub all-at : (P : ℕ → Type 0) (h : ℕ) (xs : List ℕ) → All P xs → 0 < occurs h xs → P h
unfolding occurs
all-at P h [] a l = let q : ⊥ = omega arith in absurd q
all-at P h (x ∷ xs) a l = go (eqb h x) refl (all-at P h xs a.1)
  where
    go : (t : Bool) → eqb h x ≡ t → (0 < occurs h xs → P h) → P h
    go true e r = subst P (sym (eqb-true h x e)) a.0
    go false e r = r (omega (arith, one-other h x (eqb-false h x e)))

-- n of n
pub cover : (n : ℕ) (xs : List ℕ) → length xs ≡ n → All (λ (x : ℕ). occurs x (offsets zone_header n) ≡ 1) xs → ((h : ℕ) → occurs h xs ≤ 1)
    → (h : ℕ) → occurs h (offsets zone_header n) ≡ 1 → occurs h xs ≡ 1
cover n xs e a b h m =
    all-at (λ k. occurs k xs ≡ 1) h (offsets zone_header n)
    (sum-full (offsets zone_header n) (λ k. occurs k xs) b (sum-occurs (offsets zone_header n) xs a ∙ e ∙ sym (length-offsets zone_header n)))
    (omega arith)

pub all_of : (P : ℕ → Type 0) (xs : List ℕ) → ((h : ℕ) → 0 < occurs h xs → P h) → All P xs
unfolding occurs
all_of P [] f = tt
all_of P (x ∷ xs) f = (f x (omega (arith, one_same x x refl)), all_of P xs (λ h l. f h (omega arith)))

pub occurs-append : (h : ℕ) (a b : List ℕ) → occurs h (a ++ b) ≡ occurs h a + occurs h b
unfolding occurs
occurs-append h [] b = omega arith
occurs-append h (x ∷ a) b = omega (arith, occurs-append h a b)

pub all_append : (P : ℕ → Type 0) (a b : List ℕ) → All P a → All P b → All P (a ++ b)
all_append P [] b p q = q
all_append P (x ∷ a) b p q = (p.0, all_append P a b p.1 q)
