-- The pages that may go, each in its turn: the first goes before all others, and once it is gone the others go in the turn they had.
use mathlib.Core.Path.{◌≡◌, refl, ap, sym, ◌∙◌, subst}
use mathlib.Core.Bool.{Bool, true, false, cond, true≢false}
use mathlib.Core.List.Permᴰ
use mathlib.Core.List.{List, [], ◌∷◌, ◌++◌, map, Permᴰ}
use Prim.Native.Nat.{ℕ, ◌+◌, ◌≤◌}
use native.Mathlib.Omega.{arith}
use lib.Dec.{eqb}
use borrow.Author.Tests.{eq-eqb}
use Rattle.format.specs.Occurs.{occurs}
use Rattle.format.proofs.Count.{one_same}
use Rattle.kinds.specs.Kinds.{Key, of_handle, of_name, Item, key_named, has_name}
use Rattle.calls.specs.Sort.{insert_by, sort_by}
use Rattle.calls.specs.Pages.{Candidate, goes_before, age, key_candidate, candidates, in_turn}
use Rattle.calls.specs.Counted.{count}
use Rattle.calls.proofs.Sort.{Order, sort-same, sort-perm, perm-occurs}
use Rattle.calls.proofs.Pages.{goes, candidates-few}
use Rattle.bay.specs.Counted.{remove}

-- ---- what holds of each element

pub data All {A : Type 0} (P : A → Type 0) : List A → Type 0 where
  all_nil : All P []
  all_cons : {x : A} {l : List A} → P x → All P l → All P (x ∷ l)

pub perm-all : {A : Type 0} {P : A → Type 0} {a b : List A} → Permᴰ a b → All P a → All P b
perm-all Permᴰ.nil f = f
perm-all {P = P} (Permᴰ.cons e p) (all_cons x f) = all_cons (subst P e x) (perm-all p f)
perm-all {P = P} (Permᴰ.swap e q) (all_cons x (all_cons y f)) = all_cons (subst P q y) (all_cons (subst P e x) f)
perm-all (Permᴰ.trans p q) f = perm-all q (perm-all p f)

all-weaken : {A : Type 0} {P Q : A → Type 0} {l : List A} → ((x : A) → P x → Q x) → All P l → All Q l
all-weaken g all_nil = all_nil
all-weaken g (all_cons {x = x} p f) = all_cons (g x p) (all-weaken g f)

-- ---- a list in order

data Sorted {A : Type 0} (r : A → A → Bool) : List A → Type 0 where
  none : Sorted r []
  first : {x : A} {l : List A} → All (λ y. r x y ≡ true) l → Sorted r l → Sorted r (x ∷ l)

module _ {A : Type 0} {r : A → A → Bool} {key : A → ℕ} (o : Order r key) where
  insert_all : {P : A → Type 0} (x : A) (l : List A) → P x → All P l → All P (insert_by r x l)
  insert_all x [] p f = all_cons p f
  insert_all {P} x (y ∷ l) p (all_cons q f) = go (r x y) (insert_all x l p f)
    where
      go : (t : Bool) → All P (insert_by r x l) → All P (cond t (x ∷ (y ∷ l)) (y ∷ insert_by r x l))
      go true g = all_cons p (all_cons q f)
      go false g = all_cons q g

  insert-sorted : (x : A) {l : List A} → Sorted r l → Sorted r (insert_by r x l)
  insert-sorted x none = first all_nil none
  insert-sorted x (first {x = y} {l = l} f s) = go (r x y) refl (insert-sorted x s)
    where
      go : (t : Bool) → r x y ≡ t → Sorted r (insert_by r x l) → Sorted r (cond t (x ∷ (y ∷ l)) (y ∷ insert_by r x l))
      go true q g = first (all_cons q (all-weaken (λ z p. o.goes_further x y z q p) f)) (first f s)
      go false q g = first (insert_all x l (o.total x y q) f) g

  sort_sorted : (l : List A) → Sorted r (sort_by r l)
  sort_sorted [] = none
  sort_sorted (x ∷ l) = insert-sorted x (sort_sorted l)

  -- it stays as it is
  sorted_sort : {l : List A} → Sorted r l → sort_by r l ≡ l
  sorted_sort none = refl
  sorted_sort (first {x = x} f s) = ap (insert_by r x) (sorted_sort s) ∙ front f
    where
      front : {l : List A} → All (λ y. r x y ≡ true) l → insert_by r x l ≡ x ∷ l
      front all_nil = refl
      front (all_cons q f) = rw q

-- ---- candidates without those of a name

abbrev without : ℕ → List Candidate → List Candidate
without k [] = []
without k (x ∷ xs) = cond (eqb k x.name) (without k xs) (x ∷ without k xs)

cond-perm : {A : Type 0} (t : Bool) {a b a' b' : List A} → Permᴰ a b → Permᴰ a' b' → Permᴰ (cond t a a') (cond t b b')
cond-perm true p q = p
cond-perm false p q = q

without-swap : (t u : Bool) (x y : Candidate) (l : List Candidate) → Permᴰ (cond t (cond u l (y ∷ l)) (x ∷ cond u l (y ∷ l))) (cond u (cond t l (x ∷ l)) (y ∷ cond t l (x ∷ l)))
without-swap true true x y l = Permᴰ.refl _
without-swap true false x y l = Permᴰ.refl _
without-swap false true x y l = Permᴰ.refl _
without-swap false false x y l = Permᴰ.swap refl refl

without-perm : (k : ℕ) {a b : List Candidate} → Permᴰ a b → Permᴰ (without k a) (without k b)
without-perm k Permᴰ.nil = Permᴰ.nil
without-perm k (Permᴰ.cons {a = x} e p) = rw (← e) (cond-perm (eqb k x.name) (without-perm k p) (Permᴰ.cons refl (without-perm k p)))
without-perm k (Permᴰ.swap {a = x} {b = y} {l = l} e q) = rw (← e, ← q) (without-swap (eqb k x.name) (eqb k y.name) x y (without k l))
without-perm k (Permᴰ.trans p q) = Permᴰ.trans (without-perm k p) (without-perm k q)

without-none : (k : ℕ) (xs : List Candidate) → occurs k (map (λ (x : Candidate). x.name) xs) ≡ 0 → without k xs ≡ xs
unfolding occurs
without-none k [] q = refl
without-none k (x ∷ xs) q = go (eqb k x.name) refl q (without-none k xs)
  where
    go : (t : Bool) → eqb k x.name ≡ t → cond t 1 0 + occurs k (map (λ (x : Candidate). x.name) xs) ≡ 0 → (occurs k (map (λ (x : Candidate). x.name) xs) ≡ 0 → without k xs ≡ xs) → cond t (without k xs) (x ∷ without k xs) ≡ x ∷ xs
    go true p q f = absurd (omega arith)
    go false p q f = ap (x ∷◌) (f (omega arith))

without-removed : (ck k : ℕ) (es : List Item) → candidates ck (remove (has_name k) es) ≡ without k (candidates ck es)
without-removed ck k [] = refl
without-removed ck k (e ∷ es) = go e.key (without-removed ck k es)
  where
    go : (i : Key) → candidates ck (remove (has_name k) es) ≡ without k (candidates ck es)
        → candidates ck (cond (key_named k i) (remove (has_name k) es) (record { key = i; bytes = e.bytes } ∷ remove (has_name k) es)) ≡ without k (key_candidate ck i ++ candidates ck es)
    go (of_handle h) q = q
    go (of_name n s) q = by s.lock (eqb k n) refl
      where
        by : (t u : Bool) → eqb k n ≡ u → candidates ck (cond u (remove (has_name k) es) (record { key = of_name n (record { dirty = s.dirty; lock = t; stamp = s.stamp }); bytes = e.bytes } ∷ remove (has_name k) es))
            ≡ without k (cond t [] (record { name = n; age = age ck s; dirty = s.dirty } ∷ []) ++ candidates ck es)
        by true true p = q
        by true false p = q
        by false true p = rw p q
        by false false p = rw p (ap (record { name = n; age = age ck s; dirty = s.dirty } ∷◌) q)

-- ---- the first

module _ (ck : ℕ) (es : List Item) (f : (n : ℕ) → count (has_name n) es ≤ 1) (x : Candidate) (xs : List Candidate) (q : in_turn ck es ≡ x ∷ xs) where
  in_order_lem : Sorted goes_before (x ∷ xs)
  in_order_lem = rw q at (sort_sorted goes (candidates ck es))

  same : Permᴰ (x ∷ xs) (candidates ck es)
  same = rw q at (sort-same goes_before (candidates ck es))

  -- what holds of each candidate holds of it
  pub first_one : {P : Candidate → Type 0} → All P (candidates ck es) → P x
  first_one g = head (perm-all (Permᴰ.symm same) g)
    where
      head : {P : Candidate → Type 0} → All P (x ∷ xs) → P x
      head (all_cons p g) = p

  -- it goes before all others
  pub first_goes : All (λ (y : Candidate). goes_before x y ≡ true) (candidates ck es)
  first_goes = go in_order_lem
    where
      self : goes_before x x ≡ true
      self = pick (goes_before x x) refl
        where
          pick : (t : Bool) → goes_before x x ≡ t → t ≡ true
          pick true p = refl
          pick false p = absurd (true≢false (sym (goes.total x x p) ∙ p))

      go : Sorted goes_before (x ∷ xs) → All (λ (y : Candidate). goes_before x y ≡ true) (candidates ck es)
      go (first g s) = perm-all same (all_cons self g)

  -- and then the others go in turn
  pub others-go : in_turn ck (remove (has_name x.name) es) ≡ xs
  unfolding occurs
  others-go =
      let k : ℕ = x.name in
      let few : occurs k (map (λ (y : Candidate). y.name) (x ∷ xs)) ≤ 1 = omega (arith, perm-occurs (λ (y : Candidate). y.name) k same, candidates-few ck k es, f k) in
      let gone : without k (x ∷ xs) ≡ xs = rw (eq-eqb k k refl) (without-none k xs (omega (arith, one_same k k refl))) in
      ap (sort_by goes_before) (without-removed ck k es)
      ∙ sort-perm goes (perm-back k gone) (λ n. omega (arith, few-left n))
      ∙ back in_order_lem
    where
      back : Sorted goes_before (x ∷ xs) → sort_by goes_before xs ≡ xs
      back (first g s) = sorted_sort goes s

      perm-back : (k : ℕ) → without k (x ∷ xs) ≡ xs → Permᴰ (without k (candidates ck es)) xs
      perm-back k g = rw g at (without-perm k (Permᴰ.symm same))

      few-left : (n : ℕ) → occurs n (map (λ (y : Candidate). y.name) (without x.name (candidates ck es))) ≤ 1
      few-left n = less (candidates ck es) (omega (arith, candidates-few ck n es, f n))
        where
          less : (l : List Candidate) → occurs n (map (λ (y : Candidate). y.name) l) ≤ 1 → occurs n (map (λ (y : Candidate). y.name) (without x.name l)) ≤ 1
          less l h = omega (arith, fewer l)
            where
              fewer : (l : List Candidate) → occurs n (map (λ (y : Candidate). y.name) (without x.name l)) ≤ occurs n (map (λ (y : Candidate). y.name) l)
              fewer [] = omega arith
              fewer (y ∷ l) = pick (eqb x.name y.name) (fewer l)
                where
                  pick : (t : Bool) → occurs n (map (λ (y : Candidate). y.name) (without x.name l)) ≤ occurs n (map (λ (y : Candidate). y.name) l)
                      → occurs n (map (λ (y : Candidate). y.name) (cond t (without x.name l) (y ∷ without x.name l))) ≤ occurs n (map (λ (y : Candidate). y.name) (y ∷ l))
                  pick true h = omega arith
                  pick false h = omega arith
