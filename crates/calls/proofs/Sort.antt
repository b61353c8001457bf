-- A sorted list has the elements of the list; and lists that are one up to order are one list when they are sorted, where no two elements tie.
use mathlib.Core.Path.{◌≡◌, refl, sym, ap, ap₂, ◌∙◌}
use mathlib.Core.Bool.{Bool, true, false, cond, true≢false}
use mathlib.Core.List.Permᴰ
use mathlib.Core.List.{List, [], ◌∷◌, ◌++◌, map, append_assoc, Permᴰ}
use Prim.Native.Nat.{ℕ, ◌+◌, ◌≤◌}
use native.Mathlib.Omega.{arith}
use Rattle.format.specs.Occurs.{occurs}
use Rattle.format.proofs.Count.{one, one_same}
use Rattle.calls.specs.Sort.{flat, insert_by, sort_by}

-- an order: of two, one goes before the other; it goes on; those that tie have one key
pub record Order {A : Type 0} (r : A → A → Bool) (key : A → ℕ) : Type 0 where
  pub total : (x y : A) → r x y ≡ false → r y x ≡ true
  pub goes_further : (x y z : A) → r x y ≡ true → r y z ≡ true → r x z ≡ true
  pub ties : (x y : A) → r x y ≡ true → r y x ≡ true → key x ≡ key y

module _ {A : Type 0} (r : A → A → Bool) where
  insert-perm : (x : A) (xs : List A) → Permᴰ (insert_by r x xs) (x ∷ xs)
  insert-perm x [] = Permᴰ.refl (x ∷ [])
  insert-perm x (y ∷ ys) = go (r x y) (insert-perm x ys)
    where
      go : (t : Bool) → Permᴰ (insert_by r x ys) (x ∷ ys) → Permᴰ (cond t (x ∷ (y ∷ ys)) (y ∷ insert_by r x ys)) (x ∷ (y ∷ ys))
      go true p = Permᴰ.refl (x ∷ (y ∷ ys))
      go false p = Permᴰ.trans (Permᴰ.cons refl p) (Permᴰ.swap refl refl)

  pub sort-same : (xs : List A) → Permᴰ (sort_by r xs) xs
  sort-same [] = Permᴰ.nil
  sort-same (x ∷ xs) = Permᴰ.trans (insert-perm x (sort_by r xs)) (Permᴰ.cons refl (sort-same xs))

-- ---- what each element has

pub flat_append : {A B : Type 0} (f : A → List B) (a b : List A) → flat f (a ++ b) ≡ flat f a ++ flat f b
flat_append f [] b = refl
flat_append f (x ∷ a) b = ap (f x ++◌) (flat_append f a b) ∙ sym (append_assoc (f x) (flat f a) (flat f b))

front-perm : {B : Type 0} (a b c : List B) → Permᴰ (a ++ (b ++ c)) (b ++ (a ++ c))
front-perm a b c = rw (← append_assoc a b c, ← append_assoc b a c) (Permᴰ.append_right c (Permᴰ.append_comm a b))

pub flat-perm : {A B : Type 0} (f : A → List B) {a b : List A} → Permᴰ a b → Permᴰ (flat f a) (flat f b)
flat-perm f Permᴰ.nil = Permᴰ.nil
flat-perm f (Permᴰ.cons {a = x} e p) = rw (← e) (Permᴰ.append_left (f x) (flat-perm f p))
flat-perm f (Permᴰ.swap {a = x} {b = y} {l = l} e q) = rw (← e, ← q) (front-perm (f x) (f y) (flat f l))
flat-perm f (Permᴰ.trans p q) = Permᴰ.trans (flat-perm f p) (flat-perm f q)

pub perm-occurs : {A : Type 0} (key : A → ℕ) (n : ℕ) {a b : List A} → Permᴰ a b → occurs n (map key a) ≡ occurs n (map key b)
unfolding occurs
perm-occurs key n Permᴰ.nil = refl
perm-occurs key n (Permᴰ.cons e p) = ap₂ ◌+◌ (ap (λ x. one n (key x)) e) (perm-occurs key n p)
perm-occurs key n (Permᴰ.swap e q) = omega (arith, ap (λ x. one n (key x)) e, ap (λ x. one n (key x)) q)
perm-occurs key n (Permᴰ.trans p q) = perm-occurs key n p ∙ perm-occurs key n q

module _ {A : Type 0} {r : A → A → Bool} {key : A → ℕ} (o : Order r key) where
  -- two elements that do not tie may be inserted in either order
  insert-swap : (x y : A) → (r x y ≡ true → r y x ≡ true → ⊥) → (l : List A) → insert_by r x (insert_by r y l) ≡ insert_by r y (insert_by r x l)
  insert-swap x y n [] = go (r x y) (r y x) refl refl
    where
      go : (t u : Bool) → r x y ≡ t → r y x ≡ u → cond t (x ∷ (y ∷ [])) (y ∷ (x ∷ [])) ≡ cond u (y ∷ (x ∷ [])) (x ∷ (y ∷ []))
      go true true p q = absurd (n p q)
      go true false p q = refl
      go false true p q = refl
      go false false p q = absurd (true≢false (sym (o.total x y p) ∙ q))
  insert-swap x y n (z ∷ l) = go (r x z) (r y z) refl refl (insert-swap x y n l)
    where
      both : (t u : Bool) → r x y ≡ t → r y x ≡ u → r x z ≡ true → r y z ≡ true
          → cond t (x ∷ (y ∷ (z ∷ l))) (y ∷ cond (r x z) (x ∷ (z ∷ l)) (z ∷ insert_by r x l)) ≡ cond u (y ∷ (x ∷ (z ∷ l))) (x ∷ cond (r y z) (y ∷ (z ∷ l)) (z ∷ insert_by r y l))
      both true true p q a b = absurd (n p q)
      both true false p q a b = rw b
      both false true p q a b = rw a
      both false false p q a b = absurd (true≢false (sym (o.total x y p) ∙ q))

      left : (t : Bool) → r y x ≡ t → r x z ≡ true → r y z ≡ false → x ∷ (z ∷ insert_by r y l) ≡ cond t (y ∷ (x ∷ (z ∷ l))) (x ∷ cond (r y z) (y ∷ (z ∷ l)) (z ∷ insert_by r y l))
      left true p a b = absurd (true≢false (sym (o.goes_further y x z p a) ∙ b))
      left false p a b = rw b

      right : (t : Bool) → r x y ≡ t → r x z ≡ false → r y z ≡ true → cond t (x ∷ (y ∷ (z ∷ l))) (y ∷ cond (r x z) (x ∷ (z ∷ l)) (z ∷ insert_by r x l)) ≡ y ∷ (z ∷ insert_by r x l)
      right true p a b = absurd (true≢false (sym (o.goes_further x y z p b) ∙ a))
      right false p a b = rw a

      go : (t u : Bool) → r x z ≡ t → r y z ≡ u → insert_by r x (insert_by r y l) ≡ insert_by r y (insert_by r x l)
          → insert_by r x (cond u (y ∷ (z ∷ l)) (z ∷ insert_by r y l)) ≡ insert_by r y (cond t (x ∷ (z ∷ l)) (z ∷ insert_by r x l))
      go true true a b i = both (r x y) (r y x) refl refl a b
      go true false a b i = rw a (left (r y x) refl a b)
      go false true a b i = rw b (right (r x y) refl a b)
      go false false a b i = rw (a, b) (ap (z ∷◌) i)

  -- one list, up to order, is one list in order
  pub sort-perm : {a b : List A} → Permᴰ a b → ((n : ℕ) → occurs n (map key a) ≤ 1) → sort_by r a ≡ sort_by r b
  unfolding occurs
  sort-perm Permᴰ.nil f = refl
  sort-perm (Permᴰ.cons e p) f = ap₂ (insert_by r) e (sort-perm p (λ n. omega (arith, f n)))
  sort-perm (Permᴰ.swap {a = x} {b = y} {l = l} e q) f =
      rw (← e, ← q) (insert-swap _ _ (λ p u. let k = o.ties _ _ p u in omega (arith, f (key y), one_same (key y) (key y) refl, one_same (key y) (key x) (sym k))) (sort_by r l))
  sort-perm (Permᴰ.trans p q) f = sort-perm p f ∙ sort-perm q (λ n. omega (arith, f n, perm-occurs key n p))
