-- Numbers that are split between some that are looked up and a list of the rest: whether all are distinct.
use mathlib.Core.Path.{◌≡◌, refl}
use mathlib.Core.List.{List, [], ◌∷◌}
use mathlib.Core.Bool.{Bool, true, false, cond, ◌||◌}
use Prim.Native.Nat.{ℕ, ◌+◌, ◌<◌, ◌≤◌}
use native.Mathlib.Omega.{arith}
use Rattle.format.proofs.Bool.{is_false, not-both}
use Rattle.format.proofs.Count.{one_same, one-other}
use Rattle.format.proofs.Distinct.{once-distinct, distinct-once}
use Rattle.format.specs.WellFormed.{distinct}
use Rattle.format.specs.Occurs.{occurs, one}
use Rattle.names.specs.Pages.{some}

-- some number that f has occurs, or none does
pub some-occurs : (f : ℕ → Bool) (xs : List ℕ) → some f xs ≡ true → ((x : ℕ) → f x ≡ true → 0 < occurs x xs → ⊥) → ⊥
unfolding some occurs
some-occurs f [] h k = not-both h refl
some-occurs f (y ∷ ys) h k =
    go (f y) refl h (λ q. some-occurs f ys q (λ x p l. k x p (omega arith)))
  where
    go : (t : Bool) → f y ≡ t → (t || some f ys) ≡ true → (some f ys ≡ true → ⊥) → ⊥
    go true e q r = k y e (omega (arith, one_same y y refl))
    go false e q r = r q

pub none-occurs : (f : ℕ → Bool) (xs : List ℕ) → some f xs ≡ false → (x : ℕ) → f x ≡ true → occurs x xs ≡ 0
unfolding some occurs
none-occurs f [] h x p = refl
none-occurs f (y ∷ ys) h x p =
    go (f y) refl h (λ q. none-occurs f ys q x p)
  where
    go : (t : Bool) → f y ≡ t → (t || some f ys) ≡ false → (some f ys ≡ false → occurs x ys ≡ 0) → one x y + occurs x ys ≡ 0
    go true e q r = absurd (not-both refl q)
    go false e q r = omega (arith, one-other x y (λ s. not-both (rw s at p) e), r q)

-- numbers are split between those that f has, each once, and a list of the rest
module _ (f : ℕ → Bool) (all rest : List ℕ) (counts : (x : ℕ) → cond (f x) 1 0 + occurs x rest ≡ occurs x all) where
  pub split-twice : some f rest ≡ true → distinct all ≡ false
  split-twice h = is_false (distinct all) (λ d. some-occurs f rest h (λ x p l.
      let c : 1 + occurs x rest ≡ occurs x all = (rw p at (counts x)) in
      omega (arith, distinct-once all d x)))

  pub split-once : some f rest ≡ false → distinct all ≡ distinct rest
  split-once h = go (distinct rest) refl
    where
      less : (x : ℕ) → occurs x rest ≤ 1 → occurs x all ≤ 1
      less x l = by_cases (f x) refl
        where
          by_cases : (t : Bool) → f x ≡ t → occurs x all ≤ 1
          by_cases true p = let c : 1 + occurs x rest ≡ occurs x all = (rw p at (counts x)) in omega (arith, none-occurs f rest h x p)
          by_cases false p = let c : 0 + occurs x rest ≡ occurs x all = (rw p at (counts x)) in omega arith

      go : (t : Bool) → distinct rest ≡ t → distinct all ≡ t
      go true e = once-distinct all (λ x. less x (distinct-once rest e x))
      go false e = is_false (distinct all) (λ d. not-both (once-distinct rest (λ x. omega (arith, counts x, distinct-once all d x))) e)
