-- What the number that the order picks says of the causes.
use mathlib.Core.Path.{◌≡◌, refl, ap, sym, ◌∙◌}
use mathlib.Core.Bool.{Bool, true, false, cond, ◌||◌, false≢true, true≢false}
use mathlib.Core.List.{List, [], ◌∷◌}
use Prim.Native.Nat.{ℕ, suc}
use native.Mathlib.Omega.{arith}
use lib.Dec.{eqb}
use borrow.Author.Tests.{eqb-true}
use Rattle.calls.specs.Table.{Cause, holds_in, first, order}

-- n is one of the numbers
abbrev pub among : ℕ → List ℕ → Bool
among n [] = false
among n (k ∷ ks) = eqb n k || among n ks

-- none of the numbers is 0
abbrev pub positive : List ℕ → Bool
positive [] = true
positive (k ∷ ks) = cond (eqb k 0) false (positive ks)

module _ (cs : List Cause) where
  -- where nothing is picked, no cause of a number in the order holds
  none_of : (ns : List ℕ) → positive ns ≡ true → first ns cs ≡ 0 → (n : ℕ) → among n ns ≡ true → holds_in n cs ≡ false
  none_of [] p e n m = absurd (false≢true m)
  none_of (k ∷ ks) p e n m = go (eqb k 0) (holds_in k cs) (eqb n k) refl refl refl p e m (λ q f i. none_of ks q f n i)
    where
      go : (u t v : Bool) → eqb k 0 ≡ u → holds_in k cs ≡ t → eqb n k ≡ v → cond u false (positive ks) ≡ true → cond t k (first ks cs) ≡ 0 → v || among n ks ≡ true
          → (positive ks ≡ true → first ks cs ≡ 0 → among n ks ≡ true → holds_in n cs ≡ false) → holds_in n cs ≡ false
      go true t v a b c p e m r = absurd (false≢true p)
      go false true v a b c p e m r = absurd (false≢true (sym a ∙ (rw e)))
      go false false true a b c p e m r = ap (λ (i : ℕ). holds_in i cs) (eqb-true n k c) ∙ b
      go false false false a b c p e m r = r p e m

  pub clear : (n : ℕ) → among n order ≡ true → first order cs ≡ 0 → holds_in n cs ≡ false
  clear n m e = none_of order refl e n m

  -- what is picked holds, or is 0
  pub picked : (ns : List ℕ) (n : ℕ) → first ns cs ≡ suc n → holds_in (suc n) cs ≡ true
  picked [] n e = absurd (omega arith)
  picked (k ∷ ks) n e = go (holds_in k cs) refl e (λ q. picked ks n q)
    where
      go : (t : Bool) → holds_in k cs ≡ t → cond t k (first ks cs) ≡ suc n → (first ks cs ≡ suc n → holds_in (suc n) cs ≡ true) → holds_in (suc n) cs ≡ true
      go true b e r = ap (λ (i : ℕ). holds_in i cs) (sym e) ∙ b
      go false b e r = r e

pub or_left : (a b : Bool) → a || b ≡ false → a ≡ false
or_left true b e = absurd (true≢false e)
or_left false b e = refl

pub or_right : (a b : Bool) → a || b ≡ false → b ≡ false
or_right true b e = absurd (true≢false e)
or_right false b e = e
