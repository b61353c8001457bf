-- Whether the larger of two numbers reaches n, by whether each does.
use mathlib.Core.Path.{◌≡◌, refl, sym, ap, ◌∙◌}
use mathlib.Core.Bool.{Bool, true, false, ◌&&◌, ◌||◌, not}
use Prim.Native.Nat.{ℕ, max}
use native.Mathlib.Omega.{arith}
use lib.Dec.{leb}
use borrow.Author.Tests.{leb-true, leb-false, le-leb, lt-leb}
use Rattle.calls.specs.Table.{below}

pub leb-max : (n a b : ℕ) → leb n a || leb n b ≡ leb n (max a b)
leb-max n a b = go (leb n a) (leb n b) refl refl
  where
    go : (t u : Bool) → leb n a ≡ t → leb n b ≡ u → t || u ≡ leb n (max a b)
    go true u p q = sym (le-leb n (max a b) (omega (arith, leb-true n a p)))
    go false true p q = sym (le-leb n (max a b) (omega (arith, leb-true n b q)))
    go false false p q = sym (lt-leb n (max a b) (omega (arith, leb-false n a p, leb-false n b q)))

-- the larger of two is below n where both are
pub below-max : (a b n : ℕ) → below (max a b) n ≡ below a n && below b n
below-max a b n = ap not (sym (leb-max n a b)) ∙ both (leb n a) (leb n b)
  where
    both : (t u : Bool) → not (t || u) ≡ not t && not u
    both true u = refl
    both false u = refl
