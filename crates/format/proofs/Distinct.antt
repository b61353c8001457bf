-- Names are distinct exactly where none stands twice.
use mathlib.Core.Path.{◌≡◌, refl}
use mathlib.Core.List.{List, [], ◌∷◌}
use mathlib.Core.Bool.{Bool, true, false}
use Prim.Native.Nat.{ℕ, ◌+◌, ◌≤◌}
use native.Mathlib.Omega.{arith}
use lib.Dec.{eqb}
use borrow.Author.Tests.{eq-eqb, eqb-true, eqb-false}
use Rattle.format.specs.Occurs.{occurs}
use Rattle.format.specs.WellFormed.{distinct}
use Rattle.format.proofs.Bool.{and_left, and_right}
use Rattle.format.proofs.Count.{one, one_same, one-le, one-other}

pub once-distinct : (ns : List ℕ) → ((n : ℕ) → occurs n ns ≤ 1) → distinct ns ≡ true
unfolding distinct occurs
once-distinct [] f = refl
once-distinct (n ∷ ns) f = rw (eq-eqb (occurs n ns) 0 (omega (arith, f n, one_same n n refl))) (once-distinct ns (λ k. omega (arith, f k)))

pub distinct-once : (ns : List ℕ) → distinct ns ≡ true → (n : ℕ) → occurs n ns ≤ 1
unfolding distinct occurs
distinct-once [] d n = omega arith
distinct-once (k ∷ ns) d n = go (eqb n k) refl (distinct-once ns (and_right (eqb (occurs k ns) 0) _ d) n)
  where
    none : occurs k ns ≡ 0
    none = eqb-true (occurs k ns) 0 (and_left _ (distinct ns) d)

    go : (t : Bool) → eqb n k ≡ t → occurs n ns ≤ 1 → one n k + occurs n ns ≤ 1
    go true q i = rw (eqb-true n k q) (omega (arith, none, one-le k k))
    go false q i = omega (arith, one-other n k (eqb-false n k q))
