-- The laws of one search through trees of names: each concludes what the loop has or answers, from facts that stand there.
use mathlib.Core.Path.{◌≡◌, refl, sym, ap, ◌∙◌}
use mathlib.Core.List.{List}
use mathlib.Core.Bool.{Bool, true, false, cond, ◌&&◌, ◌||◌}
use Prim.Native.Nat.{ℕ, zero, suc, ◌+◌, ◌*◌, ◌-◌, ◌/◌, ◌%◌, ◌<◌, ◌≤◌}
use native.Mathlib.Decide.{ℕ_discrete}
use native.Mathlib.Omega.{arith}
use lib.Dec.{eqb, ltb}
use Rattle.std.proofs.lemmas.Bool.{or_right}
use borrow.Author.Tests.{eq-eqb, ne_eqb, lt-ltb}
use lib.ListN.{length, get_or}
use Rattle.block_type.specs.Limits.{argument_range}
use Rattle.names.specs.Mix.{mixed, head_of}
use Rattle.names.specs.Tree.{branches, name_bits, turned, node_at, key_at, is_at, below_of, ends, end_of, has, Links}

pub turn-law : (m : ℕ) → m / branches + m % branches * (argument_range / branches) ≡ turned m
unfolding turned
turn-law m = refl

-- ---- one step

module _ (link key : List ℕ) (heads x : ℕ) where
  pub ends-zero : (p y : ℕ) → ends link key heads x 0 p y ≡ p
  unfolding ends
  ends-zero p y = refl

  pub ends-none : (n p y : ℕ) → node_at link p ≡ 0 → ends link key heads x n p y ≡ p
  unfolding ends
  ends-none zero p y e = refl
  ends-none (suc n) p y e = rw (eq-eqb (node_at link p) 0 e)

  pub ends_same : (n p y : ℕ) → key_at link key p ≡ x → ends link key heads x n p y ≡ p
  unfolding ends
  ends_same zero p y e = refl
  ends_same (suc n) p y e = rw (or_right (eqb (node_at link p) 0) _ (eq-eqb (key_at link key p) x e))

  pub ends-go : (n p y : ℕ) → (node_at link p ≡ 0 → ⊥) → (key_at link key p ≡ x → ⊥)
      → ends link key heads x (suc n) p y ≡ ends link key heads x n (heads + node_at link p * branches + y % branches) (y / branches)
  unfolding ends
  ends-go n p y e q = rw (ne_eqb (node_at link p) 0 e, ne_eqb (key_at link key p) x q)

-- ---- the root, and the step from it

module _ (link key : List ℕ) (heads x bits root i p : ℕ) (is : i ≡ get_or link root 0) (e : p ≡ below_of key heads x bits root i) where
  pub seek-start : (m : ℕ) → m ≡ mixed x → bits ≡ turned m → root ≡ head_of heads m → ends link key heads x (name_bits - 1) p (bits / branches) ≡ end_of link key heads x
  unfolding end_of
  seek-start m em eb at = rw (← em, ← at, ← eb) (go (ℕ_discrete i 0) (ℕ_discrete (get_or key i 0) x))
    where
      go : Dec (i ≡ 0) → Dec (get_or key i 0 ≡ x) → ends link key heads x (name_bits - 1) p (bits / branches) ≡ ends link key heads x name_bits root bits
      go (yes z) k =
          let q : p ≡ root = e ∙ rw (eq-eqb i 0 z) in
          let s : node_at link root ≡ 0 = sym is ∙ z in
          rw q (ends-none link key heads x (name_bits - 1) root (bits / branches) s ∙ sym (ends-none link key heads x name_bits root bits s))
      go (no z) (yes k) =
          let q : p ≡ root = e ∙ rw (ne_eqb i 0 z, eq-eqb (get_or key i 0) x k) in
          let s : key_at link key root ≡ x = (rw is at k) in
          rw q (ends_same link key heads x (name_bits - 1) root (bits / branches) s ∙ sym (ends_same link key heads x name_bits root bits s))
      go (no z) (no k) =
          let q : p ≡ heads + i * branches + bits % branches = e ∙ rw (ne_eqb i 0 z, ne_eqb (get_or key i 0) x k) in
          rw (q, is) (sym (ends-go link key heads x (name_bits - 1) root bits (rw is at z) (rw is at k)))

  pub start-within : Links link key heads → root < heads → p < length link
  start-within l h = rw e (go (eqb i 0 || eqb (get_or key i 0) x))
    where
      go : (t : Bool) → cond t root (heads + i * branches + bits % branches) < length link
      go true = omega (arith, l.sizes)
      go false = omega (arith, l.sizes, l.within root)

-- ---- the loop

module _ (link key : List ℕ) (heads x n p y : ℕ) (inv : ends link key heads x (name_bits - n) p y ≡ end_of link key heads x) where
  pub seek-none : (i : ℕ) → i ≡ get_or link p 0 → i ≡ 0 → p ≡ end_of link key heads x
  seek-none i e q = sym (ends-none link key heads x (name_bits - n) p y (sym e ∙ q)) ∙ inv

  pub seek-same : (i : ℕ) → i ≡ get_or link p 0 → get_or key i 0 ≡ x → p ≡ end_of link key heads x
  seek-same i e q = sym (ends_same link key heads x (name_bits - n) p y (rw e at q)) ∙ inv

  pub seek-go : (i : ℕ) → n < name_bits → i ≡ get_or link p 0 → (i ≡ 0 → ⊥) → (get_or key i 0 ≡ x → ⊥)
      → ends link key heads x (name_bits - (n + 1)) (heads + i * branches + y % branches) (y / branches) ≡ end_of link key heads x
  seek-go i l e q r =
      let s : name_bits - n ≡ suc (name_bits - (n + 1)) = omega arith in
      rw e (sym (ends-go link key heads x (name_bits - (n + 1)) p y (rw e at q) (rw e at r)) ∙ ap (λ (k : ℕ). ends link key heads x k p y) (sym s) ∙ inv)

  pub seek-out : name_bits ≤ n → p ≡ end_of link key heads x
  seek-out l = let e : name_bits - n ≡ 0 = omega arith in sym (ap (λ (k : ℕ). ends link key heads x k p y) e ∙ ends-zero link key heads x p y) ∙ inv

pub link-within : (link key : List ℕ) (heads p i : ℕ) → Links link key heads → i ≡ get_or link p 0 → i < length key
link-within link key heads p i l e = rw e (l.within p)

pub place-within : (link key : List ℕ) (heads p i y : ℕ) → Links link key heads → i ≡ get_or link p 0 → heads + i * branches + y % branches < length link
place-within link key heads p i y l e = omega (arith, l.sizes, link-within link key heads p i l e)

none-of : (i : ℕ) (b r : Bool) → i ≤ 0 → (ltb 0 i && b) ≡ r → ltb 0 i ≡ r
none-of zero b r l h = h
none-of (suc i) b r l h = let q : ⊥ = omega arith in absurd q

module _ (link key : List ℕ) (heads x p i : ℕ) (e : p ≡ end_of link key heads x) (q : i ≡ get_or link p 0) where
  found-there : is_at key i x ≡ has link key heads x
  unfolding has
  found-there = rw (q, e)

  -- by the test of a node, and of its name where there is one
  pub is-in-node : 0 < i → eqb (get_or key i 0) x ≡ has link key heads x
  is-in-node l = rw (lt-ltb 0 i l) at found-there

  pub is-in-none : i ≤ 0 → ltb 0 i ≡ has link key heads x
  is-in-none l = none-of i _ _ l found-there
