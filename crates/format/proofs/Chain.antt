-- The chain of free masters: its length is told by its links, its masters hold offsets below the blocks, and none stands twice.
use mathlib.Core.Path.{◌≡◌, refl, ap, subst}
use mathlib.Core.List.{List, [], ◌∷◌}
use mathlib.Core.Bool.{Bool, true, false}
use Prim.Native.Nat.{ℕ, zero, suc, ◌+◌, ◌<◌, ◌≤◌}
use native.Mathlib.Omega.{arith}
use lib.Dec.{eqb}
use lib.ListN.{length}
use borrow.Author.Tests.{eqb-true, eqb-false}
use Rattle.block_type.specs.Limits.{zone_header}
use Rattle.format.specs.Occurs.{occurs}
use Rattle.format.proofs.Bool.{and_left, and_right}
use Rattle.format.specs.WellFormed.{is_master, master_at}
use Rattle.format.specs.OneWalk.{links}
unfoldable pub use Rattle.format.specs.WellFormed.{chain}
use Rattle.format.proofs.Masters.{Master, is-master}
use Rattle.format.proofs.Count.{one, All, one-other, one-le, all-at}

pub length-chain : (z : List ℕ) (n h : ℕ) → length (chain z n h) ≡ n
unfolding chain
length-chain z zero h = refl
length-chain z (suc n) h = ap suc (length-chain z n (master_at z h))

module _ (z : List ℕ) (first : ℕ) where
  pub links-unique : (n k h : ℕ) → links z first n h ≡ true → links z first k h ≡ true → n ≡ k
  unfolding links
  links-unique zero zero h p q = refl
  links-unique zero (suc k) h p q = let e = eqb-true h 0 p in let m = is-master first h (and_left _ (links z first k (master_at z h)) q) in let x : ⊥ = omega arith in absurd x
  links-unique (suc n) zero h p q = let e = eqb-true h 0 q in let m = is-master first h (and_left _ (links z first n (master_at z h)) p) in let x : ⊥ = omega arith in absurd x
  links-unique (suc n) (suc k) h p q = ap suc (links-unique n k (master_at z h) (and_right (is_master first h) _ p) (and_right (is_master first h) _ q))

  -- what the rest of the chain may start with: 0 or a master, below the blocks
  links-low : (n h : ℕ) → zone_header ≤ first → links z first n h ≡ true → h < first
  unfolding links
  links-low zero h l p = omega (arith, eqb-true h 0 p)
  links-low (suc n) h l p = let m = is-master first h (and_left _ (links z first n (master_at z h)) p) in omega arith

  pub chain-low : (n h : ℕ) → zone_header ≤ first → links z first n h ≡ true → All (λ (k : ℕ). Master first k × (master_at z k < first)) (chain z n h)
  unfolding links chain
  chain-low zero h l p = tt
  chain-low (suc n) h l p =
      let p₁ = and_right (is_master first h) _ p in
      ((is-master first h (and_left _ (links z first n (master_at z h)) p), links-low n (master_at z h) l p₁), chain-low n (master_at z h) l p₁)

  -- each master of the chain starts a rest of it that is shorter than the whole
  chain-rest : (n h : ℕ) → links z first n h ≡ true → All (λ (k : ℕ). (i : ℕ) × (i < n) × (links z first (suc i) k ≡ true)) (chain z n h)
  unfolding links chain
  chain-rest zero h p = tt
  chain-rest (suc n) h p = ((n, omega arith, p), weaken (chain z n (master_at z h)) (chain-rest n (master_at z h) (and_right (is_master first h) _ p)))
    where
      weaken : (ks : List ℕ) → All (λ (k : ℕ). (i : ℕ) × (i < n) × (links z first (suc i) k ≡ true)) ks → All (λ (k : ℕ). (i : ℕ) × (i < suc n) × (links z first (suc i) k ≡ true)) ks
      weaken [] a = tt
      weaken (k ∷ ks) a = ((a.0.0, omega (arith, a.0.1), a.0.2), weaken ks a.1)

  pub chain-once : (n h k : ℕ) → links z first n h ≡ true → occurs k (chain z n h) ≤ 1
  unfolding links chain occurs
  chain-once zero h k p = omega arith
  chain-once (suc n) h k p =
      let p₁ = and_right (is_master first h) _ p in
      go (eqb k h) refl (chain-once n (master_at z h) k p₁) (λ l. all-at _ k (chain z n (master_at z h)) (chain-rest n (master_at z h) p₁) l)
    where
      go : (t : Bool) → eqb k h ≡ t → occurs k (chain z n (master_at z h)) ≤ 1
          → (0 < occurs k (chain z n (master_at z h)) → (i : ℕ) × (i < n) × (links z first (suc i) k ≡ true))
          → one k h + occurs k (chain z n (master_at z h)) ≤ 1
      go true e i f = no (occurs k (chain z n (master_at z h))) (λ l. let r = f l in
          let u = links-unique (suc r.0) (suc n) h (subst (λ (x : ℕ). links z first (suc r.0) x ≡ true) (eqb-true k h e) r.2) p in omega (arith, r.1))
        where
          no : (x : ℕ) → (0 < x → ⊥) → one k h + x ≤ 1
          no zero g = omega (arith, one-le k h)
          no (suc x) g = absurd (g (omega arith))
      go false e i f = omega (arith, one-other k h (eqb-false k h e))
