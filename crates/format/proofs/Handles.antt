-- The handles of blocks that obey the rules: a handle's master holds its block's offset, and no two blocks have one handle.
use mathlib.Core.Path.{◌≡◌, refl, ap}
use mathlib.Core.List.{List, [], ◌∷◌}
use mathlib.Core.Bool.{Bool, true, false, cond}
use Prim.Native.Nat.{ℕ, zero, suc, ◌+◌, ◌<◌, ◌≤◌}
use native.Mathlib.Omega.{arith}
use lib.Dec.{eqb}
use lib.ListN.{length}
use borrow.Author.Tests.{eqb-true, eqb-false}
use Rattle.block_type.specs.Limits.{reloc_header, reloc_code}
use Rattle.format.specs.Occurs.{occurs}
use Rattle.format.proofs.Bool.{and_left, and_right}
use Rattle.format.specs.WellFormed.{type_of, handle_of, is_free, is_reloc, is_master, master_at, relocs}
use Rattle.format.specs.OneWalk.{type_rule, reloc_rule, block_ok, blocks_ok}
use Rattle.format.proofs.Walk.{is-good}
use Rattle.format.proofs.Masters.{Master, is-master}
use Rattle.format.proofs.Count.{one, All, one-other, one-le, all-at}

-- the handles of the relocatable blocks, in address order
unfoldable pub handles : List (List ℕ) → List ℕ
handles [] = []
handles (b ∷ bs) = cond (is_reloc b) (handle_of b ∷ handles bs) (handles bs)

-- the bytes of some blocks
unfoldable pub total : List (List ℕ) → ℕ
total [] = 0
total (b ∷ bs) = length b + total bs

pub length-handles : (bs : List (List ℕ)) → length (handles bs) ≡ relocs bs
unfolding handles relocs
length-handles [] = refl
length-handles (b ∷ bs) = go (is_reloc b) (length-handles bs)
  where
    go : (t : Bool) → length (handles bs) ≡ relocs bs → length (cond t (handle_of b ∷ handles bs) (handles bs)) ≡ cond t 1 0 + relocs bs
    go true e = omega arith
    go false e = omega arith

-- ---- a relocatable block that obeys the rules

pub record Held (z : List ℕ) (first at h : ℕ) : Type 0 where
  pub master : Master first h
  pub holds : master_at z h ≡ at + reloc_header

pub is_held : (z : List ℕ) (first : ℕ) (prev : Bool) (at : ℕ) (b : List ℕ) → block_ok z first prev at b ≡ true → is_reloc b ≡ true → Held z first at (handle_of b)
unfolding is_reloc type_rule reloc_rule
is_held z first prev at b g r =
    let k = eqb-true (type_of b) reloc_code r in
    let q : reloc_rule z first at (handle_of b) ≡ true = rw k at (is-good z first prev at b g).rule in
    record {
      master = is-master first (handle_of b) (and_left _ (eqb (master_at z (handle_of b)) (at + reloc_header)) q);
      holds = eqb-true (master_at z (handle_of b)) (at + reloc_header) (and_right (is_master first (handle_of b)) _ q);
    }

-- ---- the handles of the blocks from offset at on

module _ (z : List ℕ) (first : ℕ) where
  -- a handle of these blocks holds an offset behind at
  pub handles-high : (prev : Bool) (at : ℕ) (bs : List (List ℕ)) → blocks_ok z first prev at bs ≡ true
      → All (λ (h : ℕ). Master first h × (at + reloc_header ≤ master_at z h)) (handles bs)
  unfolding blocks_ok handles
  handles-high prev at [] g = tt
  handles-high prev at (b ∷ bs) g =
      let g₀ = and_left (block_ok z first prev at b) _ g in
      go (is_reloc b) refl g₀ (weaken (handles bs) (handles-high (is_free b) (at + length b) bs (and_right (block_ok z first prev at b) _ g)))
    where
      weaken : (hs : List ℕ) → All (λ (h : ℕ). Master first h × (at + length b + reloc_header ≤ master_at z h)) hs → All (λ (h : ℕ). Master first h × (at + reloc_header ≤ master_at z h)) hs
      weaken [] a = tt
      weaken (h ∷ hs) a = ((a.0.0, omega (arith, a.0.1)), weaken hs a.1)

      go : (t : Bool) → is_reloc b ≡ t → block_ok z first prev at b ≡ true → All (λ (h : ℕ). Master first h × (at + reloc_header ≤ master_at z h)) (handles bs)
          → All (λ (h : ℕ). Master first h × (at + reloc_header ≤ master_at z h)) (cond t (handle_of b ∷ handles bs) (handles bs))
      go true e g₀ a = let m = is_held z first prev at b g₀ e in ((m.master, omega arith), a)
      go false e g₀ a = a

  pub handles-none : (prev : Bool) (at h : ℕ) (bs : List (List ℕ)) → blocks_ok z first prev at bs ≡ true → master_at z h < at + reloc_header → occurs h (handles bs) ≡ 0
  handles-none prev at h bs g l = zero_of (occurs h (handles bs)) (λ p. let q = all-at _ h (handles bs) (handles-high prev at bs g) p in omega (arith, q.1))
    where
      zero_of : (n : ℕ) → (0 < n → ⊥) → n ≡ 0
      zero_of zero f = refl
      zero_of (suc n) f = absurd (f (omega arith))

  -- no two blocks have one handle
  pub handles-once : (prev : Bool) (at h : ℕ) (bs : List (List ℕ)) → blocks_ok z first prev at bs ≡ true → occurs h (handles bs) ≤ 1
  unfolding blocks_ok handles occurs
  handles-once prev at h [] g = omega arith
  handles-once prev at h (b ∷ bs) g =
      let g₀ = and_left (block_ok z first prev at b) _ g in
      let g₁ = and_right (block_ok z first prev at b) _ g in
      go (is_reloc b) refl g₀ (handles-once (is_free b) (at + length b) h bs g₁) (handles-none (is_free b) (at + length b) h bs g₁)
    where
      go : (t : Bool) → is_reloc b ≡ t → block_ok z first prev at b ≡ true → occurs h (handles bs) ≤ 1
          → (master_at z h < at + length b + reloc_header → occurs h (handles bs) ≡ 0) → occurs h (cond t (handle_of b ∷ handles bs) (handles bs)) ≤ 1
      go true e g₀ i f = by (eqb h (handle_of b)) refl
        where
          by : (u : Bool) → eqb h (handle_of b) ≡ u → one h (handle_of b) + occurs h (handles bs) ≤ 1
          by true q =
              let m = is_held z first prev at b g₀ e in
              let gb = is-good z first prev at b g₀ in
              let eh = ap (master_at z) (eqb-true h (handle_of b) q) in
              omega (arith, one-le h (handle_of b), f (omega arith))
          by false q = omega (arith, one-other h (handle_of b) (eqb-false h (handle_of b) q))
      go false e g₀ i f = i
