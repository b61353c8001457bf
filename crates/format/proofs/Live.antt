-- What well-formedness says of masters: each is in the chain or is the handle of one relocatable block, and which it is shows in its value.
use mathlib.Core.Path.{◌≡◌, refl, sym, ◌∙◌}
use mathlib.Core.List.{List, [], ◌∷◌, ◌++◌}
use mathlib.Core.Bool.{true, false, ◌&&◌}
use Prim.Native.Nat.{ℕ, zero, suc, ◌+◌, ◌*◌, ◌-◌, ◌<◌, ◌≤◌}
use native.Mathlib.Omega.{arith}
use lib.Dec.{leb}
use borrow.Author.Tests.{leb-true}
use lib.ListN.{drop, length-append}
use Rattle.format.specs.Occurs.{occurs}
use Rattle.block_type.specs.Limits.{master_size, zone_header, reloc_header}
use Rattle.format.proofs.Bool.{and_left, and_right}
use Rattle.format.specs.WellFormed.{split_blocks, master_at, relocs, offsets, names, distinct}
use Rattle.format.specs.OneWalk.{links, blocks_ok, body_ok}
use Rattle.format.specs.WellFormed.{chain}
use Rattle.format.proofs.Masters.{Master}
use Rattle.format.proofs.Count.{All, occurs-offset, cover, occurs-append, all_append, all-at}
use Rattle.format.proofs.Handles.{handles, length-handles, handles-high, handles-once}
use Rattle.format.proofs.Chain.{length-chain, chain-low, chain-once}

-- what the test of the body says
pub record Parts (z : List ℕ) (first m head : ℕ) : Type 0 where
  pub walk : blocks_ok z first false first (split_blocks (drop first z)) ≡ true
  pub few : relocs (split_blocks (drop first z)) ≤ m
  pub ends : links z first (m - relocs (split_blocks (drop first z))) head ≡ true
  pub apart : distinct (names (split_blocks (drop first z))) ≡ true

pub body-parts : (z : List ℕ) (first m head : ℕ) → body_ok z first m head ≡ true → Parts z first m head
unfolding body_ok
body-parts z first m head h =
    let r = relocs (split_blocks (drop first z)) in
    let d = distinct (names (split_blocks (drop first z))) in
    let h₁ = and_right (blocks_ok z first false first (split_blocks (drop first z))) _ h in
    let h₂ = and_right (leb r m) _ h₁ in
    record {
      walk = and_left _ (leb r m && (links z first (m - r) head && d)) h;
      few = leb-true r m (and_left _ (links z first (m - r) head && d) h₁);
      ends = and_left _ d h₂;
      apart = and_right (links z first (m - r) head) _ h₂;
    }

module _ (z : List ℕ) (first m head : ℕ) (start : first ≡ zone_header + master_size * m) (w : Parts z first m head) where
  abbrev bs : List (List ℕ)
  bs = split_blocks (drop first z)

  abbrev ch : List ℕ
  ch = chain z (m - relocs bs) head

  pub offset-once : (h : ℕ) → Master first h → occurs h (offsets zone_header m) ≡ 1
  offset-once h q = occurs-offset h zone_header m q.low (omega (arith, q.fits)) q.four

  only : (P : ℕ → Type 0) (xs : List ℕ) → All (λ (h : ℕ). Master first h × P h) xs → All (λ (h : ℕ). occurs h (offsets zone_header m) ≡ 1) xs
  only P [] a = tt
  only P (x ∷ xs) a = (offset-once x a.0.0, only P xs a.1)

  -- a master in the chain holds no block's offset, and a handle's master does
  pub chain-not-live : (h : ℕ) → 0 < occurs h ch → master_at z h < first
  chain-not-live h l = (all-at _ h ch (chain-low z first (m - relocs bs) head (omega arith) w.ends) l).1

  pub live-high : (h : ℕ) → 0 < occurs h (handles bs) → first + reloc_header ≤ master_at z h
  live-high h l = (all-at _ h (handles bs) (handles-high z first false first bs w.walk) l).1

  pub disjoint : (h : ℕ) → 0 < occurs h (handles bs) → 0 < occurs h ch → ⊥
  disjoint h a b = omega (arith, chain-not-live h b, live-high h a)

  once : (h : ℕ) → occurs h (handles bs ++ ch) ≤ 1
  once h = go (occurs h (handles bs)) (occurs h ch) refl refl
    where
      go : (a b : ℕ) → occurs h (handles bs) ≡ a → occurs h ch ≡ b → occurs h (handles bs ++ ch) ≤ 1
      go zero b p q = omega (arith, occurs-append h (handles bs) ch, chain-once z first (m - relocs bs) head h w.ends)
      go (suc a) zero p q = omega (arith, occurs-append h (handles bs) ch, handles-once z first false first h bs w.walk)
      go (suc a) (suc b) p q = absurd (disjoint h (omega arith) (omega arith))

  -- every master is in the chain or is one block's handle
  pub owned : (h : ℕ) → Master first h → occurs h (handles bs) + occurs h ch ≡ 1
  owned h q = sym (occurs-append h (handles bs) ch)
      ∙ cover m (handles bs ++ ch)
      (omega (arith, length-append (handles bs) ch, length-handles bs, length-chain z (m - relocs bs) head, w.few))
      (all_append _ (handles bs) ch (only _ (handles bs) (handles-high z first false first bs w.walk)) (only _ ch (chain-low z first (m - relocs bs) head (omega arith) w.ends)))
      once h (offset-once h q)

  -- a handle is live exactly when its master's value is at least first
  pub live_of : (h : ℕ) → Master first h → first ≤ master_at z h → 0 < occurs h (handles bs)
  live_of h q l = go (occurs h ch) refl
    where
      go : (b : ℕ) → occurs h ch ≡ b → 0 < occurs h (handles bs)
      go zero e = omega (arith, owned h q)
      go (suc b) e = let x : ⊥ = omega (arith, chain-not-live h (omega arith)) in absurd x
