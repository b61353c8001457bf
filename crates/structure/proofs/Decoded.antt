-- What is decoded from blocks that obey the rules: their sizes, how many handles, where a handle's block is; and what follows a master in the chain.
use mathlib.Core.Path.{◌≡◌, refl, sym, ap, ◌∙◌}
use mathlib.Core.List.{List, [], ◌∷◌, ◌++◌, map}
use mathlib.Core.Bool.{Bool, true, false, cond, ◌&&◌}
use Prim.Native.Nat.{ℕ, zero, suc, ◌+◌}
use native.Mathlib.Nat.{zero-add}
use native.Mathlib.Omega.{arith}
use lib.Dec.{eqb}
use lib.ListN.{length, drop, length-drop}
use borrow.Author.Tests.{eqb-true, eqb-false, ne_eqb}
use Rattle.block_type.specs.Limits.{fixed_header, reloc_header, free_code, fixed_code}
use Rattle.format.specs.Occurs.{occurs}
use Rattle.format.proofs.Bool.{and_left, and_right}
use Rattle.format.specs.WellFormed.{type_of, size_of, handle_of, name_of, is_free, is_reloc, is_page, is_master, master_at, relocs, chain}
use Rattle.format.specs.OneWalk.{links, block_ok, blocks_ok}
use Rattle.format.proofs.Walk.{is-good}
use Rattle.format.proofs.Count.{one, one_same, one-other}
use Rattle.format.proofs.Handles.{handles, total, is_held}
use Rattle.kinds.specs.Kinds.{item_in, header_of, item_size, is}
use Rattle.kinds.proofs.KindLaws.{Read, is-header, read}
use Rattle.bay.specs.Bay.{free, held}
use Rattle.structure.specs.Structure.{Block, fixed, size, decode_block, by_type, sizes, head_of, place_of, next_of, cell, handles_of, names_in}

module _ (z : List ℕ) (first : ℕ) (prev : Bool) (at : ℕ) (b : List ℕ) (g : block_ok z first prev at b ≡ true) where
  -- by type
  pub by : (P : ℕ → Type 0) → (type_of b ≡ free_code → P free_code) → (type_of b ≡ fixed_code → P fixed_code) → ((k : ℕ) → type_of b ≡ suc (suc k) → Read b (item_in b) → P (suc (suc k))) → P (type_of b)
  by P a₀ a₁ a₂ = go (type_of b) refl
    where
      go : (k : ℕ) → type_of b ≡ k → P k
      go zero e = a₀ e
      go (suc zero) e = a₁ e
      go (suc (suc k)) e = a₂ k e (read z first prev at b k g e)

  pub size-dec : size (decode_block b) ≡ length b
  unfolding decode_block
  size-dec =
      let gb = is-good z first prev at b g in
      by (λ k. size (by_type k (cell (free (size_of b))) (fixed (drop fixed_header b)) (cell (held (item_in b)))) ≡ length b)
      (λ e. gb.whole) (λ e. omega (arith, gb.low, gb.whole, length-drop fixed_header b)) (λ k e x. x.size)

  pub handle-dec : (bs : List Block) → handles_of (decode_block b ∷ bs) ≡ cond (is_reloc b) (handle_of b ∷ handles_of bs) (handles_of bs)
  unfolding decode_block handles_of is_reloc
  handle-dec bs =
      by (λ k. handles_of (by_type k (cell (free (size_of b))) (fixed (drop fixed_header b)) (cell (held (item_in b))) ∷ bs) ≡ cond (is_reloc b) (handle_of b ∷ handles_of bs) (handles_of bs))
      (λ e. rw e) (λ e. rw e) (λ k e x. ap (◌++ handles_of bs) x.masters ∙ join-cond (is_reloc b))
    where
      join-cond : (t : Bool) → cond t (handle_of b ∷ []) [] ++ handles_of bs ≡ cond t (handle_of b ∷ handles_of bs) (handles_of bs)
      join-cond true = refl
      join-cond false = refl

  pub count-dec : (bs : List Block) → length (handles_of (decode_block b ∷ bs)) ≡ cond (is_reloc b) 1 0 + length (handles_of bs)
  count-dec bs = ap length (handle-dec bs) ∙ go (is_reloc b)
    where
      go : (t : Bool) → length (cond t (handle_of b ∷ handles_of bs) (handles_of bs)) ≡ cond t 1 0 + length (handles_of bs)
      go true = omega arith
      go false = omega arith

  pub names-dec : (bs : List Block) → names_in (decode_block b ∷ bs) ≡ cond (is_page b) (name_of b ∷ names_in bs) (names_in bs)
  unfolding decode_block names_in is_page
  names-dec bs =
      by (λ k. names_in (by_type k (cell (free (size_of b))) (fixed (drop fixed_header b)) (cell (held (item_in b))) ∷ bs) ≡ cond (is_page b) (name_of b ∷ names_in bs) (names_in bs))
      (λ e. rw e) (λ e. rw e) (λ k e x. ap (◌++ names_in bs) x.names ∙ join-cond (is_page b))
    where
      join-cond : (t : Bool) → cond t (name_of b ∷ []) [] ++ names_in bs ≡ cond t (name_of b ∷ names_in bs) (names_in bs)
      join-cond true = refl
      join-cond false = refl

  pub place-dec : (h o : ℕ) (bs : List Block) → place_of (is h) o (decode_block b ∷ bs) ≡ cond (is_reloc b && eqb h (handle_of b)) (o + reloc_header) (place_of (is h) (o + size (decode_block b)) bs)
  unfolding decode_block place_of is_reloc
  place-dec h o bs =
      by (λ k. place_of (is h) o (by_type k (cell (free (size_of b))) (fixed (drop fixed_header b)) (cell (held (item_in b))) ∷ bs)
      ≡ cond (is_reloc b && eqb h (handle_of b)) (o + reloc_header) (place_of (is h) (o + size (by_type k (cell (free (size_of b))) (fixed (drop fixed_header b)) (cell (held (item_in b))))) bs))
      (λ e. rw e) (λ e. rw e) (λ k e x. its (is h (item_in b)) (is-header h (item_in b)) ∙ ap (λ (t : Bool). cond t (o + reloc_header) (place_of (is h) (o + item_size (item_in b)) bs)) (x.one h))
    where
      its : (t : Bool) → (t ≡ true → header_of (item_in b) ≡ reloc_header) → cond t (o + header_of (item_in b)) (place_of (is h) (o + item_size (item_in b)) bs) ≡ cond t (o + reloc_header) (place_of (is h) (o + item_size (item_in b)) bs)
      its true f = ap (o +◌) (f refl)
      its false f = refl

module _ (z : List ℕ) (first : ℕ) where
  pub sizes-decs : (prev : Bool) (at : ℕ) (bs : List (List ℕ)) → blocks_ok z first prev at bs ≡ true → sizes (map decode_block bs) ≡ total bs
  unfolding sizes total blocks_ok
  sizes-decs prev at [] g = refl
  sizes-decs prev at (b ∷ bs) g =
      omega (arith, size-dec z first prev at b (and_left _ (blocks_ok z first (is_free b) (at + length b) bs) g), sizes-decs (is_free b) (at + length b) bs (and_right (block_ok z first prev at b) _ g))

  pub counts-decs : (prev : Bool) (at : ℕ) (bs : List (List ℕ)) → blocks_ok z first prev at bs ≡ true → length (handles_of (map decode_block bs)) ≡ relocs bs
  unfolding relocs blocks_ok handles_of
  counts-decs prev at [] g = refl
  counts-decs prev at (b ∷ bs) g =
      count-dec z first prev at b (and_left _ (blocks_ok z first (is_free b) (at + length b) bs) g) (map decode_block bs)
      ∙ ap (λ (n : ℕ). cond (is_reloc b) 1 0 + n) (counts-decs (is_free b) (at + length b) bs (and_right (block_ok z first prev at b) _ g))

  -- the place of a handle's block is what its master holds
  pub places : (prev : Bool) (at h : ℕ) (bs : List (List ℕ)) → blocks_ok z first prev at bs ≡ true
      → place_of (is h) at (map decode_block bs) ≡ cond (eqb (occurs h (handles bs)) 0) 0 (master_at z h)
  unfolding blocks_ok handles occurs place_of
  places prev at h [] g = refl
  places prev at h (b ∷ bs) g =
      let g₀ = and_left _ (blocks_ok z first (is_free b) (at + length b) bs) g in
      place-dec z first prev at b g₀ h at (map decode_block bs)
      ∙ go (is_reloc b) refl g₀ (size-dec z first prev at b g₀) (places (is_free b) (at + length b) h bs (and_right (block_ok z first prev at b) _ g))
    where
      go : (t : Bool) → is_reloc b ≡ t → block_ok z first prev at b ≡ true → size (decode_block b) ≡ length b
          → place_of (is h) (at + length b) (map decode_block bs) ≡ cond (eqb (occurs h (handles bs)) 0) 0 (master_at z h)
          → cond (t && eqb h (handle_of b)) (at + reloc_header) (place_of (is h) (at + size (decode_block b)) (map decode_block bs))
          ≡ cond (eqb (occurs h (cond t (handle_of b ∷ handles bs) (handles bs))) 0) 0 (master_at z h)
      go false e g₀ s i = rw s i
      go true e g₀ s i = same (eqb h (handle_of b)) refl
        where
          same : (u : Bool) → eqb h (handle_of b) ≡ u → cond u (at + reloc_header) (place_of (is h) (at + size (decode_block b)) (map decode_block bs)) ≡ cond (eqb (one h (handle_of b) + occurs h (handles bs)) 0) 0 (master_at z h)
          same true q =
              let eh = eqb-true h (handle_of b) q in
              let m = is_held z first prev at b g₀ e in
              rw (ne_eqb (one h (handle_of b) + occurs h (handles bs)) 0 (λ x. omega (arith, one_same h (handle_of b) eh)))
              (sym (ap (master_at z) eh ∙ m.holds))
          same false q = rw (one-other h (handle_of b) (eqb-false h (handle_of b) q), zero-add, s) i

  pub head-chain : (n h : ℕ) → links z first n h ≡ true → head_of (chain z n h) ≡ h
  unfolding links chain
  head-chain zero h p = sym (eqb-true h 0 p)
  head-chain (suc n) h p = refl

  -- what follows a master in the chain is what it holds
  pub nexts : (n k h : ℕ) → links z first n k ≡ true → next_of h (chain z n k) ≡ cond (eqb (occurs h (chain z n k)) 0) 0 (master_at z h)
  unfolding links chain next_of occurs
  nexts zero k h p = refl
  nexts (suc n) k h p =
      let p₁ = and_right (is_master first k) _ p in
      go (eqb h k) refl (head-chain n (master_at z k) p₁) (nexts n (master_at z k) h p₁)
    where
      go : (t : Bool) → eqb h k ≡ t → head_of (chain z n (master_at z k)) ≡ master_at z k
          → next_of h (chain z n (master_at z k)) ≡ cond (eqb (occurs h (chain z n (master_at z k))) 0) 0 (master_at z h)
          → cond t (head_of (chain z n (master_at z k))) (next_of h (chain z n (master_at z k)))
          ≡ cond (eqb (one h k + occurs h (chain z n (master_at z k))) 0) 0 (master_at z h)
      go true e hd i =
          let eh = eqb-true h k e in
          rw (ne_eqb (one h k + occurs h (chain z n (master_at z k))) 0 (λ x. omega (arith, one_same h k eh))) (hd ∙ sym (ap (master_at z) eh))
      go false e hd i = rw (one-other h k (eqb-false h k e), zero-add) i
