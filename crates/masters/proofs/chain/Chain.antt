-- A chain of masters, written from the first one up.
use mathlib.Core.Path.{◌≡◌, refl, sym, ap, ◌∙◌}
use mathlib.Core.List.{List, ◌++◌, append-nil}
use Prim.Native.Nat.{ℕ, zero, suc, ◌+◌, ◌*◌, ◌-◌, ◌/◌, ◌%◌, ◌<◌, ◌≤◌}
use native.Mathlib.Omega.{arith}
use borrow.Author.Tests.{ne_eqb}
use lib.ListN.{length, length-append}
use Rattle.block_type.specs.Limits.{master_size}
use Rattle.bigendian.specs.BigEndian.{to_be, overwrite}
use Rattle.bigendian.proofs.Laws.{length-to_be}
use Rattle.bigendian.proofs.Overwrite.{write-none, write-more}
use Rattle.masters.specs.chain.Chain.{link_after, chain_bytes}

pub chain-long : (h k : ℕ) → length (chain_bytes h k) ≡ master_size * k
unfolding chain_bytes
chain-long h zero = refl
chain-long h (suc k) = simp (length-append, length-to_be) (omega (arith, chain-long (h + master_size) k))

-- how many masters there are from `at` up to the one at `last`
abbrev pub masters_to : ℕ → ℕ → ℕ
masters_to at last = suc ((last - at) / master_size)

pub chain-none : (z : List ℕ) (from n : ℕ) → n ≡ 0 → z ≡ overwrite z from (chain_bytes from n)
unfolding chain_bytes
chain-none z from n e = rw e (sym (write-none z from))

pub chain-start : (z : List ℕ) (from n last : ℕ) → (n ≡ 0 → ⊥) → last ≡ from + master_size * (n - 1) → overwrite z from (chain_bytes from (masters_to from last)) ≡ overwrite z from (chain_bytes from n)
chain-start z from n last f e = go n f e
  where
    go : (n : ℕ) → (n ≡ 0 → ⊥) → last ≡ from + master_size * (n - 1) → overwrite z from (chain_bytes from (masters_to from last)) ≡ overwrite z from (chain_bytes from n)
    go zero f e = absurd (f refl)
    go (suc k) f e = let q : masters_to from last ≡ suc k = omega arith in ap (λ (i : ℕ). overwrite z from (chain_bytes from i)) q

module _ (z w : List ℕ) (at last : ℕ) (inv : overwrite z at (chain_bytes at (masters_to at last)) ≡ w) where
  pub chain_next : (z' : List ℕ) → at < last → (last - at) % master_size ≡ 0 → last + master_size ≤ length z → z' ≡ overwrite z at (to_be 4 (at + master_size))
      → overwrite z' (at + master_size) (chain_bytes (at + master_size) (masters_to (at + master_size) last)) ≡ w
  unfolding chain_bytes
  chain_next z' l whole f e =
      let k = masters_to (at + master_size) last in
      let a = to_be 4 (at + master_size) in
      let b = chain_bytes (at + master_size) k in
      let q : masters_to at last ≡ suc k = omega arith in
      let la = length-to_be 4 (at + master_size) in
      let lb = chain-long (at + master_size) k in
      let link : link_after at k ≡ at + master_size = rw (ne_eqb k 0 (λ x. omega arith)) in
      ap (λ (x : List ℕ). overwrite x (at + master_size) b) e
      ∙ write-more z a b at (at + master_size) (omega arith) (omega arith)
      ∙ ap (λ (v : ℕ). overwrite z at (to_be 4 v ++ b)) (sym link)
      ∙ ap (λ (i : ℕ). overwrite z at (chain_bytes at i)) (sym q)
      ∙ inv

  pub chain-last : (z' : List ℕ) → at ≤ last → last ≤ at → z' ≡ overwrite z last (to_be 4 0) → z' ≡ w
  unfolding chain_bytes
  chain-last z' l m e =
      let q : last ≡ at = omega arith in
      let k : masters_to at last ≡ 1 = omega arith in
      e
      ∙ ap (λ (i : ℕ). overwrite z i (to_be 4 0)) q
      ∙ ap (overwrite z at) (sym (append-nil (to_be 4 0)))
      ∙ ap (λ (i : ℕ). overwrite z at (chain_bytes at i)) (sym k)
      ∙ inv
