-- THE LAW of a block that becomes free, in the bytes of a valid structure: one free block is written over it and its free neighbours, no
-- other block changes, and its master, where it has one, goes to the chain's head.
use mathlib.Core.Path.{◌≡◌, refl, sym, ap, ap₂, ◌∙◌}
use mathlib.Core.Bool.{Bool, true, false, cond}
use mathlib.Core.List.{List, [], ◌∷◌, ◌++◌, append-nil}
use Prim.Native.Nat.{ℕ, ◌+◌, ◌<◌}
use native.Mathlib.Nat.{zero-add}
use native.Mathlib.Omega.{arith}
use lib.Dec.{eqb}
use borrow.Author.Tests.{eqb-true, eqb-false}
use lib.ListN.{length}
use Rattle.format.specs.Occurs.{occurs}
use Rattle.format.specs.WellFormed.{offsets}
use Rattle.block_type.specs.Limits.{zone_header, chain_at}
use Rattle.bigendian.specs.BigEndian.{to_be, overwrite}
use Rattle.format.proofs.Count.{one, one_same, one-other}
use Rattle.bay.specs.Bay.{free}
use Rattle.structure.specs.Structure.{Block, cell, Structure, sizes, count, start, len, head_of, place_of, next_of, value, encode_block, join, encode, handles_of}
use Rattle.structure.specs.Valid.{Valid}
use Rattle.structure.proofs.Round.{place_none}
use Rattle.access.specs.row.Row.{bytes_of}
use Rattle.settle.proofs.surgery.Image.{img, upd, encode-img, img-rest, img-chain, img-master}
use Rattle.settle.proofs.surgery.Sound.{handle-once}
use Rattle.settle.proofs.surgery.Replace.{occurs-parts, place_same, replaced}
use Rattle.free_block.specs.Around.{Around}
use Rattle.free_block.proofs.Parts.{amount, before, inside, after, old-parts, new-parts, inside-sizes, inside-handles, free-sound}
use Rattle.kinds.specs.Kinds.{is}

module _ (s : Structure) (v : Valid s) {bs' : List Block} {b : Block} (a : Around s.blocks bs' b) where
  abbrev new : List Block
  new = cell (free (amount s v a)) ∷ []

  -- the one free block
  abbrev x : List ℕ
  x = encode_block (cell (free (amount s v a)))

  abbrev place : ℕ
  place = start s + sizes (before s v a)

  abbrev left : List ℕ → Structure
  left ks = record { clock = s.clock; chain = ks; blocks = before s v a ++ (new ++ after s v a) }

  x-bytes : x ≡ bytes_of new
  unfolding join
  x-bytes = sym (append-nil x)

  pub same_size : sizes new ≡ sizes (inside s v a)
  unfolding sizes
  same_size = omega (arith, inside-sizes s v a)

  no-handles : handles_of new ≡ []
  unfolding handles_of
  no-handles = refl

  -- the blocks are written
  rest-written : overwrite (encode s) place x ≡ img s.clock (len s) (start s) (count s) (head_of s.chain) (value s) (overwrite (bytes_of s.blocks) (sizes (before s v a)) (bytes_of new))
  rest-written =
      ap₂ (λ (y u : List ℕ). overwrite y place u) (encode-img s) x-bytes
      ∙ img-rest s.clock (len s) (start s) (count s) (head_of s.chain) (sizes (before s v a)) place (value s) (bytes_of s.blocks) (bytes_of new) refl

  new-left : (ks : List ℕ) → encode (left ks) ≡ encode (record { clock = s.clock; chain = ks; blocks = bs' })
  new-left ks = ap (λ (bs : List Block). encode (record { clock = s.clock; chain = ks; blocks = bs })) (sym (new-parts s v a))

  -- a block without a master
  module _ (none : handles_of (b ∷ []) ≡ []) where
    no_master_case : handles_of (inside s v a) ≡ []
    no_master_case = inside-handles s v a ∙ none

    count-plain : length (handles_of new) + length s.chain ≡ length (handles_of (inside s v a)) + length s.chain
    count-plain = rw (no_master_case, no-handles)

    not_in : (k : ℕ) {hs : List ℕ} → hs ≡ [] → occurs k hs ≡ 0
    unfolding occurs
    not_in k e = rw e

    pub freed-plain : overwrite (encode s) place x ≡ encode (record { clock = s.clock; chain = s.chain; blocks = bs' })
    freed-plain =
        rest-written
        ∙ replaced s v (before s v a) (inside s v a) new (after s v a) s.chain (old-parts s v a) same_size (free-sound s v a) count-plain (value s)
        (λ k l. ap (λ (p : ℕ). p + next_of k s.chain) (sym (place_same s v (before s v a) (inside s v a) new (after s v a) s.chain (old-parts s v a) same_size (free-sound s v a) count-plain k (not_in k no_master_case) (not_in k no-handles))))
        ∙ new-left s.chain

  -- a block with master h
  module _ (h : ℕ) (its : handles_of (b ∷ []) ≡ h ∷ []) where
    master : handles_of (inside s v a) ≡ h ∷ []
    master = inside-handles s v a ∙ its

    abbrev ks : List ℕ
    ks = h ∷ s.chain

    pub count-owned : length (handles_of new) + length ks ≡ length (handles_of (inside s v a)) + length s.chain
    count-owned = rw (master, no-handles) (omega arith)

    inside-once : (k : ℕ) → occurs k (handles_of (inside s v a)) ≡ one k h + 0
    unfolding occurs
    inside-once k = rw master

    occurs-old : (k : ℕ) → occurs k (handles_of s.blocks) ≡ occurs k (handles_of (before s v a)) + (occurs k (handles_of (inside s v a)) + occurs k (handles_of (after s v a)))
    occurs-old k = ap (λ (bs : List Block). occurs k (handles_of bs)) (old-parts s v a) ∙ occurs-parts k (before s v a) (inside s v a) (after s v a)

    pub master-in : 0 < occurs h (offsets zone_header (count s))
    master-in = omega (arith, v.owned h, occurs-old h, inside-once h, one_same h h refl)

    gone : occurs h (handles_of (before s v a ++ (new ++ after s v a))) ≡ 0
    unfolding handles_of occurs
    gone = omega (arith, occurs-parts h (before s v a) new (after s v a), occurs-old h, inside-once h, one_same h h refl, handle-once s v h)

    holds : (k : ℕ) → upd (value s) h (head_of s.chain) k ≡ value (left ks) k
    unfolding next_of occurs
    holds k = go (eqb k h) refl
      where
        go : (t : Bool) → eqb k h ≡ t → cond t (head_of s.chain) (value s k) ≡ place_of (is k) (start (left ks)) (before s v a ++ (new ++ after s v a)) + cond t (head_of s.chain) (next_of k s.chain)
        go true e =
            let q : k ≡ h = eqb-true k h e in
            let p = place_none k (start (left ks)) (before s v a ++ (new ++ after s v a)) (ap (λ (j : ℕ). occurs j (handles_of (before s v a ++ (new ++ after s v a)))) q ∙ gone) in
            sym (rw p (zero-add (head_of s.chain)))
        go false e =
            let o : occurs k (handles_of (inside s v a)) ≡ 0 = omega (arith, inside-once k, one-other k h (eqb-false k h e)) in
            ap (λ (p : ℕ). p + next_of k s.chain) (sym (place_same s v (before s v a) (inside s v a) new (after s v a) ks (old-parts s v a) same_size (free-sound s v a) count-owned k o (rw no-handles)))

    pub freed-owned : overwrite (overwrite (overwrite (encode s) place x) chain_at (to_be 2 h)) h (to_be 4 (head_of s.chain)) ≡ encode (record { clock = s.clock; chain = h ∷ s.chain; blocks = bs' })
    freed-owned =
        let r = overwrite (bytes_of s.blocks) (sizes (before s v a)) (bytes_of new) in
        ap (λ (y : List ℕ). overwrite (overwrite y chain_at (to_be 2 h)) h (to_be 4 (head_of s.chain))) rest-written
        ∙ ap (λ (y : List ℕ). overwrite y h (to_be 4 (head_of s.chain))) (img-chain s.clock (len s) (start s) (count s) (head_of s.chain) h (value s) r)
        ∙ img-master s.clock (len s) (start s) (count s) h h (head_of s.chain) (value s) r master-in
        ∙ replaced s v (before s v a) (inside s v a) new (after s v a) ks (old-parts s v a) same_size (free-sound s v a) count-owned (upd (value s) h (head_of s.chain)) (λ k l. holds k)
        ∙ new-left ks
