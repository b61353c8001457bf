-- THE LAW of a change of cells in a zone's bytes: whatever is made of a run of cells, of their handles and of the chain.
use mathlib.Core.Path.{◌≡◌, refl, sym, ap, ap₂, ◌∙◌}
use mathlib.Core.List.{List, ◌++◌, map}
use mathlib.Core.Bool.{cond}
use Prim.Native.Nat.{ℕ, zero, suc, ◌+◌, ◌<◌, ◌≤◌}
use native.Mathlib.Nat.{add-zero}
use native.Mathlib.Omega.{arith}
use lib.Dec.{eqb}
use borrow.Author.Tests.{ne_eqb}
use lib.ListN.{length}
use Rattle.format.specs.Occurs.{occurs}
use Rattle.format.specs.WellFormed.{offsets}
use Rattle.bigendian.specs.BigEndian.{to_be, overwrite}
use Rattle.block_type.specs.Limits.{zone_header, chain_at}
use Rattle.bay.specs.Bay.{Cell, bay_size}
use Rattle.bay.specs.Sound.{Sound}
use Rattle.structure.specs.Structure.{Block, Structure, sizes, count, start, len, head_of, place_of, next_of, value, encode, cell, handles_of}
use Rattle.structure.specs.Valid.{Valid}
use Rattle.structure.proofs.Round.{next-none}
use Rattle.access.specs.row.Row as Row
use Rattle.settle.specs.surgery.Masters as Masters
use Rattle.slide.specs.ZoneBay.{settled}
use Rattle.settle.proofs.surgery.Image.{img, encode-img, img-chain, img-rest, img-all, all-is, upd_all}
use Rattle.settle.proofs.surgery.Sound.{handle-once}
use Rattle.settle.proofs.surgery.Replace.{occurs-parts, place_same, place-mid, replaced}
use Rattle.settle.proofs.Cells.{all-bytes, all-sizes, all_set, all_sound}
use Rattle.kinds.specs.Kinds.{is}

-- the cells cs' in the place of cs, and the chain ks in the place of the old one; no master is lost or had twice
module _ (s : Structure) (v : Valid s) (pre post : List Block) (cs cs' : List Cell) (ks : List ℕ) (e : s.blocks ≡ pre ++ (map cell cs ++ post)) (so : Sound cs')
    (z : bay_size cs' ≡ bay_size cs)
    (own : (k : ℕ) → occurs k (handles_of (map cell cs')) + occurs k ks ≡ occurs k (handles_of (map cell cs)) + occurs k s.chain)
    (ct : length (handles_of (map cell cs')) + length ks ≡ length (handles_of (map cell cs)) + length s.chain) where
  abbrev mid : List Block
  mid = map cell cs

  abbrev mid' : List Block
  mid' = map cell cs'

  abbrev s' : Structure
  s' = record { clock = s.clock; chain = ks; blocks = pre ++ (mid' ++ post) }

  abbrev a : ℕ
  a = start s + sizes pre

  sz : sizes mid' ≡ sizes mid
  sz = sym (all-sizes cs') ∙ z ∙ all-sizes cs

  snd : Row.Sound mid'
  snd = all_sound cs' so

  once : (k : ℕ) → occurs k (handles_of pre) + occurs k (handles_of mid') + occurs k ks ≤ 1
  once k = omega (arith, handle-once s v k, ap (λ (b : List Block). occurs k (handles_of b)) e, occurs-parts k pre mid post, own k)

  inside : (k : ℕ) → 0 < occurs k (handles_of mid') → 0 < occurs k (offsets zone_header (count s))
  inside k l = omega (arith, v.owned k, ap (λ (b : List Block). occurs k (handles_of b)) e, occurs-parts k pre mid post, own k)

  -- a master that no block of the run has holds what it held
  pub value_same : (k : ℕ) → occurs k (handles_of mid) ≡ 0 → occurs k (handles_of mid') ≡ 0 → next_of k ks ≡ next_of k s.chain → value s k ≡ value s' k
  value_same k l l' n = ap₂ (λ (x y : ℕ). x + y) (sym (place_same s v pre mid mid' post ks e sz snd ct k l l')) (sym n)

  -- g: what the masters hold before the masters' pass
  module _ (g : ℕ → ℕ) (out : (k : ℕ) → 0 < occurs k (offsets zone_header (count s)) → occurs k (handles_of mid') ≡ 0 → g k ≡ value s' k) where
    holds : (k : ℕ) → 0 < occurs k (offsets zone_header (count s)) → upd_all g a mid' k ≡ value s' k
    holds k o = all-is g a k mid' (omega (arith, once k)) ∙ go (occurs k (handles_of mid')) refl
      where
        go : (n : ℕ) → occurs k (handles_of mid') ≡ n → cond (eqb n 0) (g k) (place_of (is k) a mid') ≡ value s' k
        go zero q = out k o q
        go (suc n) q =
            rw (ne_eqb (suc n) 0 (λ x. omega arith))
            (sym (ap₂ (λ (x y : ℕ). x + y) (place-mid s v pre mid mid' post ks e sz snd ct k (omega (arith, once k)) (omega arith)) (next-none k ks (omega (arith, once k))) ∙ add-zero _))

    pub settle_any : settled (img s.clock (len s) (start s) (count s) (head_of ks) g (Row.bytes_of s.blocks)) a cs' ≡ encode s'
    unfolding settled
    settle_any =
        let l = len s in let f = start s in let m = count s in let c = head_of ks in
        let r = Row.bytes_of s.blocks in
        rw (all-bytes cs', all_set a cs' (overwrite (img s.clock l f m c g r) a (Row.bytes_of mid')))
        (ap (Masters.set_all a mid') (img-rest s.clock l f m c (sizes pre) a g r (Row.bytes_of mid') refl)
        ∙ img-all s.clock l f m c a mid' g (overwrite r (sizes pre) (Row.bytes_of mid')) inside
        ∙ replaced s v pre mid mid' post ks e sz snd ct (upd_all g a mid') holds)

  -- the chain's head is written first, and no master but those of the run changes
  pub settle-chain : ((k : ℕ) → 0 < occurs k (offsets zone_header (count s)) → occurs k (handles_of mid') ≡ 0 → (occurs k (handles_of mid) ≡ 0) × (next_of k ks ≡ next_of k s.chain))
      → settled (overwrite (encode s) chain_at (to_be 2 (head_of ks))) a cs' ≡ encode s'
  settle-chain o =
      ap (λ (x : List ℕ). settled (overwrite x chain_at (to_be 2 (head_of ks))) a cs') (encode-img s)
      ∙ ap (λ (x : List ℕ). settled x a cs') (img-chain s.clock (len s) (start s) (count s) (head_of s.chain) (head_of ks) (value s) (Row.bytes_of s.blocks))
      ∙ settle_any (value s) (λ k l q. let w = o k l q in value_same k w.0 q w.1)

-- the same handles and the same chain
module _ (s : Structure) (v : Valid s) (pre post : List Block) (cs cs' : List Cell) (e : s.blocks ≡ pre ++ (map cell cs ++ post)) (so : Sound cs')
    (z : bay_size cs' ≡ bay_size cs) (hs : handles_of (map cell cs') ≡ handles_of (map cell cs)) where
  pub settle : settled (encode s) (start s + sizes pre) cs' ≡ encode (record { clock = s.clock; chain = s.chain; blocks = pre ++ (map cell cs' ++ post) })
  settle =
      let own : (k : ℕ) → occurs k (handles_of (map cell cs')) + occurs k s.chain ≡ occurs k (handles_of (map cell cs)) + occurs k s.chain = λ k. rw hs in
      let ct : length (handles_of (map cell cs')) + length s.chain ≡ length (handles_of (map cell cs)) + length s.chain = rw hs in
      ap (λ (x : List ℕ). settled x (start s + sizes pre) cs') (encode-img s)
      ∙ settle_any s v pre post cs cs' s.chain e so z own ct (value s) (λ k l q. value_same s v pre post cs cs' s.chain e so z own ct k (ap (occurs k) (sym hs) ∙ q) q refl)
