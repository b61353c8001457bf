-- Masters added to a zone's bytes: the table of masters is longer by n, and the first blocks give up as many bytes.
use mathlib.Core.Path.{◌≡◌, refl, sym, ap, ap₂, ◌∙◌}
use mathlib.Core.List.{List, [], ◌++◌, map, map-append}
use mathlib.Core.Bool.{cond}
use Prim.Native.Nat.{ℕ, zero, suc, ◌+◌, ◌*◌, ◌<◌, ◌≤◌}
use native.Mathlib.Nat.{add-zero, zero-add}
use native.Mathlib.Omega.{arith}
use lib.Dec.{eqb}
use borrow.Author.Tests.{ne_eqb}
use lib.ListN.{length}
use Rattle.block_type.specs.Limits.{master_size, zone_header}
use Rattle.format.specs.Occurs.{occurs}
use Rattle.format.specs.WellFormed.{offsets}
use Rattle.format.proofs.Count.{occurs-append, occurs-below, offsets-add}
use Rattle.structure.specs.Structure.{Block, Structure, sizes, count, start, len, head_of, place_of, next_of, value, encode, handles_of}
use Rattle.structure.specs.Valid.{Valid}
use Rattle.structure.proofs.Append.{sizes-append, handles-append, place-append}
use Rattle.structure.proofs.Round.{offset-is, offset-le, next-none, place_none}
use Rattle.structure.proofs.Words.{words-values}
use Rattle.structure.proofs.ZoneLayout.{lay, lay-more, lay-same}
use Rattle.calls.specs.State.{handles_from}
use Rattle.zone.proofs.Handles.{length-handles}
use Rattle.zone.proofs.Keep.{offsets-same}
use Rattle.access.specs.row.Row.{bytes_of}
use Rattle.settle.specs.surgery.Masters.{set_all}
use Rattle.settle.proofs.surgery.Image.{img, map_same, img-same, img-all, all-is, upd_all, encode-img}
use Rattle.masters.specs.chain.Chain.{chain_bytes}
use Rattle.masters.proofs.chain.Words.{words-chain}
use Rattle.kinds.specs.Kinds.{is}

-- the blocks mid at the front become mid', the chain was empty
module _ (s : Structure) (v : Valid s) (none : s.chain ≡ []) (mid mid' post : List Block) (n : ℕ) (e : s.blocks ≡ mid ++ post)
    (sz : sizes mid' + master_size * n ≡ sizes mid) (hs : handles_of mid' ≡ handles_of mid) where
  abbrev m : ℕ
  m = count s

  -- the new masters, from where the first block was
  abbrev ks : List ℕ
  ks = handles_from (start s) n

  abbrev s' : Structure
  s' = record { clock = s.clock; chain = ks; blocks = mid' ++ post }

  abbrev at : ℕ
  at = start s + master_size * n

  handles-same : handles_of (mid' ++ post) ≡ handles_of s.blocks
  handles-same = handles-append mid' post ∙ ap (◌++ handles_of post) hs ∙ sym (ap handles_of e ∙ handles-append mid post)

  pub count-more : count s' ≡ m + n
  count-more = omega (arith, ap length handles-same, length-handles (start s) n, ap length none)

  start-more : start s' ≡ at
  start-more = omega (arith, count-more)

  len-same : len s' ≡ len s
  len-same = omega (arith, start-more, sizes-append mid' post, sizes-append mid post, ap sizes e)

  -- what the masters hold before the masters' pass: the old ones what they held, the new ones the chain
  abbrev pub before : ℕ → ℕ
  before k = value s k + next_of k ks

  all_once : (k : ℕ) → occurs k (handles_of s.blocks) ≡ occurs k (offsets zone_header m)
  unfolding occurs
  all_once k = omega (arith, v.owned k, ap (occurs k) none)

  old-links : (k : ℕ) → 0 < occurs k (offsets zone_header m) → next_of k ks ≡ 0
  old-links k o = next-none k ks (ap (occurs k) (offsets-same (start s) n) ∙ occurs-below k (start s) n (omega (arith, (offset-is k zone_header m o).1)))

  no_value : (k : ℕ) → start s ≤ k → value s k ≡ 0
  unfolding next_of
  no_value k l =
      let o : occurs k (offsets zone_header m) ≡ 0 = not_there (occurs k (offsets zone_header m)) refl in
      ap₂ ◌+◌ (place_none k (start s) s.blocks (all_once k ∙ o)) (ap (next_of k) none)
    where
      not_there : (j : ℕ) → occurs k (offsets zone_header m) ≡ j → occurs k (offsets zone_header m) ≡ 0
      not_there zero q = q
      not_there (suc j) q = let x : ⊥ = omega (arith, (offset-is k zone_header m (omega arith)).1) in absurd x

  -- ---- the table of masters

  abbrev all : List ℕ
  all = offsets zone_header (m + n)

  pub table_is : map (value s) (offsets zone_header m) ++ map (λ k. next_of k ks) (offsets (start s) n) ≡ map before all
  table_is =
      ap₂ ◌++◌
      (map_same (value s) before (offsets zone_header m) (λ h o. sym (ap (value s h +◌) (old-links h o) ∙ add-zero _)))
      (map_same (λ k. next_of k ks) before (offsets (start s) n) (λ h o. sym (ap (◌+ next_of h ks) (no_value h (offset-is h (start s) n o).0) ∙ zero-add _)))
      ∙ sym (map-append before (offsets zone_header m) (offsets (start s) n))
      ∙ ap (map before) (sym (offsets-add zone_header m n))

  -- the new masters' bytes in front of the blocks are the end of the table
  pub masters-more : (l f k c : ℕ) (r : List ℕ) → lay s.clock l f k c (map (value s) (offsets zone_header m)) (chain_bytes (start s) n ++ r) ≡ lay s.clock l f k c (map before all) r
  masters-more l f k c r =
      ap (λ (x : List ℕ). lay s.clock l f k c (map (value s) (offsets zone_header m)) (x ++ r)) (sym (words-chain (λ j. next_of j ks) (start s) n (λ g i. refl)) ∙ words-values (λ j. next_of j ks) (offsets (start s) n))
      ∙ lay-more s.clock l f k c (map (value s) (offsets zone_header m)) (map (λ j. next_of j ks) (offsets (start s) n)) r
      ∙ ap (λ (vs : List ℕ). lay s.clock l f k c vs r) table_is

  -- ---- the masters' pass

  among : (k : ℕ) → occurs k (handles_of mid') + occurs k (handles_of post) ≡ occurs k (offsets zone_header m)
  among k = omega (arith, occurs-append k (handles_of mid') (handles_of post), ap (occurs k) (handles-append mid' post), ap (occurs k) handles-same, all_once k)

  inside : (k : ℕ) → 0 < occurs k (handles_of mid') → 0 < occurs k all
  inside k l = omega (arith, among k, ap (occurs k) (offsets-add zone_header m n), occurs-append k (offsets zone_header m) (offsets (start s) n))

  -- a block behind the first ones stands where it stood
  place-behind : (k : ℕ) → occurs k (handles_of mid') ≡ 0 → place_of (is k) (start s) s.blocks ≡ place_of (is k) (start s') (mid' ++ post)
  place-behind k q =
      let o : start s + sizes mid ≡ start s' + sizes mid' = omega (arith, start-more) in
      let u : place_of (is k) (start s) (mid ++ post) ≡ place_of (is k) (start s + sizes mid) post = place-append k (start s) mid post ∙ (rw (ap (occurs k) (sym hs) ∙ q)) in
      let w : place_of (is k) (start s') (mid' ++ post) ≡ place_of (is k) (start s' + sizes mid') post = place-append k (start s') mid' post ∙ (rw q) in
      ap (place_of (is k) (start s)) e ∙ u ∙ ap (λ (i : ℕ). place_of (is k) i post) o ∙ sym w

  place-front : (k : ℕ) → 0 < occurs k (handles_of mid') → place_of (is k) (start s') (mid' ++ post) ≡ place_of (is k) at mid'
  place-front k l =
      ap (λ (o : ℕ). place_of (is k) o (mid' ++ post)) start-more
      ∙ place-append k at mid' post
      ∙ (rw (ne_eqb (occurs k (handles_of mid')) 0 (λ x. omega arith)))

  holds : (k : ℕ) → upd_all before at mid' k ≡ value s' k
  unfolding next_of
  holds k = all-is before at k mid' (omega (arith, among k, offset-le k zone_header m)) ∙ go (occurs k (handles_of mid')) refl
    where
      go : (j : ℕ) → occurs k (handles_of mid') ≡ j → cond (eqb j 0) (before k) (place_of (is k) at mid') ≡ value s' k
      go zero q = ap (◌+ next_of k ks) (ap (place_of (is k) (start s) s.blocks +◌) (ap (next_of k) none) ∙ add-zero _ ∙ place-behind k q)
      go (suc j) q =
          rw (ne_eqb (suc j) 0 (λ x. omega arith))
          (sym (ap₂ ◌+◌ (place-front k (omega arith)) (old-links k (omega (arith, among k))) ∙ add-zero _))

  pub added : set_all at mid' (img s.clock (len s) at (m + n) (head_of ks) before (bytes_of (mid' ++ post))) ≡ encode s'
  added =
      let r = bytes_of (mid' ++ post) in
      img-all s.clock (len s) at (m + n) (head_of ks) at mid' before r inside
      ∙ img-same s.clock (len s) at (m + n) (head_of ks) (upd_all before at mid') (value s') r (λ k o. holds k)
      ∙ sym (encode-img s' ∙ lay-same s.clock len-same start-more count-more refl (ap (λ (j : ℕ). map (value s') (offsets zone_header j)) count-more) refl)
