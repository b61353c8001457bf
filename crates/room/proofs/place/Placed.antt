-- A new block in the place of a free block, in the bytes of a valid structure: its bytes, the chain's head, its master.
use mathlib.Core.Path.{◌≡◌, refl, ap, ◌∙◌, sym}
use mathlib.Core.List.{List, [], ◌∷◌, ◌++◌, map, append-nil}
use Prim.Native.Nat.{ℕ, suc, ◌+◌, ◌-◌, ◌≤◌}
use native.Mathlib.Omega.{arith}
use borrow.Author.Tests.{ne_eqb}
use lib.ListN.{length, length-append}
use Rattle.format.specs.Occurs.{occurs}
use Rattle.block_type.specs.Limits.{zone_header, master_size, chain_at}
use Rattle.bigendian.specs.BigEndian.{to_be, overwrite}
use Rattle.format.proofs.Count.{one_same, occurs-append}
use Rattle.kinds.specs.Kinds.{Item, item_size, masters_of}
use Rattle.bay.specs.Bay.{Cell, free, held, gap}
use Rattle.bay.specs.Sound.{Sound1, Sound}
use Rattle.bay.proofs.Laws.{bsize-gap}
use Rattle.bay.proofs.SoundLaws.{gap-sound}
use Rattle.structure.specs.Structure.{Block, cell, Structure, sizes, count, start, head_of, next_of, encode, handles_of}
use Rattle.structure.specs.Valid.{Valid}
use Rattle.structure.proofs.Round.{offset-is}
use Rattle.structure.proofs.Cells.{gap-handles}
use Rattle.slide.specs.ZoneBay.{settled}
use Rattle.settle.proofs.Any.{settle-chain, settle}
use Rattle.settle.proofs.Bay.{cells-sound}
use Rattle.settle.proofs.Cells.{all-sizes, all_sound}
use Rattle.settle.proofs.surgery.Replace.{start-same}

next_past : (k : ℕ) (hs ks : List ℕ) → occurs k hs ≡ 0 → next_of k (hs ++ ks) ≡ next_of k ks
unfolding occurs next_of
next_past k [] ks q = refl
next_past k (h ∷ hs) ks q = rw (ne_eqb k h (λ x. omega (arith, one_same k h x))) (next_past k hs ks (omega arith))

module _ (s : Structure) (v : Valid s) (h : ℕ) (ks : List ℕ) (linked : s.chain ≡ h ∷ ks) where
  in-chain : occurs h s.chain ≡ suc (occurs h ks)
  unfolding occurs
  in-chain = ap (occurs h) linked ∙ omega (arith, one_same h h refl)

  -- the chain's head is a master
  pub head-low : (zone_header ≤ h) × (h + master_size ≤ start s)
  head-low = let q = offset-is h zone_header (count s) (omega (arith, v.owned h, in-chain)) in (q.0, q.1)

module _ (s : Structure) (v : Valid s) (pre post : List Block) (n : ℕ) (e : Item) (ks : List ℕ) (parts : s.blocks ≡ pre ++ (cell (free n) ∷ post)) (linked : s.chain ≡ masters_of e ++ ks)
    (ok : Sound1 (held e)) (fits : item_size e ≤ n) where
  abbrev old : List Cell
  old = free n ∷ []

  abbrev new : List Cell
  new = held e ∷ gap (n - item_size e) []

  so : Sound new
  so = let w = cells-sound s v pre post old parts in (ok, gap-sound (n - item_size e) [] (omega (arith, w.0.1, ok.0)) (omega (arith, w.0.2)) tt)

  all : handles_of (map cell new) ≡ masters_of e
  unfolding handles_of
  all = ap (masters_of e ++◌) (gap-handles (n - item_size e)) ∙ append-nil (masters_of e)

  many : length (handles_of (map cell new)) + length ks ≡ length (handles_of (cell (free n) ∷ [])) + length s.chain
  unfolding handles_of
  many = omega (arith, ap length all, ap length linked, length-append (masters_of e) ks)

  -- the blocks begin where they did
  pub placed-start : start (record { clock = s.clock; chain = ks; blocks = pre ++ (map cell new ++ post) }) ≡ start s
  placed-start = start-same s v pre (map cell old) (map cell new) post ks parts (sym (all-sizes new) ∙ omega (arith, bsize-gap (n - item_size e) []) ∙ all-sizes old) (all_sound new so) many

  pub placed : settled (overwrite (encode s) chain_at (to_be 2 (head_of ks))) (start s + sizes pre) new ≡ encode (record { clock = s.clock; chain = ks; blocks = pre ++ (map cell new ++ post) })
  unfolding handles_of occurs
  placed =
      settle-chain s v pre post old new ks parts so (omega (arith, bsize-gap (n - item_size e) []))
      (λ k. omega (arith, ap (occurs k) all, ap (occurs k) linked, occurs-append k (masters_of e) ks))
      many
      (λ k l q. (refl, sym (ap (next_of k) linked ∙ next_past k (masters_of e) ks (sym (ap (occurs k) all) ∙ q))))

-- the same for a block without a master: the chain stays
module _ (s : Structure) (v : Valid s) (pre post : List Block) (n : ℕ) (e : Item) (none : masters_of e ≡ []) (parts : s.blocks ≡ pre ++ (cell (free n) ∷ post)) (ok : Sound1 (held e)) (fits : item_size e ≤ n) where
  linked : s.chain ≡ masters_of e ++ s.chain
  linked = ap (◌++ s.chain) (sym none)

  pub kept : settled (encode s) (start s + sizes pre) (held e ∷ gap (n - item_size e) []) ≡ encode (record { clock = s.clock; chain = s.chain; blocks = pre ++ (map cell (held e ∷ gap (n - item_size e) []) ++ post) })
  unfolding handles_of
  kept =
      settle s v pre post (free n ∷ []) (held e ∷ gap (n - item_size e) []) parts (so s v pre post n e s.chain parts linked ok fits) (omega (arith, bsize-gap (n - item_size e) []))
      (all s v pre post n e s.chain parts linked ok fits ∙ none)
