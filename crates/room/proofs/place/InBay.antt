-- A new block in a free block of a bay, in the bytes of a valid structure: the writes may be done, and leave the bay with the block in it.
use mathlib.Core.Path.{◌≡◌, refl, sym, ap, ◌∙◌, subst}
use mathlib.Core.Bool.{true, true≢false}
use mathlib.Core.List.{List, [], ◌∷◌, ◌++◌, map, map-append, append_assoc, append-nil}
use Prim.Native.Nat.{ℕ, zero, suc, ◌+◌, ◌-◌, ◌≤◌}
use native.Mathlib.Omega.{arith}
use Rattle.block_type.specs.Limits.{master_size}
use Rattle.bigendian.specs.BigEndian.{to_be, slice, overwrite}
use Rattle.block_type.specs.Limits.{chain_at}
use Rattle.kinds.specs.Kinds.{Item, item_size, masters_of}
use Rattle.bay.specs.Bay.{Cell, free, held, bay_size, gap, Hole, fill}
use Rattle.bay.specs.Bytes.{encode_cell}
use Rattle.bay.specs.Sound.{bytes_of, Sound1}
use Rattle.structure.specs.Structure.{Block, cell, Structure, sizes, start, head_of, encode}
use Rattle.structure.specs.Valid.{Tiled, Valid}
use Rattle.slide.specs.ZoneBay.{settled}
use Rattle.settle.proofs.surgery.Sound.{tiled-right}
use Rattle.structure.proofs.Append.{sizes-append}
use Rattle.settle.proofs.Cells.{all-sizes}
use Rattle.settle.proofs.Bay.{cells-sound, part-is, zone-bay}
use Rattle.room.specs.place.Fit.{Size, Fit}
use Rattle.room.proofs.place.Placed.{head-low, placed, placed-start, kept}

-- no free block follows a free block, so nothing is merged
gap-apart : (k : ℕ) (cs : List Cell) (l : List Block) → Tiled true (map cell cs ++ l) → gap k cs ≡ gap k [] ++ cs
gap-apart zero cs l t = refl
gap-apart (suc k) [] l t = refl
gap-apart (suc k) (free n ∷ cs) l t = absurd (true≢false t.0)
gap-apart (suc k) (held e ∷ cs) l t = refl

-- cells u and v of a bay, among the blocks
pub regroup : (before after : List Block) (u v : List Cell) → before ++ (map cell (u ++ v) ++ after) ≡ (before ++ map cell u) ++ (map cell v ++ after)
regroup before after u v = rw (map-append cell u v) (simp append_assoc)

-- where the cells end
pub cells-place : (before : List Block) (u : List Cell) → sizes (before ++ map cell u) ≡ sizes before + bay_size u
cells-place before u = sizes-append before (map cell u) ∙ ap (sizes before +◌) (sym (all-sizes u))

module _ (s : Structure) (v : Valid s) (before after : List Block) (bay : List Cell) (parts : s.blocks ≡ before ++ (map cell bay ++ after))
    (x : Hole) (is : bay ≡ x.before ++ (free x.size ∷ x.after)) where
  abbrev pre : List Block
  pre = before ++ map cell x.before

  abbrev post : List Block
  post = map cell x.after ++ after

  abbrev at : ℕ
  at = start s + sizes before + bay_size x.before

  parts_are : s.blocks ≡ pre ++ (cell (free x.size) ∷ post)
  parts_are = parts ∙ ap (λ (cs : List Cell). before ++ (map cell cs ++ after)) is ∙ regroup before after x.before (free x.size ∷ x.after)

  at_is : at ≡ start s + sizes pre
  at_is = omega (arith, cells-place before x.before)

  apart : (k : ℕ) → gap k x.after ≡ gap k [] ++ x.after
  apart k = gap-apart k x.after after (tiled-right _ pre (cell (free x.size) ∷ post) (subst (Tiled _) parts_are v.tiled)).4

  -- h is any master
  pub room-fit : (h need : ℕ) → h + master_size ≤ start s → Size need → need ≤ x.size → Fit (encode s) at x.size need h
  unfolding bytes_of
  room-fit h need m z l =
      let n = x.size in
      let b = zone-bay s v pre post (free n ∷ []) parts_are in
      let w = cells-sound s v pre post (free n ∷ []) parts_are in
      let k : start s + sizes pre + (n + 0) - (start s + sizes pre) ≡ n = omega arith in
      let p : slice (encode s) (start s + sizes pre) n ≡ encode_cell (free n) ++ [] = subst (λ (k : ℕ). slice (encode s) (start s + sizes pre) k ≡ encode_cell (free n) ++ []) k (part-is s v pre post (free n ∷ []) parts_are) in
      record {
        inside = omega (arith, b.inside, at_is);
        short = b.short;
        below = omega arith;
        size = z;
        fits = l;
        four_n = w.0.1;
        bytes = rw at_is (p ∙ append-nil (encode_cell (free n)));
      }

  -- h is the chain's head
  pub fill-fit : (h : ℕ) (ks : List ℕ) → s.chain ≡ h ∷ ks → (need : ℕ) → Size need → need ≤ x.size → Fit (encode s) at x.size need h
  fill-fit h ks linked need z l = room-fit h need (head-low s v h ks linked).1 z l

  -- the seam of the blocks before, the block with the bytes behind it, and the blocks after
  seam : (e : Item) (k : ℕ) → pre ++ (map cell (held e ∷ gap k []) ++ post) ≡ before ++ (map cell (x.before ++ (held e ∷ gap k x.after)) ++ after)
  seam e k =
      ap (pre ++◌) (sym (append_assoc (map cell (held e ∷ gap k [])) (map cell x.after) after) ∙ ap (◌++ after) (sym (map-append cell (held e ∷ gap k []) x.after) ∙ ap (λ (cs : List Cell). map cell (held e ∷ cs)) (sym (apart k))))
      ∙ sym (regroup before after x.before (held e ∷ gap k x.after))

  -- a block without a master
  pub fill-kept : (e : Item) → masters_of e ≡ [] → Sound1 (held e) → item_size e ≤ x.size
      → settled (encode s) at (held e ∷ gap (x.size - item_size e) []) ≡ encode (record { clock = s.clock; chain = s.chain; blocks = before ++ (map cell (fill e x) ++ after) })
  fill-kept e none ok fits =
      let k = x.size - item_size e in
      ap (λ (o : ℕ). settled (encode s) o (held e ∷ gap k [])) at_is
      ∙ kept s v pre post x.size e none parts_are ok fits
      ∙ ap (λ (bs : List Block). encode (record { clock = s.clock; chain = s.chain; blocks = bs })) (seam e k)

  module _ (e : Item) (ks : List ℕ) (linked : s.chain ≡ masters_of e ++ ks) (ok : Sound1 (held e)) (fits : item_size e ≤ x.size) where
    pub fill-placed : settled (overwrite (encode s) chain_at (to_be 2 (head_of ks))) at (held e ∷ gap (x.size - item_size e) []) ≡ encode (record { clock = s.clock; chain = ks; blocks = before ++ (map cell (fill e x) ++ after) })
    fill-placed =
        let k = x.size - item_size e in
        ap (λ (o : ℕ). settled (overwrite (encode s) chain_at (to_be 2 (head_of ks))) o (held e ∷ gap k [])) at_is
        ∙ placed s v pre post x.size e ks parts_are linked ok fits
        ∙ ap (λ (bs : List Block). encode (record { clock = s.clock; chain = ks; blocks = bs })) (seam e k)

    pub fill_start : start (record { clock = s.clock; chain = ks; blocks = before ++ (map cell (fill e x) ++ after) }) ≡ start s
    fill_start = ap (λ (bs : List Block). start (record { clock = s.clock; chain = ks; blocks = bs })) (sym (seam e (x.size - item_size e))) ∙ placed-start s v pre post x.size e ks parts_are linked ok fits
