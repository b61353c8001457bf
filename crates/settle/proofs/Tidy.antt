-- A structure in which a run of cells between blocks that are not free has been compacted is a valid one.
use mathlib.Core.Path.{◌≡◌, refl, sym, ap, ◌∙◌, subst}
use mathlib.Core.Bool.{Bool, true, false}
use mathlib.Core.List.{List, [], ◌∷◌, ◌++◌, map}
use Prim.Native.Nat.{ℕ, zero, suc, ◌%◌, ◌≤◌}
use native.Mathlib.Omega.{arith}
use Rattle.block_type.specs.Limits.{longest_zone}
use Rattle.bay.specs.Bay.{Cell, free, held, bay_size, bay_sum, items, gap, packed, compact_bay}
use Rattle.bay.proofs.Laws.{bsize-split, tidy-size}
use Rattle.bay.proofs.SoundLaws.{sum-four, compact-sound}
use Rattle.structure.specs.Structure.{Block, fixed, Structure, sizes, start, cell}
use Rattle.structure.specs.Valid.{Tiled, Valid}
use Rattle.calls.specs.Bays.{Bays}
use Rattle.calls.specs.State.{Fixed}
use Rattle.zone.specs.Group.{flatten}
use Rattle.bays.specs.At.{At, at_last, at_here, at_later}
use Rattle.bays.proofs.At.{at_old}
use Rattle.settle.proofs.surgery.Sound.{last_free, first_free, tiled-left, tiled-right, tiled-join, tiled-any}
use Rattle.settle.proofs.surgery.Replace.{sizes-parts, moved-valid, start-same}
use Rattle.settle.proofs.Cells.{all-sizes, all_sound}
use Rattle.settle.proofs.Bay.{cells-sound}
use Rattle.settle.proofs.Compact.{compact-handles, compact-names}

gap-tiled : (n : ℕ) → n % 4 ≡ 0 → n ≤ longest_zone → Tiled false (map cell (gap n []))
gap-tiled zero q l = tt
gap-tiled (suc n) q l = (refl, omega arith, q, l, tt)

packed-tiled : (p : Bool) (cs t : List Cell) → Tiled p (map cell cs) → Tiled false (map cell t) → Tiled false (map cell (packed (items cs) t))
packed-tiled p [] t x y = y
packed-tiled p (free n ∷ cs) t x y = packed-tiled true cs t x.4 y
packed-tiled p (held e ∷ cs) t x y = (x.0, x.1, x.2, packed-tiled false cs t x.3 y)

module _ (s : Structure) (v : Valid s) (pre post : List Block) (cs : List Cell) (e : s.blocks ≡ pre ++ (map cell cs ++ post)) where
  short : bay_size cs ≤ longest_zone
  short = omega (arith, v.short, ap sizes e, sizes-parts pre (map cell cs) post, all-sizes cs)

  sz : sizes (map cell (compact_bay cs)) ≡ sizes (map cell cs)
  sz = sym (all-sizes (compact_bay cs)) ∙ tidy-size cs ∙ all-sizes cs

  pub compact-start : start (record { clock = s.clock; chain = s.chain; blocks = pre ++ (map cell (compact_bay cs) ++ post) }) ≡ start s
  compact-start =
      start-same s v pre (map cell cs) (map cell (compact_bay cs)) post s.chain e sz (all_sound (compact_bay cs) (compact-sound cs short (cells-sound s v pre post cs e)))
      (rw (compact-handles cs))

  pub compact-valid : last_free false pre ≡ false → first_free post ≡ false → Valid (record { clock = s.clock; chain = s.chain; blocks = pre ++ (map cell (compact_bay cs) ++ post) })
  compact-valid l r =
      let t : Tiled false (pre ++ (map cell cs ++ post)) = subst (Tiled false) e v.tiled in
      let u = tiled-right false pre (map cell cs ++ post) t in
      let so = cells-sound s v pre post cs e in
      moved-valid s v pre (map cell cs) (map cell (compact_bay cs)) post s.chain e sz (all_sound (compact_bay cs) (compact-sound cs short so)) (compact-handles cs) refl
      (tiled-join false pre (map cell (compact_bay cs) ++ post) (tiled-left false pre (map cell cs ++ post) t)
      (rw l (tiled-join false (map cell (compact_bay cs)) post
      (packed-tiled _ cs (gap (bay_sum cs) []) (tiled-left _ (map cell cs) post u) (gap-tiled (bay_sum cs) (sum-four cs so) (omega (arith, bsize-split cs, short))))
      (tiled-any _ _ post r (tiled-right _ (map cell cs) post u)))))
      (λ n. rw (compact-names cs) (omega arith))

-- ---- of a bay among bays: it ends at a fixed block, or where the blocks end

last-behind : (p : Bool) (l : List Block) (d : List ℕ) (r : List Block) → last_free p (l ++ (fixed d ∷ r)) ≡ last_free false r
last-behind p [] d r = refl
last-behind p (b ∷ l) d r = last-behind _ l d r

module _ {f : List Cell → List Cell} where
  at_left : {u u' : Bays (List Cell) Fixed} {pre : List Block} {b : List Cell} {post : List Block} → At f u u' pre b post → last_free false pre ≡ false
  at_left at_last = refl
  at_left at_here = refl
  at_left (at_later {c = c} {x = x} {pre = pre} a) = last-behind false (map cell c) x.bytes pre ∙ at_left a

  pub at_right : {u u' : Bays (List Cell) Fixed} {pre : List Block} {b : List Cell} {post : List Block} → At f u u' pre b post → first_free post ≡ false
  at_right at_last = refl
  at_right at_here = refl
  at_right (at_later a) = at_right a

module _ (s : Structure) (v : Valid s) {f : List Cell → List Cell} {u u' : Bays (List Cell) Fixed} (pre post : List Block) (cs : List Cell) (at : At f u u' pre cs post) (e : s.blocks ≡ flatten u) where
  pub bay-valid : Valid (record { clock = s.clock; chain = s.chain; blocks = pre ++ (map cell (compact_bay cs) ++ post) })
  bay-valid = compact-valid s v pre post cs (e ∙ at_old at) (at_left at) (at_right at)

  pub bay-start : start (record { clock = s.clock; chain = s.chain; blocks = pre ++ (map cell (compact_bay cs) ++ post) }) ≡ start s
  bay-start = compact-start s v pre post cs (e ∙ at_old at)
