-- The block of a handle among the blocks of a valid structure, and those blocks with it at another size where it stands.
use mathlib.Core.Path.{◌≡◌, sym, ap, ◌∙◌, subst}
use mathlib.Core.Bool.{false}
use mathlib.Core.List.{List, [], ◌∷◌, ◌++◌, map, map-append, append_assoc}
use Prim.Native.Nat.{ℕ, ◌+◌, ◌-◌, ◌≤◌}
use native.Mathlib.Omega.{arith}
use lib.ListN.{length, drop}
use lib.Seq.{drop-drop, drop_at}
use Rattle.structure.proofs.Append.{sizes-append}
use Rattle.calls.specs.Bays.{on_lowest}
use Rattle.bay.specs.Bay.{Cell, held, bay_size, gap, resized, reshape}
use Rattle.bay.specs.Ends.{start_free, past_start}
use Rattle.bay.proofs.Laws.{bsize-gap}
use Rattle.bay.proofs.Sound.{Sound}
use Rattle.bay.proofs.Reshape.{gap-lead, reshape-here}
use Rattle.structure.specs.Structure.{Block, cell, Structure, sizes, start, len, encode}
use Rattle.structure.specs.Valid.{Tiled, Valid}
use Rattle.structure.proofs.Round.{rest-is}
use Rattle.structure.proofs.Cells.{tiled-cells}
use Rattle.access.specs.row.Row as Row
use Rattle.access.proofs.row.Laws.{bytes-append, bytes-long, sound-left, sound-right}
use Rattle.zone.specs.Group.{flatten}
use Rattle.zone.specs.Work.{has}
use Rattle.zone.proofs.GroupLaws.{flatten-group}
use Rattle.bays.specs.Places.{bays_of}
use Rattle.bays.proofs.At.{at_old, at_new}
use Rattle.access.proofs.row.Zone.{valid-sound}
use Rattle.settle.proofs.surgery.Sound.{tiled-right}
use Rattle.settle.proofs.surgery.Replace.{sizes-parts}
use Rattle.settle.proofs.Cells.{all-sizes}
use Rattle.resize.specs.reshape.Own.{Own, bay_of, data_at}

-- cells of a bay among the blocks: those on the left, then c and g, then those on the right
regroup : (before after : List Block) (l g r : List Cell) (c : Cell)
    → before ++ (map cell (l ++ (c ∷ (g ++ r))) ++ after) ≡ (before ++ map cell l) ++ (map cell (c ∷ g) ++ (map cell r ++ after))
regroup before after l g r c = rw (map-append cell l (c ∷ (g ++ r)), map-append cell g r) (simp append_assoc)

module _ (s : Structure) (v : Valid s) (h : ℕ) (o : Own h (bays_of s)) where
  abbrev pub pre : List Block
  pre = o.before ++ map cell o.left

  abbrev pub rest : List Block
  rest = map cell (past_start o.right) ++ o.after

  abbrev old : List Cell
  old = held o.mine ∷ gap (start_free o.right) []

  pub in-bay : s.blocks ≡ o.before ++ (map cell (bay_of o) ++ o.after)
  in-bay = sym (flatten-group (start s) s.blocks) ∙ at_old (o.at (λ (b : List Cell). b))

  split : s.blocks ≡ pre ++ (cell (held o.mine) ∷ (map cell o.right ++ o.after))
  split = in-bay ∙ regroup o.before o.after o.left [] o.right (held o.mine)

  right-sound : Sound o.right
  right-sound = tiled-cells false o.right o.after (tiled-right false pre (cell (held o.mine) ∷ (map cell o.right ++ o.after)) (subst (Tiled false) split v.tiled)).3

  -- the free bytes right behind the block counted to it
  pub parts : s.blocks ≡ pre ++ (map cell old ++ rest)
  parts =
      let n : 0 + start_free o.right ≡ start_free o.right = omega arith in
      in-bay ∙ ap (λ (cs : List Cell). o.before ++ (map cell (o.left ++ (held o.mine ∷ cs)) ++ o.after)) (gap-lead 0 right-sound ∙ ap (λ (k : ℕ). gap k [] ++ past_start o.right) n)
      ∙ regroup o.before o.after o.left (gap (start_free o.right) []) (past_start o.right) (held o.mine)

  pub pre-sizes : sizes pre ≡ sizes o.before + bay_size o.left
  pre-sizes = sizes-append o.before (map cell o.left) ∙ ap (sizes o.before +◌) (sym (all-sizes o.left))

  -- they lie inside the zone
  pub parts-end : data_at (start s) o + length o.mine.bytes + start_free o.right ≤ len s
  parts-end = omega (arith, pre-sizes, ap sizes parts, sizes-parts pre (map cell old) rest, all-sizes old, bsize-gap (start_free o.right) [])

  -- ---- with a data bytes

  pub parts-new : (a : ℕ) → a ≤ length o.mine.bytes + start_free o.right
      → flatten (on_lowest (has h) (reshape h a) (bays_of s)) ≡ pre ++ (map cell (held (resized a o.mine) ∷ gap (length o.mine.bytes + start_free o.right - a) []) ++ rest)
  parts-new a l =
      let w : reshape h a (bay_of o) ≡ o.left ++ (held (resized a o.mine) ∷ (gap (length o.mine.bytes + start_free o.right - a) [] ++ past_start o.right)) =
      reshape-here h o.mine o.its a o.left o.right o.first right-sound l in
      at_new (o.at (reshape h a)) ∙ ap (λ (cs : List Cell). o.before ++ (map cell cs ++ o.after)) w
      ∙ regroup o.before o.after o.left (gap (length o.mine.bytes + start_free o.right - a) []) (past_start o.right) (held (resized a o.mine))

  -- ---- what stands behind the block

  abbrev behind : List Block
  behind = map cell o.right ++ o.after

  all_sound : Row.Sound (pre ++ (cell (held o.mine) ∷ behind))
  all_sound = subst Row.Sound split (valid-sound s v)

  pub behind-sound : Row.Sound behind
  behind-sound = (sound-right pre (cell (held o.mine) ∷ behind) all_sound).1

  pub behind-bytes : (p : ℕ) → p ≡ data_at (start s) o + length o.mine.bytes → drop p (encode s) ≡ Row.bytes_of behind
  unfolding sizes
  behind-bytes p e =
      let front = pre ++ (cell (held o.mine) ∷ []) in
      let q : s.blocks ≡ front ++ behind = split ∙ sym (append_assoc pre (cell (held o.mine) ∷ []) behind) in
      let so : Row.Sound front = sound-left front behind (subst Row.Sound q (valid-sound s v)) in
      let z : p ≡ start s + sizes front = omega (arith, pre-sizes, sizes-append pre (cell (held o.mine) ∷ [])) in
      ap (λ (k : ℕ). drop k (encode s)) z ∙ sym (drop-drop (sizes front) (start s) (encode s))
      ∙ ap (drop (sizes front)) (rest-is s v ∙ ap (λ (bs : List Block). Row.bytes_of bs) q ∙ bytes-append front behind)
      ∙ drop_at (Row.bytes_of front) (Row.bytes_of behind) (sizes front) (bytes-long front so)
