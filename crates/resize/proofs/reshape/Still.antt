-- A block and the free bytes behind it replaced by the same block at another size: no master changes.
use mathlib.Core.Path.{◌≡◌, sym, ap, ◌∙◌, ap₂}
use mathlib.Core.List.{List, [], ◌∷◌, ◌++◌, map, append-nil}
use mathlib.Core.Bool.{cond, Bool}
use Prim.Native.Nat.{ℕ, ◌+◌}
use Rattle.bigendian.specs.BigEndian.{overwrite}
use Rattle.kinds.specs.Kinds.{Item, header_of, item_size, masters_of, is}
use Rattle.bay.specs.Bay.{Cell, held, bay_size, gap}
use Rattle.bay.specs.Sound.{bytes_of, Sound}
use Rattle.structure.specs.Structure.{Block, cell, Structure, sizes, start, place_of, encode, handles_of}
use Rattle.structure.specs.Valid.{Valid}
use Rattle.structure.proofs.Cells.{gap-handles, gap-place}
use Rattle.settle.proofs.surgery.Stays.{stays}
use Rattle.settle.proofs.Cells.{all-bytes, all-sizes, all_sound}

one-handle : (e : Item) (n : ℕ) → handles_of (map cell (held e ∷ gap n [])) ≡ masters_of e
unfolding handles_of
one-handle e n = ap (masters_of e ++◌) (gap-handles n) ∙ append-nil (masters_of e)

module _ (s : Structure) (v : Valid s) (pre post : List Block) (e e' : Item) (n n' : ℕ) (parts : s.blocks ≡ pre ++ (map cell (held e ∷ gap n []) ++ post)) (so : Sound (held e' ∷ gap n' []))
    (sz : bay_size (held e' ∷ gap n' []) ≡ bay_size (held e ∷ gap n [])) (same : masters_of e' ≡ masters_of e) (its : (k : ℕ) → is k e' ≡ is k e) (head : header_of e' ≡ header_of e) where
  abbrev old : List Cell
  old = held e ∷ gap n []

  abbrev new : List Cell
  new = held e' ∷ gap n' []

  places : (k p : ℕ) → place_of (is k) p (map cell new) ≡ place_of (is k) p (map cell old)
  unfolding place_of
  places k p = rw (gap-place k (p + item_size e') n', gap-place k (p + item_size e) n) (ap₂ (λ (t : Bool) (h : ℕ). cond t (p + h) 0) (its k) head)

  pub still : overwrite (encode s) (start s + sizes pre) (bytes_of new) ≡ encode (record { clock = s.clock; chain = s.chain; blocks = pre ++ (map cell new ++ post) })
  still =
      ap (overwrite (encode s) (start s + sizes pre)) (all-bytes new)
      ∙ stays s v pre (map cell old) (map cell new) post parts (sym (all-sizes new) ∙ sz ∙ all-sizes old) (all_sound new so) (one-handle e' n' ∙ same ∙ sym (one-handle e n)) places
