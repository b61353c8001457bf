-- Blocks behind others in the bytes of a zone: where they begin, what a walk meets there.
use mathlib.Core.Path.{◌≡◌, refl, sym, ap, ap₂, ◌∙◌, subst}
use mathlib.Core.List.{List, ◌∷◌, ◌++◌}
use Prim.Native.Nat.{ℕ, ◌+◌, ◌<◌}
use native.Mathlib.Omega.{arith}
use lib.ListN.{length, drop}
use lib.Seq.{drop-drop, drop_at}
use lib.Dec.{eqb}
use Rattle.block_type.specs.Limits.{free_code}
use Rattle.format.specs.WellFormed.{is_free, size_of}
use Rattle.structure.specs.Structure.{Block, Structure, sizes, start, encode, decode_zone}
use Rattle.structure.specs.Valid.{Valid}
use Rattle.structure.specs.IsZone.{IsZone}
use Rattle.structure.proofs.IsZone.{whole_of}
use Rattle.structure.proofs.Append.{sizes-append}
use Rattle.structure.proofs.Round.{rest-is}
use Rattle.structure.proofs.Table.{Whole, encode-zone, len_is}
use Rattle.structure.proofs.Sound.{valid-zone}
use Rattle.access.specs.row.Row.{Sound, Row, row, blocks_of, bytes_of, block_at, free_b, Stepped}
use Rattle.access.proofs.row.Laws.{bytes-append, bytes-long, sound-left, sound-right, tiles-join, stepped, free-code, low_of}
use Rattle.access.proofs.row.Zone.{valid-sound}

-- whether the block at p is free
pub free-at : (z : List ℕ) (p n : ℕ) → Stepped z p n → is_free (drop p z) ≡ free_b (block_at z p)
unfolding is_free
free-at z p n x = sym (free-code (block_at z p) ∙ ap (λ (k : ℕ). eqb k free_code) x.kind)

module _ (z : List ℕ) (i : IsZone z) (a b : List Block) (parts : (decode_zone z).blocks ≡ a ++ b) (at : ℕ) (place : at ≡ start (decode_zone z) + sizes a) where
  abbrev s : Structure
  s = decode_zone z

  w : Whole z
  w = whole_of z i

  v : Valid s
  v = valid-zone z w

  sound : Sound (a ++ b)
  sound = subst Sound parts (valid-sound s v)

  rest-bytes : drop at z ≡ bytes_of b
  rest-bytes =
      ap₂ (λ (k : ℕ) (y : List ℕ). drop k y) place (sym (encode-zone z w))
      ∙ sym (drop-drop (sizes a) (start s) (encode s))
      ∙ ap (drop (sizes a)) (rest-is s v ∙ ap (λ (bs : List Block). bytes_of bs) parts ∙ bytes-append a b)
      ∙ drop_at (bytes_of a) (bytes_of b) (sizes a) (bytes-long a (sound-left a b sound))

  pub stands-row : Row (drop at z)
  stands-row = row b (sound-right a b sound) rest-bytes

  pub stands-blocks : blocks_of (drop at z) ≡ b
  stands-blocks = ap (λ (y : List ℕ). blocks_of y) rest-bytes ∙ tiles-join b (sound-right a b sound)

  pub stands-end : at + sizes b ≡ length z
  stands-end = omega (arith, place, ap sizes parts, sizes-append a b, len_is z w, w.all)

  -- the first of them
  pub stands-free : (c : Block) (r : List Block) → b ≡ c ∷ r → is_free (drop at z) ≡ free_b c
  unfolding sizes
  stands-free c r e =
      let so : Sound (c ∷ r) = subst Sound e (sound-right a b sound) in
      let l : at < length z = omega (arith, stands-end, ap sizes e, (low_of c so.0).0) in
      let x = stepped z at (size_of (drop at z)) stands-row l refl in
      let q = sym x.blocks ∙ stands-blocks ∙ e in
      let h : block_at z at ≡ c = cc in
      free-at z at _ x ∙ ap free_b h
