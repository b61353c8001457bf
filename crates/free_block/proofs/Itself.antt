-- The block that becomes free, in the bytes of a valid structure: where its data lie.
use mathlib.Core.Path.{◌≡◌, sym, ap, ap₂, ◌∙◌}
use mathlib.Core.List.{List, [], ◌∷◌, ◌++◌, map, append_assoc, append-nil}
use mathlib.Core.Bool.{true}
use Prim.Native.Nat.{ℕ, ◌+◌, ◌-◌, ◌*◌, ◌/◌}
use native.Mathlib.Omega.{arith}
use lib.ListN.{length, take, drop, length-append}
use lib.Seq.{drop-drop, drop_at}
use Rattle.format.specs.Occurs.{occurs}
use Rattle.format.proofs.Count.{occurs-append}
use Rattle.block_type.specs.Limits.{type_unit}
use Rattle.bigendian.specs.BigEndian.{to_be, slice}
use Rattle.bigendian.proofs.Laws.{length-to_be}
use Rattle.bigendian.proofs.Parts.{drop-take}
use Rattle.kinds.specs.Kinds.{Item, code_of, header_of, tag_of, item_size, is}
use Rattle.kinds.proofs.KindLaws.{tag-long}
use Rattle.bay.specs.Bay.{held, bay_size}
use Rattle.bay.specs.Bytes.{encode_cell}
use Rattle.bay.specs.Sound.{bytes_of}
use Rattle.structure.specs.Structure.{Block, cell, Structure, sizes, start, place_of, encode, handles_of}
use Rattle.structure.specs.Valid.{Valid}
use Rattle.structure.proofs.Append.{handles-append, place-append, occurs-own}
use Rattle.settle.proofs.surgery.Sound.{handle-once}
use Rattle.settle.proofs.Bay.{part-is}
use Rattle.free_block.specs.Around.{Around}
use Rattle.free_block.proofs.Parts.{lows-sizes}

-- the data behind a block's header
data_of : (e : Item) → drop (header_of e) (encode_cell (held e)) ≡ e.bytes
data_of e =
    let u = to_be 2 (code_of e * type_unit + item_size e / 2) in
    ap (drop (header_of e)) (sym (append_assoc u (tag_of e) e.bytes))
    ∙ drop_at (u ++ tag_of e) e.bytes (header_of e) (omega (arith, length-append u (tag_of e), length-to_be 2 (code_of e * type_unit + item_size e / 2), tag-long e))

module _ (s : Structure) (v : Valid s) {bs' : List Block} {e : Item} (a : Around s.blocks bs' (cell (held e))) (h : ℕ) (its : is h e ≡ true) where
  abbrev lows : List Block
  lows = a.pre ++ map cell a.low

  abbrev highs : List Block
  highs = map cell a.high ++ a.post

  parts : s.blocks ≡ lows ++ (cell (held e) ∷ highs)
  parts = a.old ∙ sym (append_assoc a.pre (map cell a.low) (cell (held e) ∷ highs))

  not-below : occurs h (handles_of lows) ≡ 0
  not-below =
      omega (
        arith,
        handle-once s v h,
        ap (λ (b : List Block). occurs h (handles_of b)) parts,
        ap (occurs h) (handles-append lows (cell (held e) ∷ highs)),
        occurs-append h (handles_of lows) (handles_of (cell (held e) ∷ highs)),
        occurs-own h e highs its,
      )

  pub its-place : place_of (is h) (start s) s.blocks ≡ start s + (sizes a.pre + bay_size a.low) + header_of e
  unfolding place_of
  its-place =
      ap (place_of (is h) (start s)) parts
      ∙ place-append h (start s) lows (cell (held e) ∷ highs)
      ∙ (rw (not-below, its) (omega (arith, lows-sizes a)))

  pub its-data : slice (encode s) (start s + (sizes a.pre + bay_size a.low) + header_of e) (length e.bytes) ≡ e.bytes
  unfolding bytes_of
  its-data =
      let o = start s + sizes lows in
      let q : start s + (sizes a.pre + bay_size a.low) + header_of e ≡ o + header_of e = omega (arith, lows-sizes a) in
      let m : o + (item_size e + 0) - o - header_of e ≡ length e.bytes = omega arith in
      ap₂ (slice (encode s)) q (sym m)
      ∙ ap (take (o + (item_size e + 0) - o - header_of e)) (sym (drop-drop (header_of e) o (encode s)))
      ∙ sym (drop-take (header_of e) (o + (item_size e + 0) - o) (drop o (encode s)))
      ∙ ap (drop (header_of e)) (part-is s v lows highs (held e ∷ []) parts ∙ append-nil (encode_cell (held e)))
      ∙ data_of e
