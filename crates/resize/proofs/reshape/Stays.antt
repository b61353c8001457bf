-- A block of a zone at another size where it stands: its bytes may be written, and what is left is the structure with it reshaped.
use mathlib.Core.Path.{◌≡◌, refl, sym, ap, ap₂, ◌∙◌}
use mathlib.Core.List.{List, [], ◌∷◌, ◌++◌, map}
use Prim.Native.Nat.{ℕ, zero, suc, ◌+◌, ◌-◌, ◌*◌, ◌/◌, ◌%◌, ◌<◌, ◌≤◌, min}
use native.Mathlib.Omega.{arith}
use lib.ListN.{length, take, drop, replicate, length-take, take-append-drop}
use Rattle.block_type.specs.Limits.{longest_zone, reloc_header, reloc_code, reloc_limit, type_unit}
use Rattle.bigendian.specs.BigEndian.{to_be, slice, overwrite}
use Rattle.bigendian.proofs.Overwrite.{write_mid}
use Rattle.kinds.specs.Kinds.{header_of, code_of}
use Rattle.kinds.proofs.KindLaws.{facts, is_code}
use Rattle.bay.specs.Bay.{Cell, held, bay_size, gap, resized}
use Rattle.bay.specs.Ends.{start_free}
use Rattle.bay.specs.Sound.{bytes_of, Sound}
use Rattle.bay.proofs.Laws.{bsize-gap}
use Rattle.bay.proofs.Resize.{length-sized}
use Rattle.bay.proofs.BayBytes.{bytes-long}
use Rattle.bay.proofs.SoundLaws.{gap-sound}
use Rattle.structure.specs.Structure.{Block, cell, Structure, sizes, start, encode, decode_zone}
use Rattle.structure.specs.Valid.{Valid}
use Rattle.structure.proofs.Table.{Whole, encode-zone, len_is}
use Rattle.structure.proofs.Sound.{valid-zone}
use Rattle.bays.specs.Places.{bays_of}
use Rattle.settle.proofs.Bay.{cells-sound, part-is}
use Rattle.resize.specs.reshape.Own.{reshaped, Own, data_at, Known, known}
use Rattle.resize.specs.reshape.Here.{Here}
use Rattle.resize.proofs.reshape.Parts.{pre, rest, parts, pre-sizes, parts-end, parts-new}
use Rattle.resize.proofs.reshape.Still.{still}
use Rattle.resize.proofs.reshape.Here.{all-taken, part_left}
use Rattle.structure.specs.IsZone.{IsZone}
use Rattle.structure.proofs.IsZone.{whole_of}

gap-four : (n : ℕ) → Sound (gap n []) → n % 4 ≡ 0
gap-four zero so = refl
gap-four (suc n) so = so.0.1

module _ (z : List ℕ) (i : IsZone z) (h : ℕ) (o : Own h (bays_of (decode_zone z))) (at b f : ℕ) (ea : at ≡ data_at (start (decode_zone z)) o) (eb : b ≡ length o.mine.bytes) (ef : f ≡ start_free o.right) where
  w : Whole z
  w = whole_of z i

  abbrev s : Structure
  s = decode_zone z

  v : Valid s
  v = valid-zone z w

  abbrev p : ℕ
  p = start s + sizes (pre s v h o)

  abbrev old : List Cell
  old = held o.mine ∷ gap f []

  parts_are : s.blocks ≡ pre s v h o ++ (map cell old ++ rest s v h o)
  parts_are = parts s v h o ∙ ap (λ (k : ℕ). pre s v h o ++ (map cell (held o.mine ∷ gap k []) ++ rest s v h o)) (sym ef)

  old-sound : Sound old
  old-sound = cells-sound s v (pre s v h o) (rest s v h o) old parts_are

  at_is : at ≡ p + header_of o.mine
  at_is = omega (arith, pre-sizes s v h o)

  size-old : bay_size old ≡ header_of o.mine + b + f
  size-old = omega (arith, bsize-gap f [])

  there : slice z p (header_of o.mine + b + f) ≡ bytes_of old
  there =
      let n : p + bay_size old - p ≡ header_of o.mine + b + f = omega (arith, size-old) in
      ap₂ (λ (y : List ℕ) (k : ℕ). slice y p k) (sym (encode-zone z w)) (sym n) ∙ part-is s v (pre s v h o) (rest s v h o) old parts_are

  end-in : at + b + f ≤ length z
  end-in = omega (arith, parts-end s v h o, len_is z w, w.all)

  is-short : length z ≤ longest_zone
  is-short = omega (arith, w.limit, w.all)

  module _ (a : ℕ) (four : a % 4 ≡ 0) (high : a ≤ reloc_limit) (fits : a ≤ b + f) where
    abbrev new : List Cell
    new = held (resized a o.mine) ∷ gap (b + f - a) []

    is-four : (b + f) % 4 ≡ 0
    is-four = omega (arith, old-sound.0.0, gap-four f old-sound.1, (facts o.mine).four)

    new-sound : Sound new
    new-sound = ((omega (arith, length-sized a o.mine.bytes), omega (arith, length-sized a o.mine.bytes), old-sound.0.2), gap-sound (b + f - a) [] (omega (arith, is-four)) (omega (arith, end-in, is-short)) tt)

    size-new : bay_size new ≡ bay_size old
    size-new = omega (arith, size-old, bsize-gap (b + f - a) [], length-sized a o.mine.bytes)

    written : (y : List ℕ) → y ≡ take p z ++ (bytes_of new ++ drop (header_of o.mine + b + f) (drop p z)) → y ≡ encode (reshaped h a s)
    written y q =
        let back = drop (header_of o.mine + b + f) (drop p z) in
        let lf : length (take p z) ≡ p = omega (arith, length-take p z, end-in, at_is) in
        let split : z ≡ take p z ++ (bytes_of old ++ back) = sym (take-append-drop p z) ∙ ap (take p z ++◌) (sym (take-append-drop (header_of o.mine + b + f) (drop p z)) ∙ ap (◌++ back) there) in
        let bs = parts-new s v h o a (omega (arith, fits, ef, eb)) in
        let n : length o.mine.bytes + start_free o.right - a ≡ b + f - a = omega arith in
        q
        ∙ sym (ap (λ (x : List ℕ). overwrite x p (bytes_of new)) split ∙ write_mid (take p z) (bytes_of old) (bytes_of new) back p lf (bytes-long old old-sound ∙ sym size-new ∙ sym (bytes-long new new-sound)))
        ∙ ap (λ (x : List ℕ). overwrite x p (bytes_of new)) (sym (encode-zone z w))
        ∙ still s v (pre s v h o) (rest s v h o) o.mine (resized a o.mine) f (b + f - a) parts_are new-sound size-new refl (λ k. refl) refl
        ∙ ap (λ (l : List Block). encode (record { clock = s.clock; chain = s.chain; blocks = l })) (sym (bs ∙ ap (λ (k : ℕ). pre s v h o ++ (map cell (held (resized a o.mine) ∷ gap k []) ++ rest s v h o)) n))

    -- what a plan hands over
    pub here_in : Here z h at b f a
    here_in = record { is = known i o ea eb ef; low = omega (arith, at_is); end = end-in; short = is-short; four = four; four_end = is-four; high = high; fits = fits }

    module _ (keep : ℕ) (ek : keep ≡ min a b) (z₁ z₂ : List ℕ) (e₁ : z₁ ≡ overwrite z (at + keep) (replicate (at + b + f - (at + keep)) 0)) (e₂ : z₂ ≡ overwrite z₁ (at - reloc_header) (to_be 2 (reloc_code * type_unit + (reloc_header + a) / 2))) where
      word : z₂ ≡ overwrite z₁ (at - header_of o.mine) (to_be 2 (code_of o.mine * type_unit + (header_of o.mine + a) / 2))
      word = e₂ ∙ ap₂ (λ (k c : ℕ). overwrite z₁ (at - k) (to_be 2 (c * type_unit + (k + a) / 2))) (sym o.head) (sym (is_code h o.mine o.its))

      long-gap : length (bytes_of (gap f [])) ≡ f
      long-gap = bytes-long (gap f []) old-sound.1 ∙ omega (arith, bsize-gap f [])

      all_here : b + f ≤ a → z₂ ≡ encode (reshaped h a s)
      all_here l = written z₂ (all-taken z o.mine p at b f a at_is eb there long-gap end-in four is-four fits keep ek z₁ z₂ e₁ word l)

      part-here : (z₃ : List ℕ) → a < b + f → z₃ ≡ overwrite z₂ (at + a) (to_be 4 ((b + f - a) / 2)) → z₃ ≡ encode (reshaped h a s)
      part-here z₃ l e₃ = written z₃ (part_left z o.mine p at b f a at_is eb there long-gap end-in four is-four fits keep ek z₁ z₂ e₁ word z₃ l e₃)

-- ---- what the code's proof cites

module _ (z : List ℕ) (h at b f a : ℕ) (x : Here z h at b f a) (keep : ℕ) (ek : keep ≡ min a b) (z₁ z₂ : List ℕ)
    (e₁ : z₁ ≡ overwrite z (at + keep) (replicate (at + b + f - (at + keep)) 0)) (e₂ : z₂ ≡ overwrite z₁ (at - reloc_header) (to_be 2 (reloc_code * type_unit + (reloc_header + a) / 2))) where
  pub here-all : b + f ≤ a → z₂ ≡ encode (reshaped h a (decode_zone z))
  here-all l = go x.is
    where
      go : Known z h at b f → z₂ ≡ encode (reshaped h a (decode_zone z))
      go (known i o ea eb ef) = all_here z i h o at b f ea eb ef a x.four x.high x.fits keep ek z₁ z₂ e₁ e₂ l

  pub here-part : (z₃ : List ℕ) → a < b + f → z₃ ≡ overwrite z₂ (at + a) (to_be 4 ((b + f - a) / 2)) → z₃ ≡ encode (reshaped h a (decode_zone z))
  here-part z₃ l e₃ = go x.is
    where
      go : Known z h at b f → z₃ ≡ encode (reshaped h a (decode_zone z))
      go (known i o ea eb ef) = part-here z i h o at b f ea eb ef a x.four x.high x.fits keep ek z₁ z₂ e₁ e₂ z₃ l e₃
