-- The free bytes at the end of a structure become more or fewer: one write there, and one of the length.
use mathlib.Core.Path.{◌≡◌, refl, sym, ap, ap₂, ◌∙◌, subst}
use mathlib.Core.List.{List, [], ◌++◌, map, append_assoc, append-nil, map-append}
use mathlib.Core.Bool.{cond}
use Prim.Native.Nat.{ℕ, ◌+◌, ◌*◌}
use native.Mathlib.Omega.{arith}
use lib.Dec.{eqb}
use lib.ListN.{length, length-append}
use Rattle.structure.proofs.ZoneLayout.{lay, lay-same}
use Rattle.structure.proofs.Append.{sizes-append, place-append, handles-append}
use Rattle.block_type.specs.Limits.{master_size, zone_header, length_at}
use Rattle.bigendian.specs.BigEndian.{to_be, overwrite}
use Rattle.bigendian.proofs.Laws.{length-to_be}
use Rattle.bigendian.proofs.Overwrite.{write_mid}
use Rattle.format.proofs.Count.{occurs, offsets}
use Rattle.bay.specs.Bay.{Cell, gap}
use Rattle.structure.specs.Structure.{Block, cell, Structure, sizes, count, start, len, head_of, place_of, next_of, value, encode, handles_of}
use Rattle.structure.proofs.Cells.{gap-handles, gap-sizes, gap-place}
use Rattle.access.specs.row.Row.{bytes_of, Sound}
use Rattle.access.proofs.row.Laws.{bytes-append, bytes-long, sound-left, sound-right}
use Rattle.settle.proofs.surgery.Image.{img, encode-img, img-rest, img-same}
use Rattle.kinds.specs.Kinds.{is}

-- another length
lay-length : (ck l l' f m c : ℕ) (vs r : List ℕ) → overwrite (lay ck l f m c vs r) length_at (to_be 4 l') ≡ lay ck l' f m c vs r
unfolding lay
lay-length ck l l' f m c vs r = write_mid [] (to_be 4 l) (to_be 4 l') _ 0 refl (length-to_be 4 l ∙ sym (length-to_be 4 l'))

-- bytes behind the blocks
lay-behind : (ck l f m c : ℕ) (vs r t : List ℕ) → lay ck l f m c vs (r ++ t) ≡ lay ck l f m c vs r ++ t
unfolding lay
lay-behind ck l f m c vs r t = simp append_assoc

-- ---- free bytes have no master

-- n free bytes as blocks
abbrev pub rest : ℕ → List Block
rest n = map cell (gap n [])

-- behind other cells
pub rest-behind : (pre : List Block) (cs : List Cell) (n : ℕ) → pre ++ (map cell (cs ++ gap n []) ++ []) ≡ (pre ++ map cell cs) ++ rest n
rest-behind pre cs n = rw (map-append cell cs (gap n [])) (simp (append-nil, append_assoc))

with_rest : (pre : List Block) (n : ℕ) → length (handles_of (pre ++ rest n)) ≡ length (handles_of pre)
with_rest pre n = ap length (handles-append pre (rest n) ∙ ap (handles_of pre ++◌) (gap-handles n) ∙ append-nil (handles_of pre))

place_rest : (pre : List Block) (n h o : ℕ) → place_of (is h) o (pre ++ rest n) ≡ cond (eqb (occurs h (handles_of pre)) 0) 0 (place_of (is h) o pre)
unfolding occurs
place_rest pre n h o =
    place-append h o pre (rest n)
    ∙ ap (λ (x : ℕ). cond (eqb (occurs h (handles_of pre)) 0) x (place_of (is h) o pre)) (gap-place h (o + sizes pre) n)

-- ---- the structure s ends with p free bytes; with q instead, and other bytes behind it, as many in all

module _ (s : Structure) (pre : List Block) (p q : ℕ) (t t' : List ℕ) (parts : s.blocks ≡ pre ++ rest p) (so : Sound s.blocks) (so' : Sound (rest q)) (long : p + length t ≡ q + length t') where
  abbrev s' : Structure
  s' = record { clock = s.clock; chain = s.chain; blocks = pre ++ rest q }

  counts : count s ≡ count s'
  counts = ap (λ (x : ℕ). x + length s.chain) (ap (λ (b : List Block). length (handles_of b)) parts ∙ with_rest pre p ∙ sym (with_rest pre q))

  starts : start s ≡ start s'
  starts = ap (λ (m : ℕ). zone_header + master_size * m) counts

  values : (h : ℕ) → value s h ≡ value s' h
  values h = ap (λ (x : ℕ). x + next_of h s.chain) (ap₂ (place_of (is h)) starts parts ∙ place_rest pre p h (start s') ∙ sym (place_rest pre q h (start s')))

  pub lens : len s + q ≡ len s' + p
  lens = omega (arith, counts, ap sizes parts, sizes-append pre (rest p), sizes-append pre (rest q), gap-sizes p, gap-sizes q)

  sound-parts : Sound (pre ++ rest p)
  sound-parts = subst Sound parts so

  bodies : overwrite (bytes_of s.blocks ++ t) (sizes pre) (bytes_of (rest q) ++ t') ≡ bytes_of (pre ++ rest q) ++ t'
  bodies =
      let w = bytes_of (rest q) ++ t' in
      let old : bytes_of s.blocks ++ t ≡ bytes_of pre ++ ((bytes_of (rest p) ++ t) ++ []) =
      ap (λ (b : List Block). bytes_of b ++ t) parts ∙ ap (◌++ t) (bytes-append pre (rest p)) ∙ append_assoc (bytes_of pre) (bytes_of (rest p)) t
      ∙ ap (bytes_of pre ++◌) (sym (append-nil (bytes_of (rest p) ++ t))) in
      ap (λ (x : List ℕ). overwrite x (sizes pre) w) old
      ∙ write_mid (bytes_of pre) (bytes_of (rest p) ++ t) w [] (sizes pre) (bytes-long pre (sound-left pre (rest p) sound-parts))
      (omega (arith, length-append (bytes_of (rest p)) t, length-append (bytes_of (rest q)) t', bytes-long (rest p) (sound-right pre (rest p) sound-parts), bytes-long (rest q) so', gap-sizes p, gap-sizes q))
      ∙ ap (bytes_of pre ++◌) (append-nil w) ∙ sym (append_assoc (bytes_of pre) (bytes_of (rest q)) t') ∙ ap (◌++ t') (sym (bytes-append pre (rest q)))

  pub end-changed : (l : ℕ) → l ≡ len s' → overwrite (overwrite (encode s ++ t) (start s + sizes pre) (bytes_of (rest q) ++ t')) length_at (to_be 4 l) ≡ encode s' ++ t'
  end-changed l el =
      let f = start s in let m = count s in let c = head_of s.chain in
      let r = bytes_of s.blocks in
      let w = bytes_of (rest q) ++ t' in
      let vs = map (value s) (offsets zone_header m) in
      ap (λ (x : List ℕ). overwrite (overwrite x (f + sizes pre) w) length_at (to_be 4 l)) (ap (◌++ t) (encode-img s) ∙ sym (lay-behind s.clock (len s) f m c vs r t))
      ∙ ap (λ (x : List ℕ). overwrite x length_at (to_be 4 l)) (img-rest s.clock (len s) f m c (sizes pre) (f + sizes pre) (value s) (r ++ t) w refl)
      ∙ lay-length s.clock (len s) l f m c vs (overwrite (r ++ t) (sizes pre) w)
      ∙ ap (img s.clock l f m c (value s)) bodies
      ∙ lay-behind s.clock l f m c vs (bytes_of (pre ++ rest q)) t'
      ∙ ap (◌++ t')
      (img-same s.clock l f m c (value s) (value s') (bytes_of (pre ++ rest q)) (λ h o. values h)
      ∙ lay-same s.clock el starts counts refl (ap (λ (k : ℕ). map (value s') (offsets zone_header k)) counts) refl
      ∙ sym (encode-img s'))
