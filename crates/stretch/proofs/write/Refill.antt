-- Bytes written at the place of the named block's data are those of the structure with the data changed.
use mathlib.Core.Path.{◌≡◌, refl, sym, ap, ap₂, ◌∙◌}
use mathlib.Core.List.{List, [], ◌∷◌, ◌++◌, append_assoc, append-nil}
use Prim.Native.Nat.{ℕ, ◌+◌, ◌≤◌}
use native.Mathlib.Omega.{arith}
use lib.ListN.{length, take, length-append, length-take, take-append-drop}
use lib.Seq.{sets, length-sets, sets-eq}
use Rattle.bigendian.specs.BigEndian.{overwrite}
use Rattle.bigendian.proofs.Overwrite.{write-right, write-left, write_mid}
use Rattle.calls.specs.Calls.{Target}
use Rattle.bay.specs.Bay.{free, held}
use Rattle.structure.specs.Structure.{Block, fixed, cell, Structure, size, sizes, start, len, place_of, encode, encode_block, join, handles_of}
use Rattle.structure.specs.Valid.{Valid}
use Rattle.structure.proofs.Append.{sizes-append}
use Rattle.structure.proofs.Round.{rest-is, length-is}
use Rattle.access.specs.row.Row.{Sound1, Sound, bytes_of}
use Rattle.access.proofs.row.Laws.{bytes-append, bytes-long, sound-left, sound-right}
use Rattle.access.proofs.row.Zone.{valid-sound}
use Rattle.settle.proofs.surgery.Stays.{starts, stays}
use Rattle.access.specs.Named.{held_by, refill, place_among, data_among}
use Rattle.access.proofs.Named.{Named, named, Parts, named-parts}
use Rattle.stretch.proofs.write.Edited.{edited, one-edited}
use Rattle.kinds.specs.Kinds.{is}

-- ---- one block, for an f that keeps lengths

module _ (f : List ℕ → List ℕ) (keep : (l : List ℕ) → length (f l) ≡ length l) where
  refill-size : (b : Block) → size (refill f b) ≡ size b
  refill-size (cell (free n)) = refl
  refill-size (cell (held e)) = rw (keep e.bytes)
  refill-size (fixed d) = rw (keep d)

  refill-sound : (b : Block) → Sound1 b → Sound1 (refill f b)
  refill-sound (cell (free n)) s = s
  refill-sound (cell (held e)) s = rw (keep e.bytes) s
  refill-sound (fixed d) s = rw (keep d) s

  refill-handles : (b : Block) → handles_of (refill f b ∷ []) ≡ handles_of (b ∷ [])
  unfolding handles_of
  refill-handles (cell (free n)) = refl
  refill-handles (cell (held e)) = refl
  refill-handles (fixed d) = refl

  refill-place : (k p : ℕ) (b : Block) → place_of (is k) p (refill f b ∷ []) ≡ place_of (is k) p (b ∷ [])
  unfolding place_of
  refill-place k p (cell (free n)) = refl
  refill-place k p (cell (held e)) = refl
  refill-place k p (fixed d) = refl

-- ---- the whole zone

-- src written over a middle part d at offset i, as a write of the part between head and tail
write-part : (a h d r src : List ℕ) (i : ℕ) → i + length src ≤ length d → overwrite (a ++ ((h ++ d) ++ r)) (length a + (length h + i)) src ≡ a ++ ((h ++ overwrite d i src) ++ r)
write-part a h d r src i l =
    write-right a ((h ++ d) ++ r) src (length h + i)
    ∙ ap (a ++◌) (write-left (h ++ d) r src (length h + i) (omega (arith, length-append h d)) ∙ ap (◌++ r) (write-right h d src i))

-- the data of the named block have src at offset i
abbrev pub after : Target → ℕ → List ℕ → Structure → Structure
after t i src s = record { clock = s.clock; chain = s.chain; blocks = edited t (λ (l : List ℕ). sets l i src) (start s) s.blocks }

module _ (t : Target) (i : ℕ) (src : List ℕ) (s : Structure) (v : Valid s) (live : place_among t (start s) s.blocks ≡ 0 → ⊥) where
  abbrev f : List ℕ → List ℕ
  f l = sets l i src

  keep : (l : List ℕ) → length (f l) ≡ length l
  keep l = length-sets l i src

  abbrev r : Named t (start s) s.blocks
  r = named t (start s) s.blocks live

  abbrev b : Block
  b = r.block

  abbrev p : Parts b
  p = named-parts t (start s + sizes r.before) b r.hit

  parts : s.blocks ≡ r.before ++ ((b ∷ []) ++ r.after)
  parts = r.is

  sound : Sound (r.before ++ (b ∷ r.after))
  sound = rw r.is at (valid-sound s v)

  new-sound : Sound (refill f b ∷ [])
  new-sound = (refill-sound f keep b (sound-right r.before (b ∷ r.after) sound).0, tt)

  new-size : sizes (refill f b ∷ []) ≡ sizes (b ∷ [])
  unfolding sizes
  new-size = rw (refill-size f keep b)

  changed : (after t i src s).blocks ≡ r.before ++ ((refill f b ∷ []) ++ r.after)
  changed = one-edited t f s v r.before r.after b r.is r.hit

  abbrev there : Structure
  there = record { clock = s.clock; chain = s.chain; blocks = r.before ++ ((refill f b ∷ []) ++ r.after) }

  is-there : (after t i src s) ≡ there
  is-there = λ j. record { clock = s.clock; chain = s.chain; blocks = changed j }

  pub start-same : start (after t i src s) ≡ start s
  start-same = ap start is-there ∙ starts s v r.before (b ∷ []) (refill f b ∷ []) r.after parts new-size new-sound (refill-handles f keep b) (λ k p. refill-place f keep k p b)

  pub len-same : len (after t i src s) ≡ len s
  unfolding sizes
  len-same = omega (arith, start-same, ap sizes changed, ap sizes r.is, sizes-append r.before (refill f b ∷ r.after), sizes-append r.before (b ∷ r.after), refill-size f keep b)

  -- the bytes before the data, the data, the bytes behind
  abbrev a : List ℕ
  a = take (start s) (encode s) ++ bytes_of r.before

  a-long : length a ≡ start s + sizes r.before
  a-long = omega (arith, length-append (take (start s) (encode s)) (bytes_of r.before), length-take (start s) (encode s), length-is s v, bytes-long r.before (sound-left r.before (b ∷ r.after) sound))

  around : encode s ≡ a ++ (encode_block b ++ bytes_of r.after)
  unfolding join
  around =
      sym (take-append-drop (start s) (encode s))
      ∙ ap (take (start s) (encode s) ++◌) (rest-is s v ∙ ap bytes_of r.is ∙ bytes-append r.before (b ∷ r.after))
      ∙ sym (append_assoc (take (start s) (encode s)) (bytes_of r.before) (encode_block b ++ bytes_of r.after))

  -- bytes written at the place of the data are those of the structure with the data changed
  pub refilled : i + length src ≤ length (data_among t (start s) s.blocks) → overwrite (encode s) (place_among t (start s) s.blocks + i) src ≡ encode (after t i src s)
  unfolding join
  refilled l =
      let d = held_by b in
      let m : i + length src ≤ length d = omega (arith, ap length r.holds) in
      let q : place_among t (start s) s.blocks + i ≡ length a + (length p.head + i) = omega (arith, a-long, r.place, p.long) in
      let x : encode_block (refill f b) ≡ p.head ++ overwrite d i src = p.other f (keep d) ∙ ap (p.head ++◌) (sets-eq src d i m) in
      let w : length (encode_block b) ≡ length (encode_block (refill f b)) =
      omega (arith, ap length p.bytes, ap length (p.other f (keep d)), length-append p.head d, length-append p.head (f d), keep d) in
      ap₂ (λ (y : List ℕ) (k : ℕ). overwrite y k src) (around ∙ ap (λ (y : List ℕ). a ++ (y ++ bytes_of r.after)) p.bytes) q
      ∙ write-part a p.head d (bytes_of r.after) src i m
      ∙ ap (λ (y : List ℕ). a ++ (y ++ bytes_of r.after)) (sym x)
      ∙ sym (ap (λ (y : List ℕ). overwrite y (start s + sizes r.before) (encode_block (refill f b))) around
      ∙ write_mid a (encode_block b) (encode_block (refill f b)) (bytes_of r.after) (start s + sizes r.before) a-long w)
      ∙ ap (overwrite (encode s) (start s + sizes r.before)) (sym (append-nil (encode_block (refill f b))))
      ∙ stays s v r.before (b ∷ []) (refill f b ∷ []) r.after parts new-size new-sound (refill-handles f keep b) (λ k p. refill-place f keep k p b)
      ∙ ap encode (sym is-there)
