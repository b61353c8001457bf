-- n bytes off the end of a bay, in the bytes of a zone.
use mathlib.Core.Path.{◌≡◌, refl, sym, ap, ◌∙◌, subst}
use mathlib.Core.List.{List, [], ◌∷◌, ◌++◌, map, append_assoc, append-nil}
use mathlib.Core.Option.{Option, none, get_or}
use Prim.Native.Nat.{ℕ, zero, suc, ◌+◌, ◌-◌, ◌%◌, ◌<◌, ◌≤◌}
use native.Mathlib.Omega.{arith}
use borrow.Author.Tests.{lt-leb}
use lib.ListN.{length, take, drop, replicate, length-append, length-replicate}
use lib.Seq.{take_at, drop_at, length-take-le}
use Rattle.block_type.specs.Limits.{free_header, longest_zone}
use Rattle.bigendian.specs.BigEndian.{slice, overwrite}
use Rattle.bigendian.proofs.Overwrite.{write-length}
use Rattle.calls.specs.Bays.{over}
use Rattle.bay.specs.Bay.{Cell, free, held, bay_size, bay_sum, items, gap, packed, compact_bay, trim, take_high}
use Rattle.bay.specs.Bytes.{encode_cell}
use Rattle.bay.specs.Sound.{bytes_of, Sound}
use Rattle.bay.proofs.Laws.{bsize-append, bsize-gap, gap-one}
use Rattle.bay.proofs.BayBytes.{bytes-long, gap-some}
use Rattle.bay.proofs.SoundLaws.{gap-sound}
use Rattle.bay.proofs.Choice.{packed-is, takes-the-end, free-at-the-end}
use Rattle.bays.specs.Places.{end_free}
use Rattle.slide.specs.ZoneBay.{set_all, bay_cells, ZoneBay, settled}
use Rattle.slide.proofs.Change.{Kept, kept-now}
use Rattle.slide.proofs.Compact.{compact-keeps}
use Rattle.room.specs.bay_end.Taken.{trimmed, FreeEnd, before_zeros, CanTake}
use Rattle.room.proofs.bay_end.Masters.{all-write, all-length, all_above, all-free}
use Rattle.room.proofs.bay_end.Trimmed.{write-in}

-- ---- cells in two parts

cells-append : (a b : List Cell) → bytes_of (a ++ b) ≡ bytes_of a ++ bytes_of b
unfolding bytes_of
cells-append [] b = refl
cells-append (c ∷ a) b = ap (encode_cell c ++◌) (cells-append a b) ∙ sym (append_assoc (encode_cell c) (bytes_of a) (bytes_of b))

sound-front : (a b : List Cell) → Sound (a ++ b) → Sound a
sound-front [] b s = tt
sound-front (c ∷ a) b s = (s.0, sound-front a b s.1)

gap-last : (cs : List Cell) (n : ℕ) → 0 < n → Sound (cs ++ gap n []) → n % 4 ≡ 0
gap-last [] zero l s = refl
gap-last [] (suc n) l s = s.0.1
gap-last (c ∷ cs) n l s = gap-last cs n l s.1

-- ---- off k free bytes at the end of settled cells

module _ (z y : List ℕ) (a e k n : ℕ) (cs : List Cell) (order : a ≤ e) (inside : e ≤ length z) (short : length z ≤ longest_zone) (kept : Kept a (e - a) (cs ++ gap k []))
    (low : free_header ≤ n) (fits : n ≤ k) (four : n % 4 ≡ 0) (ey : y ≡ settled z a (cs ++ gap k [])) where
  abbrev x : List ℕ
  x = overwrite z a (bytes_of (cs ++ gap k []))

  long-all : length (bytes_of (cs ++ gap k [])) ≡ e - a
  long-all = bytes-long (cs ++ gap k []) kept.sound ∙ kept.size

  long-x : length x ≡ length z
  long-x = write-length z (bytes_of (cs ++ gap k [])) a (omega (arith, long-all))

  long-cs : length (bytes_of cs) ≡ bay_size cs
  long-cs = bytes-long cs (sound-front cs (gap k []) kept.sound)

  total : bay_size cs + k ≡ e - a
  total = omega (arith, kept.size, bsize-append cs (gap k []), bsize-gap k [])

  k-four : k % 4 ≡ 0
  k-four = gap-last cs k (omega arith) kept.sound

  is-settled : y ≡ set_all a (cs ++ gap k []) x
  unfolding settled
  is-settled = ey

  long-y : length y ≡ length z
  long-y = ap length is-settled ∙ all-length a a (omega arith) a (cs ++ gap k []) x kept.low (omega (arith, long-x)) ∙ long-x

  long-gap : (r : ℕ) → r % 4 ≡ 0 → r ≤ k → length (bytes_of (gap r [])) ≡ r
  long-gap r q l = bytes-long (gap r []) (gap-sound r [] q (omega (arith, total)) tt) ∙ bsize-gap r [] ∙ omega arith

  -- the free block is there
  last-bytes : slice x (e - k) k ≡ encode_cell (free k)
  last-bytes =
      let r = drop (a + length (bytes_of (cs ++ gap k []))) z in
      let q : x ≡ (take a z ++ bytes_of cs) ++ (bytes_of (gap k []) ++ r) = ap (λ (w : List ℕ). (take a z ++ w) ++ r) (cells-append cs (gap k [])) ∙ simp append_assoc in
      let l : length (take a z ++ bytes_of cs) ≡ e - k = omega (arith, length-append (take a z) (bytes_of cs), length-take-le a z (omega arith), long-cs, total) in
      ap (λ (w : List ℕ). slice w (e - k) k) q
      ∙ ap (take k) (drop_at (take a z ++ bytes_of cs) (bytes_of (gap k []) ++ r) (e - k) l)
      ∙ take_at (bytes_of (gap k [])) r k (long-gap k k-four (omega arith))
      ∙ gap-some k (omega arith)

  free-end : FreeEnd y e k n
  free-end = record {
    order = omega (arith, total);
    inside = omega (arith, long-y);
    short = omega (arith, long-y);
    low = low;
    fits = fits;
    four = four;
    four_k = k-four;
    bytes = ap (λ (w : List ℕ). slice w (e - k) k) is-settled ∙ ap (take k) (all_above a (e - k) (omega (arith, total)) a (cs ++ gap k []) x kept.low (omega (arith, long-x))) ∙ last-bytes;
  }

  pub trimmed-is : trimmed y e k n ≡ before_zeros z a (cs ++ gap (k - n) []) n
  unfolding before_zeros
  trimmed-is =
      let w = bytes_of (gap (k - n) []) ++ replicate n 0 in
      let lw : length (bytes_of (gap k [])) ≡ length w =
      omega (arith, long-gap k k-four (omega arith), length-append (bytes_of (gap (k - n) [])) (replicate n 0), long-gap (k - n) (omega (arith, k-four)) (omega arith), length-replicate {A = ℕ} n 0) in
      let inner : overwrite x (e - k) w ≡ overwrite z a (bytes_of (cs ++ gap (k - n) []) ++ replicate n 0) =
      ap (λ (v : List ℕ). overwrite (overwrite z a v) (e - k) w) (cells-append cs (gap k []) ∙ ap (bytes_of cs ++◌) (sym (append-nil (bytes_of (gap k [])))))
      ∙ write-in z (bytes_of cs) (bytes_of (gap k [])) w [] a (e - k) (omega arith) (omega (arith, long-cs, total)) lw
      ∙ ap (overwrite z a) (ap (bytes_of cs ++◌) (append-nil w) ∙ sym (append_assoc (bytes_of cs) (bytes_of (gap (k - n) [])) (replicate n 0)) ∙ ap (◌++ replicate n 0) (sym (cells-append cs (gap (k - n) [])))) in
      ap (λ (v : List ℕ). overwrite v (e - k) w) is-settled
      ∙ sym (all-write a (e - k) (omega (arith, total)) a (cs ++ gap k []) x w kept.low (omega (arith, long-x)))
      ∙ ap (set_all a (cs ++ gap k [])) inner
      ∙ all-free a cs k _ ∙ sym (all-free a cs (k - n) _)

-- ---- a bay's cells

-- all but a last block that is free
abbrev front : List Cell → List Cell
front [] = []
front (c ∷ []) = []
front (c ∷ (d ∷ cs)) = c ∷ front (d ∷ cs)

end_is : (cs : List Cell) → 0 < end_free cs → cs ≡ front cs ++ (free (end_free cs) ∷ [])
end_is [] l = absurd (omega arith)
end_is (free n ∷ []) l = refl
end_is (held e ∷ []) l = absurd (omega arith)
end_is (c ∷ (d ∷ cs)) l = ap (c ∷◌) (end_is (d ∷ cs) l)

trim-none : (n : ℕ) (cs : List Cell) → end_free cs < n → trim n cs ≡ none
trim-none n [] l = refl
trim-none n (free k ∷ []) l = rw (lt-leb n k l)
trim-none n (held e ∷ []) l = refl
trim-none n (free k ∷ (c ∷ cs)) l = ap (over (free k ∷◌)) (trim-none n (c ∷ cs) l)
trim-none n (held e ∷ (c ∷ cs)) l = ap (over (held e ∷◌)) (trim-none n (c ∷ cs) l)

module _ (z : List ℕ) (n a e sum tail : ℕ) (t : CanTake z n a e sum tail) where
  abbrev cs : List Cell
  cs = bay_cells z a e

  pub ask-bay : ZoneBay z a e
  ask-bay = t.bay

  -- in the last block
  module _ (l : n ≤ tail) where
    here : cs ≡ front cs ++ gap tail []
    here = end_is cs (omega (arith, t.low, t.tail_is)) ∙ ap (front cs ++◌) (sym (gap-one (end_free cs) (omega (arith, t.low, t.tail_is))) ∙ ap (λ (k : ℕ). gap k []) (sym t.tail_is))

    kept_here : Kept a (e - a) (front cs ++ gap tail [])
    kept_here = subst (Kept a (e - a)) here (kept-now z a e t.bay)

    settled_here : z ≡ settled z a (front cs ++ gap tail [])
    settled_here = sym t.held ∙ ap (settled z a) here

    high : take_high n cs ≡ front cs ++ gap (tail - n) []
    high = ap (take_high n) (here ∙ ap (front cs ++◌) (gap-one tail (omega (arith, t.low)))) ∙ takes-the-end.high_end_lem n tail (front cs) l

    pub free-here : FreeEnd z e tail n
    free-here = free-end z z a e tail n (front cs) t.bay.order t.bay.inside t.bay.short kept_here t.low l t.four settled_here

    pub taken_here : (y : List ℕ) → y ≡ trimmed z e tail n → y ≡ before_zeros z a (take_high n cs) n
    taken_here y q =
        q ∙ trimmed-is z z a e tail n (front cs) t.bay.order t.bay.inside t.bay.short kept_here t.low l t.four settled_here
        ∙ ap (λ (ds : List Cell). before_zeros z a ds n) (sym high)

  -- after compacting
  module _ (l : tail < n) (z₁ : List ℕ) (c : z₁ ≡ settled z a (compact_bay cs)) where
    abbrev hs : List Cell
    hs = map held (items cs)

    after : compact_bay cs ≡ hs ++ gap sum []
    after = free-at-the-end cs ∙ ap (λ (k : ℕ). hs ++ gap k []) (sym t.sum_is)

    kept-after : Kept a (e - a) (hs ++ gap sum [])
    kept-after = subst (Kept a (e - a)) after (compact-keeps a (e - a) cs (omega (arith, t.bay.inside, t.bay.short)) (kept-now z a e t.bay))

    settled-after : z₁ ≡ settled z a (hs ++ gap sum [])
    settled-after = c ∙ ap (settled z a) after

    low : take_high n cs ≡ hs ++ gap (sum - n) []
    low =
        ap (λ (o : Option (List Cell)). get_or o (packed (items cs) (gap (bay_sum cs - n) []))) (trim-none n cs (omega (arith, t.tail_is)))
        ∙ packed-is (items cs) (gap (bay_sum cs - n) []) ∙ ap (λ (k : ℕ). hs ++ gap (k - n) []) (sym t.sum_is)

    pub free-after : FreeEnd z₁ e sum n
    free-after = free-end z z₁ a e sum n hs t.bay.order t.bay.inside t.bay.short kept-after t.low t.fits t.four settled-after

    pub taken-after : (y : List ℕ) → y ≡ trimmed z₁ e sum n → y ≡ before_zeros z a (take_high n cs) n
    taken-after y q =
        q ∙ trimmed-is z z₁ a e sum n hs t.bay.order t.bay.inside t.bay.short kept-after t.low t.fits t.four settled-after
        ∙ ap (λ (ds : List Cell). before_zeros z a ds n) (sym low)
