-- The call on a zone's bytes z, with the new bytes g behind them: whether it is refused, what it leaves, and the two writes that make it.
use mathlib.Core.Path.{◌≡◌, refl, sym, ap, ◌∙◌, subst}
use mathlib.Core.Bool.{Bool, true, false, cond, not, ◌&&◌, ◌||◌}
use mathlib.Core.List.{List, [], ◌∷◌, ◌++◌, map, append-nil}
use Prim.Native.Nat.{ℕ, zero, suc, ◌+◌, ◌-◌, ◌%◌, ◌<◌, ◌≤◌}
use native.Mathlib.Omega.{arith}
use lib.Dec.{eqb, leb}
use borrow.Author.Tests.{eqb-true, leb-true}
use lib.ListN.{length, length-append}
use lib.Seq.{take_at}
use Rattle.structure.proofs.Append.{sizes-append}
use Rattle.free_block.proofs.Hole.{free-hole}
use Rattle.slide.specs.blank.Between.{Hole, nothing, zeros, Between}
use Rattle.bigendian.specs.BigEndian.{slice, to_be, overwrite}
use Rattle.bigendian.proofs.Parts.{slice-take}
use Rattle.block_type.specs.Limits.{free_header, longest_zone, length_at}
use Rattle.format.specs.WellFormed.{first_field}
use Rattle.format.proofs.Bool.{and_left, and_right}
use Rattle.structure.specs.Structure.{Block, Structure, sizes, start, len, encode_block, join, encode, decode_zone, cell}
use Rattle.structure.specs.Valid.{Valid, Tiled}
use Rattle.structure.proofs.Table.{Whole, len_is, encode-zone}
use Rattle.structure.proofs.Sound.{valid-zone}
use Rattle.access.specs.row.Row.{Sound, bytes_of}
use Rattle.access.proofs.row.Laws.{sound-right, sound-four}
use Rattle.access.proofs.row.Zone.{valid-sound}
use Rattle.settle.proofs.surgery.Sound.{tiled-left, tiled-right, tiled-false}
use Rattle.calls.specs.Calls.{told, enlarge}
use Rattle.calls.specs.Bays.{last_s, on_last}
use Rattle.calls.specs.Table.{cause, first, order, refusal_of}
use Rattle.bay.specs.Bay.{Cell, free, bay_size, gap}
use Rattle.bay.proofs.Laws.{bsize-append, bsize-gap}
use Rattle.bay.proofs.SoundLaws.{gap-sound}
use Rattle.zone.specs.Group.{flatten}
use Rattle.zone.specs.Work.{facts}
use Rattle.zone.proofs.GroupLaws.{flatten-group}
use Rattle.bays.specs.Places.{bays_of, BayN, bay_n, bays_at, high_bay, end_free}
use Rattle.bays.specs.Found.{FoundLast}
use Rattle.bays.proofs.At.{at_old, at_new}
use Rattle.bays.proofs.High.{last_found}
use Rattle.settle.proofs.Cells.{all-sizes, all_sound}
use Rattle.room.proofs.bay_end.Found.{zone-tiled, zone-high}
use Rattle.room.proofs.bay_end.End.{rest, rest-behind, lens, end-changed}
use Rattle.call_laws.specs.Frame.{zone_at, Does}
use Rattle.zone_end.specs.enlarge.Enlarge.{accepts, grow, longer, last_free}
use Rattle.zone_end.proofs.enlarge.Last.{solid, solid-is, grow-is}
use Rattle.structure.specs.IsZone.{IsZone}
use Rattle.structure.proofs.IsZone.{whole_of}
use Rattle.structure.proofs.Cells.{gap-sizes}

-- ---- what is accepted

one_of : (a b c : Bool) → not a || (not b || not c) ≡ not (a && b && c)
one_of true true c = refl
one_of true false c = refl
one_of false b c = refl

module _ (buf n k : ℕ) (a : accepts buf n k ≡ true) where
  by4 : k % 4 ≡ 0
  by4 = eqb-true (k % 4) 0 (and_left (eqb (k % 4) 0) (leb n buf) (and_left (eqb (k % 4) 0 && leb n buf) (leb n longest_zone) a))

  pub within : n ≤ buf
  within = leb-true n buf (and_right (eqb (k % 4) 0) (leb n buf) (and_left (eqb (k % 4) 0 && leb n buf) (leb n longest_zone) a))

  pub limit : n ≤ longest_zone
  limit = leb-true n longest_zone (and_right (eqb (k % 4) 0 && leb n buf) (leb n longest_zone) a)

-- ---- the writes

-- what is free in a zone is free with more bytes behind it
hole-longer : (z g : List ℕ) (a b : ℕ) → b ≤ length z → Hole z a b → Hole (z ++ g) a b
hole-longer z g a b l (nothing e) = nothing e
hole-longer z g a b l (zeros k e) =
    zeros k (sym (slice-take (z ++ g) (length z) (a + free_header) (b - (a + free_header)) (omega arith)) ∙ ap (λ (x : List ℕ). slice x (a + free_header) (b - (a + free_header))) (take_at z g (length z) refl) ∙ e)

-- the bytes of n free bytes
free_bytes_lem : (n : ℕ) → 0 < n → bytes_of (rest n) ++ [] ≡ encode_block (cell (free n))
unfolding join
free_bytes_lem zero l = absurd (omega arith)
free_bytes_lem (suc n) l = append-nil _ ∙ append-nil _

-- ---- the call

module _ (z : List ℕ) (i : IsZone z) where
  abbrev d : Structure
  d = decode_zone z

  w : Whole z
  w = whole_of z i

  v : Valid d
  v = valid-zone z w

  len-zone : len d ≡ length z
  len-zone = omega (arith, len_is z w, w.all)

  -- by whether it is accepted
  pub number_is : (buf k : ℕ) (t : Bool) → accepts buf (length z + k) k ≡ t → refusal_of (enlarge k) (facts true (zone_at buf z)) ≡ cond t 0 9
  number_is buf k t a =
      ap (λ (u : Bool). first order (cause 1 false ∷ cause 9 u ∷ []))
      (one_of (eqb (k % 4) 0) (leb (len d + k) buf) (leb (len d + k) longest_zone) ∙ ap not (ap (λ (j : ℕ). accepts buf (j + k) k) len-zone ∙ a))
      ∙ go t
    where
      go : (t : Bool) → first order (cause 1 false ∷ cause 9 (not t) ∷ []) ≡ cond t 0 9
      go true = refl
      go false = refl

  pub grows : (k buf : ℕ) → accepts buf (length z + k) k ≡ true → Does (enlarge k) buf z (told 0 0) (longer k d)
  grows k buf a = record { passed = number_is buf k true a; answer = refl; line = refl }

  -- the last bay
  abbrev b : List Cell
  b = last_s (bays_of d)

  abbrev h : BayN
  h = high_bay 0 (start d) (bays_of d)

  found : (f : List Cell → List Cell) → FoundLast (start d) (len d) f (bays_of d) h.start h.end h.sum h.tail
  found f = last_found (len d) f h.found h.start h.end h.sum h.tail (bays_of d) (start d) (zone-tiled z i (first_field z) refl) refl

  module _ (k : ℕ) where
    abbrev before : List Block
    before = (found (grow k)).before

    -- all blocks but the last, where that is free
    abbrev pre : List Block
    pre = before ++ map cell (solid b)

    split : (cs : List Cell) (n : ℕ) → cs ≡ solid b ++ gap n [] → before ++ (map cell cs ++ []) ≡ pre ++ rest n
    split cs n e = ap (λ (x : List Cell). before ++ (map cell x ++ [])) e ∙ rest-behind before (solid b) n

    old : d.blocks ≡ before ++ (map cell b ++ [])
    old = sym (flatten-group (start d) d.blocks) ∙ at_old (found (grow k)).at

    tiled : Tiled false (map cell b)
    tiled = tiled-false _ (map cell b) (tiled-left _ (map cell b) [] (tiled-right false before (map cell b ++ []) (subst (Tiled false) old v.tiled)))

    parts : d.blocks ≡ pre ++ rest (end_free b)
    parts = old ∙ split b (end_free b) (solid-is false b tiled)

    grown : flatten (on_last (grow k) (bays_of d)) ≡ pre ++ rest (end_free b + k)
    grown = at_new (found (grow k)).at ∙ split (grow k b) (end_free b + k) (grow-is k false b tiled)

    bay-size : bay_size b ≡ bay_size (solid b) + end_free b
    bay-size = omega (arith, ap (λ (cs : List Cell). bay_size cs) (solid-is false b tiled), bsize-append (solid b) (gap (end_free b) []), bsize-gap (end_free b) [])

    is-from : last_free d ≡ start d + sizes pre
    is-from =
        let n = (found (grow k)).numbers in
        omega (arith, n.start_is, n.end_is, n.tail_is, bay-size, sizes-append before (map cell (solid b)), all-sizes (solid b))

    total : length z ≡ last_free d + end_free b
    total = omega (arith, len-zone, is-from, ap sizes parts, sizes-append pre (rest (end_free b)), gap-sizes (end_free b))

    tail-le : h.tail ≤ h.end
    tail-le = let n = (found (grow k)).numbers in omega (arith, n.end_is, n.tail_is, bay-size)

    pub idle : k ≡ 0 → z ≡ encode (longer k d)
    idle e =
        let n : end_free b ≡ end_free b + k = omega arith in
        sym (encode-zone z w) ∙ ap encode (λ j. record { clock = d.clock; chain = d.chain; blocks = (parts ∙ ap (λ (x : ℕ). pre ++ rest x) n ∙ sym grown) j })

    last-hole : Hole z (last_free d) (length z)
    last-hole = go (end_free b) refl parts
      where
        go : (n : ℕ) → end_free b ≡ n → d.blocks ≡ pre ++ rest n → Hole z (last_free d) (length z)
        go zero e q = nothing (omega (arith, total))
        go (suc n) e q = subst (Hole z (last_free d)) (sym (total ∙ ap (last_free d +◌) e)) (subst (λ (o : ℕ). Hole z o (o + suc n)) (sym is-from) (free-hole z i pre (suc n) [] q))

    module _ (buf : ℕ) (a : accepts buf (length z + k) k ≡ true) (pos : 0 < k) (g : List ℕ) (lg : length g ≡ k) where
      long : length (z ++ g) ≡ length z + k
      long = omega (arith, length-append z g)

      sum-four : (end_free b + k) % 4 ≡ 0
      sum-four =
          let l : end_free b % 4 ≡ 0 = rw gap-sizes at (sound-four (rest (end_free b)) (sound-right pre (rest (end_free b)) (subst Sound parts (valid-sound d v)))) in
          omega (arith, by4 buf (length z + k) k a)

      pub between : Between (z ++ g) (last_free d) (length z) (length (z ++ g)) (length (z ++ g))
      between = record {
        low = omega (arith, total);
        order = omega (arith, long);
        some = omega (arith, total, long, by4 buf (length z + k) k a);
        high = omega arith;
        fits = omega arith;
        short = omega (arith, long, limit buf (length z + k) k a);
        ahead = hole-longer z g (last_free d) (length z) (omega arith) last-hole;
        behind = nothing refl;
      }

      pub written : overwrite (overwrite (z ++ g) (last_free d) (encode_block (cell (free (length (z ++ g) - last_free d))))) length_at (to_be 4 (length (z ++ g))) ≡ encode (longer k d)
      written =
          let n = end_free b + k in
          let so : Sound (rest n) = all_sound (gap n []) (gap-sound n [] sum-four (omega (arith, limit buf (length z + k) k a, total)) tt) in
          let same : end_free b + length g ≡ n + length {A = ℕ} [] = omega arith in
          let e₁ : z ++ g ≡ encode d ++ g = ap (◌++ g) (sym (encode-zone z w)) in
          let e₂ : length (z ++ g) - last_free d ≡ n = omega (arith, long, total) in
          let e₃ : length (z ++ g) ≡ len (record { clock = d.clock; chain = d.chain; blocks = pre ++ rest n }) = omega (arith, long, len-zone, lens d pre (end_free b) n g [] parts (valid-sound d v) so same) in
          (λ j. overwrite (overwrite (e₁ j) (is-from j) (encode_block (cell (free (e₂ j))))) length_at (to_be 4 (length (z ++ g))))
          ∙ ap (λ (x : List ℕ). overwrite (overwrite (encode d ++ g) (start d + sizes pre) x) length_at (to_be 4 (length (z ++ g)))) (sym (free_bytes_lem n (omega arith)))
          ∙ end-changed d pre (end_free b) n g [] parts (valid-sound d v) so same (length (z ++ g)) e₃
          ∙ append-nil _
          ∙ ap (λ (bs : List Block). encode (record { clock = d.clock; chain = d.chain; blocks = bs })) (sym grown)

  -- what the search answers, where the blocks begin at first
  module _ (first : ℕ) (ef : first ≡ first_field z) (g : Bool) (a e sum tail : ℕ) (q : bay_n g a e sum tail ≡ high_bay 0 first (bays_at z first)) where
    numbers : bay_n g a e sum tail ≡ h
    numbers = zone-high z i first ef 0 _ q

    pub last-at : e - tail ≡ last_free d
    last-at = ap (λ (n : BayN). n.end - n.tail) numbers

    pub last-low : tail ≤ e
    last-low = omega (arith, ap (λ (n : BayN). n.end) numbers, ap (λ (n : BayN). n.tail) numbers, tail-le 0)
