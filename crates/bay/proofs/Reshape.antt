-- A bay in which a block has got another size: where the block stands, or laid out as compacted.
use mathlib.Core.Path.{◌≡◌, refl, sym, ap, ap₂, ◌∙◌}
use mathlib.Core.Bool.{Bool, true, false}
use mathlib.Core.Option.{Option, none, get_or}
use mathlib.Core.List.{List, [], ◌∷◌, ◌++◌, map, append-nil, append_assoc, map-append}
use Prim.Native.Nat.{ℕ, zero, suc, ◌+◌, ◌-◌, ◌≤◌, ◌<◌}
use native.Mathlib.Omega.{arith}
use lib.ListN.{length}
use lib.Dec.{leb}
use borrow.Author.Tests.{leb-true, leb-false, lt-leb}
use Rattle.calls.specs.Bays.{over}
use Rattle.kinds.specs.Kinds.{Item, is, on_data}
use Rattle.calls.specs.State.{total, alter, sized}
use Rattle.calls.proofs.Counted.{get_none, alter-none}
use Rattle.bay.specs.Bay.{Cell, free, held, bay_size, bay_sum, items, gap, packed, resized, in_place, grow_here, reshape}
use Rattle.bay.specs.Counted.{count}
use Rattle.bay.specs.Ends.{start_free, past_start}
use Rattle.bay.proofs.Laws.{items-append, bsize-split, gap-one}
use Rattle.bay.proofs.Sound.{Sound, s-nil, s-end, s-free, s-held}
use Rattle.bay.proofs.Choice.{packed-is, here-after, at-handle, grows-in-place}
use Rattle.bay.proofs.Resize.{length-sized}

-- ---- free bytes in front of sound cells: what follows a free block is not free

gap-held : (n : ℕ) (e : Item) (cs : List Cell) → gap n (held e ∷ cs) ≡ gap n [] ++ (held e ∷ cs)
gap-held zero e cs = refl
gap-held (suc n) e cs = refl

gap-apart : (n : ℕ) {k : ℕ} {cs : List Cell} → Sound (free k ∷ cs) → gap n cs ≡ gap n [] ++ cs
gap-apart n (s-end b) = sym (append-nil (gap n []))
gap-apart n (s-free {e = e} {cs = cs} b s) = gap-held n e cs

gap-free : (n k : ℕ) (cs : List Cell) → 0 < k → gap n (free k ∷ cs) ≡ gap (n + k) [] ++ cs
gap-free zero k cs l = let e : k ≡ 0 + k = omega arith in ap (λ (i : ℕ). free i ∷ cs) e ∙ sym (ap (◌++ cs) (gap-one (0 + k) (omega arith)))
gap-free (suc n) k cs l = sym (ap (◌++ cs) (gap-one (suc n + k) (omega arith)))

pub gap-lead : (n : ℕ) {cs : List Cell} → Sound cs → gap n cs ≡ gap (n + start_free cs) [] ++ past_start cs
gap-lead n s-nil = let e : n ≡ n + 0 = omega arith in ap (λ (k : ℕ). gap k []) e ∙ sym (append-nil (gap (n + 0) []))
gap-lead n (s-end {n = k} b) = gap-free n k [] b.some_bytes
gap-lead n (s-free {n = k} {e = e} {cs = cs} b s) = gap-free n k (held e ∷ cs) b.some_bytes
gap-lead n (s-held {e = e} {cs = cs} b s) = let q : n ≡ n + 0 = omega arith in gap-held n e cs ∙ ap (λ (k : ℕ). gap k [] ++ (held e ∷ cs)) q

-- ---- the block e between the cells u and w

module _ (h : ℕ) (e : Item) (its : is h e ≡ true) (a : ℕ) (u w : List Cell) (first : count (is h) (items u) ≡ 0) where
  abbrev b : ℕ
  b = length e.bytes

  -- there is room right behind it
  pub reshape-here : Sound w → a ≤ b + start_free w → reshape h a (u ++ (held e ∷ w)) ≡ u ++ (held (resized a e) ∷ (gap (b + start_free w - a) [] ++ past_start w))
  reshape-here s l = go (leb a b) refl
    where
      larger : {cs : List Cell} → Sound cs → b < a → a ≤ b + start_free cs → reshape h a (u ++ (held e ∷ cs)) ≡ u ++ (held (resized a e) ∷ (gap (b + start_free cs - a) [] ++ past_start cs))
      larger s-nil k m = absurd (omega arith)
      larger (s-held c t) k m = absurd (omega arith)
      larger (s-end {n = n} c) k m =
          let q : n - (a - b) ≡ b + n - a = omega arith in
          grows-in-place.larger h e a n u [] its (get_none (is h) (items u) first) k (omega arith) ∙ ap (λ (t : List Cell). u ++ (held (resized a e) ∷ t)) (gap-apart (n - (a - b)) (s-end {n = n} c) ∙ ap (λ (i : ℕ). gap i [] ++ []) q)
      larger (s-free {n = n} {e = d} {cs = cs} c t) k m =
          let q : n - (a - b) ≡ b + n - a = omega arith in
          grows-in-place.larger h e a n u (held d ∷ cs) its (get_none (is h) (items u) first) k (omega arith)
          ∙ ap (λ (t : List Cell). u ++ (held (resized a e) ∷ t)) (gap-held (n - (a - b)) d cs ∙ ap (λ (i : ℕ). gap i [] ++ (held d ∷ cs)) q)

      go : (t : Bool) → leb a b ≡ t → reshape h a (u ++ (held e ∷ w)) ≡ u ++ (held (resized a e) ∷ (gap (b + start_free w - a) [] ++ past_start w))
      go true k =
          let q : b - a + start_free w ≡ b + start_free w - a = omega (arith, leb-true a b k) in
          grows-in-place.smaller h e a u w its (get_none (is h) (items u) first) (leb-true a b k)
          ∙ ap (λ (t : List Cell). u ++ (held (resized a e) ∷ t)) (gap-lead (b - a) s ∙ ap (λ (n : ℕ). gap n [] ++ past_start w) q)
      go false k = larger s (leb-false a b k) l

  -- there is not: the bay is laid out
  no_room_lem : (cs : List Cell) → b + start_free cs < a → in_place e a cs ≡ none
  no_room_lem [] l = rw (lt-leb a b (omega arith))
  no_room_lem (held d ∷ cs) l = rw (lt-leb a b (omega arith))
  no_room_lem (free k ∷ cs) l = rw (lt-leb a b (omega arith), lt-leb (a - b) k (omega arith))

  total-append : (xs ys : List Item) → total (xs ++ ys) ≡ total xs + total ys
  total-append [] ys = omega arith
  total-append (x ∷ xs) ys = omega (arith, total-append xs ys)

  alter-one : alter (is h) (on_data (sized a)) e ≡ resized a e
  alter-one = rw its

  pub reshape-laid : count (is h) (items w) ≡ 0 → b + start_free w < a → a - b ≤ bay_sum (u ++ (held e ∷ w))
      → reshape h a (u ++ (held e ∷ w)) ≡ map held (items u) ++ (held (resized a e) ∷ (map held (items w) ++ gap (bay_sum (u ++ (held e ∷ w)) - (a - b)) []))
  reshape-laid last l m =
      let cs = u ++ (held e ∷ w) in
      let es = map (alter (is h) (on_data (sized a))) (items cs) in
      let none_here : grow_here h a cs ≡ none = here-after h a u (held e ∷ w) (get_none (is h) (items u) first) ∙ ap (over (u ++◌)) (at-handle h e a w its ∙ no_room_lem w l) in
      let i : items cs ≡ items u ++ (e ∷ items w) = items-append u (held e ∷ w) in
      let es-are : es ≡ items u ++ (resized a e ∷ items w) =
      ap (map (alter (is h) (on_data (sized a)))) i ∙ map-append (alter (is h) (on_data (sized a))) (items u) (e ∷ items w)
      ∙ ap₂ (λ (x y : List Item). x ++ y) (alter-none (is h) (on_data (sized a)) (items u) first) (ap₂ (λ (x : Item) (y : List Item). x ∷ y) alter-one (alter-none (is h) (on_data (sized a)) (items w) last)) in
      let n : bay_size cs - total es ≡ bay_sum cs - (a - b) =
      omega (arith, ap total es-are, total-append (items u) (resized a e ∷ items w), bsize-split cs, ap total i, total-append (items u) (e ∷ items w), length-sized a e.bytes) in
      ap (λ (o : Option (List Cell)). get_or o (packed es (gap (bay_size cs - total es) []))) none_here
      ∙ packed-is es (gap (bay_size cs - total es) [])
      ∙ ap₂ (λ (x : List Item) (k : ℕ). map held x ++ gap k []) es-are n
      ∙ ap (λ (x : List Cell). x ++ gap (bay_sum cs - (a - b)) []) (map-append held (items u) (resized a e ∷ items w))
      ∙ append_assoc (map held (items u)) (held (resized a e) ∷ map held (items w)) (gap (bay_sum cs - (a - b)) [])
