-- Resizing inside a bay.
use mathlib.Core.Path.{◌≡◌, refl, ap, sym, ◌∙◌}
use mathlib.Core.Bool.{Bool, true, false, cond, false≢true}
use mathlib.Core.Option.{Option, none, some}
use mathlib.Core.List.{List, [], ◌∷◌, map, append-nil, ◌++◌}
use Prim.Native.Nat.{ℕ, suc, ◌+◌, ◌-◌, ◌%◌, ◌≤◌, ◌<◌}
use native.Mathlib.Omega.{arith}
use lib.ListN.{length, length-append, length-take, length-replicate}
use lib.Dec.{leb}
use borrow.Author.Tests.{leb-true, leb-false}
use Rattle.calls.specs.Bays.{over}
use Rattle.kinds.specs.Kinds.{Item, item_size, is, on_data}
use Rattle.calls.specs.State.{total, alter, get, sized}
use Rattle.calls.proofs.Counted.{alter-none}
use Rattle.kinds.proofs.KindLaws.{facts}
use Rattle.bay.specs.Bay.{Cell, free, held, bay_size, bay_sum, items, gap, packed, resized, grow_into, in_place, grow_here, reshape}
use Rattle.bay.specs.Counted.{count, room_for}
use Rattle.bay.proofs.Each.{Each, nothing, just, each_over, each-cond, each-cond', each-get_d, each_weaken}
use Rattle.bay.proofs.Laws.{bsize-split, bsize-gap, items-gap, bsize-packed, items-packed}
use Rattle.bay.proofs.Sound.{Block, Sound, s-nil, s-end, s-free, s-held, Sizes, z-nil, z-cons, items-sizes, packed-sound, gap-sound, sum-by4}

pub length-sized : (a : ℕ) (l : List ℕ) → length (sized a l) ≡ a
length-sized a l = simp (length-append, length-take, length-replicate) (omega arith)

pub record Shaped (h a : ℕ) (cs ds : List Cell) : Type 0 where
  pub size : bay_size ds ≡ bay_size cs
  pub same : items ds ≡ map (alter (is h) (on_data (sized a))) (items cs)

in_place_lem : (h a : ℕ) (e : Item) (cs : List Cell) → is h e ≡ true → count (is h) (items cs) ≡ 0 → Each (Shaped h a (held e ∷ cs)) (in_place e a cs)
in_place_lem h a e cs p q =
    each-cond' (leb a (length e.bytes))
    (λ k. just (record { size = omega (arith, leb-true a (length e.bytes) k, length-sized a e.bytes, bsize-gap (length e.bytes - a) cs); same = rest (length e.bytes - a) cs q }))
    (λ k. into cs q (leb-false a (length e.bytes) k))
  where
    rest : (n : ℕ) (cs : List Cell) → count (is h) (items cs) ≡ 0 → resized a e ∷ items (gap n cs) ≡ alter (is h) (on_data (sized a)) e ∷ map (alter (is h) (on_data (sized a))) (items cs)
    rest n cs q = rw p (ap (resized a e ∷◌) (items-gap n cs ∙ sym (alter-none (is h) (on_data (sized a)) (items cs) q)))

    into : (cs : List Cell) → count (is h) (items cs) ≡ 0 → length e.bytes < a → Each (Shaped h a (held e ∷ cs)) (grow_into (resized a e) (a - length e.bytes) cs)
    into [] q l = nothing
    into (free k ∷ cs) q l =
        each-cond (leb (a - length e.bytes) k)
        (λ t. just (record { size = omega (arith, leb-true (a - length e.bytes) k t, length-sized a e.bytes, bsize-gap (k - (a - length e.bytes)) cs); same = rest (k - (a - length e.bytes)) cs q })) nothing
    into (held d ∷ cs) q l = nothing

stretch-shaped : (h a : ℕ) (cs : List Cell) → count (is h) (items cs) ≤ 1 → Each (Shaped h a cs) (grow_here h a cs)
stretch-shaped h a [] q = nothing
stretch-shaped h a (free k ∷ cs) q = each_over (free k ∷◌) (λ ds r. record { size = ap (k +◌) r.size; same = r.same }) (stretch-shaped h a cs q)
stretch-shaped h a (held e ∷ cs) q = go (is h e) refl q (λ k. stretch-shaped h a cs k)
  where
    go : (t : Bool) → is h e ≡ t → cond t (suc (count (is h) (items cs))) (count (is h) (items cs)) ≤ 1 → (count (is h) (items cs) ≤ 1 → Each (Shaped h a cs) (grow_here h a cs))
        → Each (Shaped h a (held e ∷ cs)) (cond t (in_place e a cs) (over (held e ∷◌) (grow_here h a cs)))
    go true p q r = in_place_lem h a e cs p (omega arith)
    go false p q r = each_over (held e ∷◌) (λ ds (k : Shaped h a cs ds). record { size = ap (item_size e +◌) k.size; same = rw p (ap (e ∷◌) k.same) }) (r q)

total-alter : (h a : ℕ) (es : List Item) → count (is h) es ≤ 1 → Each (λ (e : Item). total (map (alter (is h) (on_data (sized a))) es) + length e.bytes ≡ total es + a) (get (is h) es)
total-alter h a [] q = nothing
total-alter h a (e ∷ es) q = go (is h e) refl q (λ k. total-alter h a es k)
  where
    go : (t : Bool) → is h e ≡ t → cond t (suc (count (is h) es)) (count (is h) es) ≤ 1 → (count (is h) es ≤ 1 → Each (λ (e : Item). total (map (alter (is h) (on_data (sized a))) es) + length e.bytes ≡ total es + a) (get (is h) es))
        → Each (λ (d : Item). total (map (alter (is h) (on_data (sized a))) (e ∷ es)) + length d.bytes ≡ total (e ∷ es) + a) (cond t (some e) (get (is h) es))
    go true p q r = just {a = e} (rw (p, alter-none (is h) (on_data (sized a)) es (omega arith)) (omega (arith, length-sized a e.bytes)))
    go false p q r = each_weaken (λ d k. rw p (omega (arith, k))) (r q)

-- where the bay has room, its items are resized and it keeps its size
pub reshape-shaped : (h a : ℕ) (cs : List Cell) → count (is h) (items cs) ≤ 1 → room_for a (bay_sum cs) (get (is h) (items cs)) ≡ true → Shaped h a cs (reshape h a cs)
reshape-shaped h a cs q t =
    each-get_d (stretch-shaped h a cs q)
    (record {
      size = room (get (is h) (items cs)) t (total-alter h a (items cs) q);
      same = items-packed new (gap (bay_size cs - total new) []) ∙ ap (new ++◌) (items-gap (bay_size cs - total new) []) ∙ append-nil new;
    })
  where
    new : List Item
    new = map (alter (is h) (on_data (sized a))) (items cs)

    room : (o : Option Item) → room_for a (bay_sum cs) o ≡ true → Each (λ (e : Item). total new + length e.bytes ≡ total (items cs) + a) o → bay_size (packed new (gap (bay_size cs - total new) [])) ≡ bay_size cs
    room none t k = absurd (false≢true t)
    room (some e) t (just k) = omega (arith, bsize-packed new (gap (bay_size cs - total new) []), bsize-gap (bay_size cs - total new) [], bsize-split cs, leb-true (a - length e.bytes) (bay_sum cs) t)

-- soundness
pub resized-block : (a : ℕ) (e : Item) → a % 4 ≡ 0 → Block (item_size (resized a e))
resized-block a e q = omega (arith, length-sized a e.bytes, (facts e).low, (facts e).four)

-- a sound bay before which a free block may stand
record Open (ds : List Cell) : Type 0 where
  pub sound : Sound ds
  pub behind : (n : ℕ) → Block n → Sound (free n ∷ ds)

open-held : {e : Item} {cs : List Cell} → Block (item_size e) → Sound cs → Open (held e ∷ cs)
open-held b s = record { sound = s-held b s; behind = λ n c. s-free c (s-held b s) }

in-place-sound : (a : ℕ) (e : Item) {cs : List Cell} → a % 4 ≡ 0 → Block (item_size e) → Sound cs → Each Open (in_place e a cs)
in-place-sound a e {cs} q b s =
    each-cond' (leb a (length e.bytes))
    (λ k. just (open-held (resized-block a e q) (gap-sound (length e.bytes - a) (omega (arith, b, leb-true a (length e.bytes) k, (facts e).four)) s)))
    (λ k. into s (leb-false a (length e.bytes) k))
  where
    fits : (n : ℕ) → Block n → length e.bytes < a → leb (a - length e.bytes) n ≡ true → (n - (a - length e.bytes)) % 4 ≡ 0
    fits n c l t = omega (arith, b, c, leb-true (a - length e.bytes) n t, (facts e).four)

    into : {cs : List Cell} → Sound cs → length e.bytes < a → Each Open (grow_into (resized a e) (a - length e.bytes) cs)
    into s-nil l = nothing
    into (s-end {n = n} c) l = each-cond (leb (a - length e.bytes) n) (λ t. just (open-held (resized-block a e q) (gap-sound (n - (a - length e.bytes)) (fits n c l t) s-nil))) nothing
    into (s-free {n = n} c s) l = each-cond (leb (a - length e.bytes) n) (λ t. just (open-held (resized-block a e q) (gap-sound (n - (a - length e.bytes)) (fits n c l t) s))) nothing
    into (s-held c s) l = nothing

stretch-open : (h a : ℕ) (e : Item) {cs : List Cell} → a % 4 ≡ 0 → Block (item_size e) → Sound cs → Each Sound (grow_here h a cs) → Each Open (grow_here h a (held e ∷ cs))
stretch-open h a e q b s r = each-cond (is h e) (λ t. in-place-sound a e q b s) (each_over (held e ∷◌) (λ ds k. open-held b k) r)

stretch-sound : (h a : ℕ) {cs : List Cell} → a % 4 ≡ 0 → Sound cs → Each Sound (grow_here h a cs)
stretch-sound h a q s-nil = nothing
stretch-sound h a q (s-end b) = nothing
stretch-sound h a q (s-free {n = n} {e = e} b (s-held c s)) = each_over (free n ∷◌) (λ ds k. k.behind n b) (stretch-open h a e q c s (stretch-sound h a q s))
stretch-sound h a q (s-held {e = e} b s) = each_weaken (λ ds k. k.sound) (stretch-open h a e q b s (stretch-sound h a q s))

pub alter-sizes : (h a : ℕ) {es : List Item} → a % 4 ≡ 0 → Sizes es → Sizes (map (alter (is h) (on_data (sized a))) es)
alter-sizes h a q z-nil = z-nil
alter-sizes h a q (z-cons {e = e} b z) = z-cons (one (is h e)) (alter-sizes h a q z)
  where
    one : (t : Bool) → Block (item_size (cond t (resized a e) e))
    one true = resized-block a e q
    one false = b

pub size-by4 : {es : List Item} → Sizes es → total es % 4 ≡ 0
size-by4 z-nil = refl
size-by4 (z-cons b z) = omega (arith, b, size-by4 z)

pub reshape-sound : (h a : ℕ) {cs : List Cell} → a % 4 ≡ 0 → Sound cs → Sound (reshape h a cs)
reshape-sound h a {cs} q s =
    each-get_d (stretch-sound h a q s)
    (packed-sound new-sizes (gap-sound (bay_size cs - total (map (alter (is h) (on_data (sized a))) (items cs))) (omega (arith, size-by4 new-sizes, sum-by4 s, size-by4 (items-sizes s), bsize-split cs)) s-nil))
  where
    new-sizes : Sizes (map (alter (is h) (on_data (sized a))) (items cs))
    new-sizes = alter-sizes h a q (items-sizes s)
