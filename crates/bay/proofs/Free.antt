-- Bytes that become free between the cells before them and the cells behind them: releasing a handle is that, and what is free then.
use mathlib.Core.Path.{◌≡◌, refl, sym, ap, ap₂, ◌∙◌}
use mathlib.Core.Bool.{Bool, true, false, cond}
use mathlib.Core.Option.{some}
use mathlib.Core.List.{List, [], ◌∷◌, ◌++◌}
use Prim.Native.Nat.{ℕ, zero, suc, ◌+◌, ◌<◌, ◌≤◌}
use native.Mathlib.Nat.{add-zero, zero-add}
use native.Mathlib.Omega.{arith}
use Rattle.kinds.specs.Kinds.{Item, item_size}
use Rattle.calls.specs.State.{get}
use Rattle.bay.specs.Bay.{Cell, free, held, items, gap, join_bays, release}
use Rattle.bay.specs.Ends.{end_free, start_free}
use Rattle.bay.specs.Counted.{count}
use Rattle.bay.proofs.Sound.{Block, Sound, s-nil, s-end, s-free, s-held}
use Rattle.bay.proofs.Laws.{gap-one}

-- ---- releasing a handle

free-front : (n : ℕ) → Block n → (e : Item) (cs : List Cell) → gap n (held e ∷ cs) ≡ free n ∷ (held e ∷ cs)
free-front zero b e cs = absurd (omega (arith, b))
free-front (suc n) b e cs = refl

-- a handle that no block has
pub release-none : (ok : Item → Bool) {cs : List Cell} → Sound cs → count ok (items cs) ≡ 0 → release ok cs ≡ cs
release-none ok s-nil q = refl
release-none ok (s-end {n = n} b) q = gap-one n (omega (arith, b))
release-none ok (s-free {n = n} {e = e} {cs = cs} b s) q = ap (gap n) (release-none ok s q) ∙ free-front n b e cs
release-none ok (s-held {e = e} {cs = cs} b s) q = go (ok e) q (λ k. release-none ok s k)
  where
    go : (t : Bool) → cond t (suc (count ok (items cs))) (count ok (items cs)) ≡ 0 → (count ok (items cs) ≡ 0 → release ok cs ≡ cs)
        → cond t (gap (item_size e) (release ok cs)) (held e ∷ release ok cs) ≡ held e ∷ cs
    go true q f = absurd (omega arith)
    go false q f = ap (held e ∷◌) (f q)

-- a test that one block of the bay passes: what stands before that block and behind it, and the bay that releasing it leaves
pub record Released (ok : Item → Bool) (e : Item) (cs : List Cell) : Type 0 where
  pub low : List Cell
  pub high : List Cell
  pub its : ok e ≡ true
  pub parts : cs ≡ low ++ (held e ∷ high)
  pub left : release ok cs ≡ join_bays low (gap (item_size e) high)

-- the same with one cell more in front
released-next : (ok : Item → Bool) (e : Item) (c : Cell) (cs : List Cell) → release ok (c ∷ cs) ≡ join_bays (c ∷ []) (release ok cs) → Released ok e cs → Released ok e (c ∷ cs)
released-next ok e (free n) cs q r = record { low = free n ∷ r.low; high = r.high; its = r.its; parts = ap (free n ∷◌) r.parts; left = q ∙ ap (gap n) r.left }
released-next ok e (held d) cs q r = record { low = held d ∷ r.low; high = r.high; its = r.its; parts = ap (held d ∷◌) r.parts; left = q ∙ ap (held d ∷◌) r.left }

pub released : (ok : Item → Bool) (e : Item) {cs : List Cell} → Sound cs → get ok (items cs) ≡ some e → count ok (items cs) ≤ 1 → Released ok e cs
released ok e s-nil g l = let x : ◌≡◌ {A = ℕ} 0 1 = cc in absurd (omega arith)
released ok e (s-end b) g l = let x : ◌≡◌ {A = ℕ} 0 1 = cc in absurd (omega arith)
released ok e (s-free {n = n} {e = d} {cs = cs} b s) g l = released-next ok e (free n) (held d ∷ cs) refl (released ok e s g l)
released ok e (s-held {e = d} {cs = cs} b s) g l = go (ok d) refl g l (λ g l. released ok e s g l)
  where
    go : (t : Bool) → ok d ≡ t → cond t (some d) (get ok (items cs)) ≡ some e → cond t (suc (count ok (items cs))) (count ok (items cs)) ≤ 1
        → (get ok (items cs) ≡ some e → count ok (items cs) ≤ 1 → Released ok e cs) → Released ok e (held d ∷ cs)
    go true i g l f =
        let q : d ≡ e = cc in
        let none : count ok (items cs) ≡ 0 = omega arith in
        record { low = []; high = cs; its = ap ok (sym q) ∙ i; parts = ap (λ (x : Item). held x ∷ cs) q; left = rw i (ap₂ (λ (x : Item) (r : List Cell). gap (item_size x) r) q (release-none ok s none)) }
    go false i g l f = released-next ok e (held d) cs (rw i) (f g l)

-- ---- what is free then

-- a bay without a free block at its end, and without one at its start
abbrev pub lower : List Cell → List Cell
lower [] = []
lower (free n ∷ []) = []
lower (held e ∷ []) = held e ∷ []
lower (c ∷ (d ∷ cs)) = c ∷ lower (d ∷ cs)

abbrev pub upper : List Cell → List Cell
upper [] = []
upper (free n ∷ cs) = cs
upper (held e ∷ cs) = held e ∷ cs

pub lower-is : {cs : List Cell} → Sound cs → lower cs ++ gap (end_free cs) [] ≡ cs
lower-is s-nil = refl
lower-is (s-end {n = n} b) = gap-one n (omega (arith, b))
lower-is (s-free {n = n} b s) = ap (free n ∷◌) (lower-is s)
lower-is (s-held {e = e} b s-nil) = refl
lower-is (s-held {e = e} b (s-end c)) = ap (held e ∷◌) (lower-is (s-end c))
lower-is (s-held {e = e} b (s-free c s)) = ap (held e ∷◌) (lower-is (s-free c s))
lower-is (s-held {e = e} b (s-held c s)) = ap (held e ∷◌) (lower-is (s-held c s))

pub upper_is : {cs : List Cell} → Sound cs → gap (start_free cs) [] ++ upper cs ≡ cs
upper_is s-nil = refl
upper_is (s-end {n = n} b) = ap (◌++ []) (gap-one n (omega (arith, b)))
upper_is (s-free {n = n} {e = e} {cs = cs} b s) = ap (◌++ (held e ∷ cs)) (gap-one n (omega (arith, b)))
upper_is (s-held b s) = refl

gap_is : (n : ℕ) (w : List Cell) → 0 < n → gap n w ≡ free (n + start_free w) ∷ upper w
gap_is zero w l = absurd (omega arith)
gap_is (suc n) [] l = rw add-zero
gap_is (suc n) (free k ∷ w) l = refl
gap_is (suc n) (held e ∷ w) l = rw add-zero

join_free : (m : ℕ) (t : List Cell) {u : List Cell} → Sound u → join_bays u (free m ∷ t) ≡ lower u ++ (free (end_free u + m) ∷ t)
join_free m t s-nil = rw zero-add
join_free m t (s-end {n = zero} b) = absurd (omega (arith, b))
join_free m t (s-end {n = suc n} b) = refl
join_free m t (s-free {n = n} {e = e} {cs = cs} b s) = free-front n b e (join_bays cs (free m ∷ t)) ∙ ap (free n ∷◌) (join_free m t s)
join_free m t (s-held {e = e} b s-nil) = rw zero-add
join_free m t (s-held {e = e} b (s-end c)) = ap (held e ∷◌) (join_free m t (s-end c))
join_free m t (s-held {e = e} b (s-free c s)) = ap (held e ∷◌) (join_free m t (s-free c s))
join_free m t (s-held {e = e} b (s-held c s)) = ap (held e ∷◌) (join_free m t (s-held c s))

-- n free bytes between the cells u and w are one free block with the free bytes beside them
pub joined_is : (n : ℕ) {u : List Cell} (w : List Cell) → 0 < n → Sound u → join_bays u (gap n w) ≡ lower u ++ (free (end_free u + (n + start_free w)) ∷ upper w)
joined_is n {u} w l s = ap (join_bays u) (gap_is n w l) ∙ join_free (n + start_free w) (upper w) s
