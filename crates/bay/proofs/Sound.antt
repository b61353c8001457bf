-- A sound bay: sizes are multiples of 4 and not 0, and no two free blocks are neighbours. Each change of a bay keeps it.
use mathlib.Core.Path.{◌≡◌, refl, subst}
use mathlib.Core.Bool.{Bool, true, false, cond}
use mathlib.Core.List.{List, [], ◌∷◌, ◌++◌}
use Prim.Native.Nat.{ℕ, zero, suc, ◌+◌, ◌-◌, ◌%◌, ◌≤◌, ◌<◌}
use native.Mathlib.Omega.{arith}
use lib.Dec.{leb}
use borrow.Author.Tests.{leb-true}
use Rattle.kinds.specs.Kinds.{Item, item_size}
use Rattle.calls.specs.State.{alter}
use Rattle.bay.specs.Bay.{Cell, free, held, bay_sum, items, gap, packed, join_bays, compact_bay, packed_less, put, trim, take_high, release, edit}
use Rattle.bay.proofs.Each.{Each, nothing, just, each_over, each-cond, each-get_d}
use Rattle.bay.proofs.Holes.{Put, in-hole, compacted, put_is}
use Rattle.bay.proofs.Laws.{alter-size}

pub record Block (n : ℕ) : Type 0 where
  pub some_bytes : 0 < n
  pub by4 : n % 4 ≡ 0

pub data Sound : List Cell → Type 0 where
  s-nil : Sound []
  s-end : {n : ℕ} → Block n → Sound (free n ∷ [])
  s-free : {n : ℕ} {e : Item} {cs : List Cell} → Block n → Sound (held e ∷ cs) → Sound (free n ∷ held e ∷ cs)
  s-held : {e : Item} {cs : List Cell} → Block (item_size e) → Sound cs → Sound (held e ∷ cs)

pub gap-sound : (n : ℕ) {cs : List Cell} → n % 4 ≡ 0 → Sound cs → Sound (gap n cs)
gap-sound zero q s = s
gap-sound (suc n) q s-nil = s-end {n = suc n} (omega arith)
gap-sound (suc n) q (s-end {n = k} b) = s-end {n = suc n + k} (omega (arith, b))
gap-sound (suc n) q (s-free {n = k} b s) = s-free {n = suc n + k} (omega (arith, b)) s
gap-sound (suc n) q (s-held b s) = s-free {n = suc n} (omega arith) (s-held b s)

-- the items' sizes are sound
pub data Sizes : List Item → Type 0 where
  z-nil : Sizes []
  z-cons : {e : Item} {es : List Item} → Block (item_size e) → Sizes es → Sizes (e ∷ es)

pub items-sizes : {cs : List Cell} → Sound cs → Sizes (items cs)
items-sizes s-nil = z-nil
items-sizes (s-end b) = z-nil
items-sizes (s-free b s) = items-sizes s
items-sizes (s-held b s) = z-cons b (items-sizes s)

pub packed-sound : {es : List Item} {t : List Cell} → Sizes es → Sound t → Sound (packed es t)
packed-sound z-nil s = s
packed-sound (z-cons b z) s = s-held b (packed-sound z s)

pub sum-by4 : {cs : List Cell} → Sound cs → bay_sum cs % 4 ≡ 0
sum-by4 s-nil = refl
sum-by4 (s-end b) = omega (arith, b)
sum-by4 (s-free {n = n} {e = e} {cs = cs} b s) = let h : bay_sum (held e ∷ cs) % 4 ≡ 0 = sum-by4 s in omega (arith, b)
sum-by4 (s-held b s) = sum-by4 s

pub tidy-sound : {cs : List Cell} → Sound cs → Sound (compact_bay cs)
tidy-sound {cs} s = packed-sound (items-sizes s) (gap-sound (bay_sum cs) (sum-by4 s) s-nil)

pub less-sound : (n : ℕ) {cs : List Cell} → n % 4 ≡ 0 → Sound cs → Sound (packed_less n cs)
less-sound n {cs} q s = packed-sound (items-sizes s) (gap-sound (bay_sum cs - n) (omega (arith, sum-by4 s)) s-nil)

behind-free : {k : ℕ} {after : List Cell} → Sound (free k ∷ after) → Sound after
behind-free (s-end b) = s-nil
behind-free (s-free b s) = s

hole-four : {k : ℕ} {after : List Cell} → Sound (free k ∷ after) → k % 4 ≡ 0
hole-four (s-end b) = b.by4
hole-four (s-free b s) = b.by4

-- a new block from the low end of a free one
hole-sound : (e : Item) → Block (item_size e) → (before : List Cell) (k : ℕ) (after : List Cell) → item_size e ≤ k → Sound (before ++ (free k ∷ after))
    → Sound (before ++ (held e ∷ gap (k - item_size e) after))
hole-sound e q [] k after l s = s-held q (gap-sound (k - item_size e) (omega (arith, q, hole-four s)) (behind-free s))
hole-sound e q (free m ∷ (held d ∷ before)) k after l (s-free b s) = s-free b (hole-sound e q (held d ∷ before) k after l s)
hole-sound e q (free m ∷ []) k after l s = elim s [ ]
hole-sound e q (free m ∷ (free _ ∷ before)) k after l s = elim s [ ]
hole-sound e q (held d ∷ before) k after l (s-held b s) = s-held b (hole-sound e q before k after l s)

pub put-sound : (e : Item) {cs : List Cell} → Block (item_size e) → Sound cs → Sound (put e cs)
put-sound e {cs} q s = go (put_is e cs)
  where
    go : {ds : List Cell} → Put e cs ds → Sound ds
    go (in-hole x p l) = hole-sound e q x.before x.size x.after l (subst Sound p s)
    go compacted = packed-sound (items-sizes s) (s-held q (gap-sound (bay_sum cs - item_size e) (omega (arith, q, sum-by4 s)) s-nil))

pub trim-sound : (n : ℕ) {cs : List Cell} → n % 4 ≡ 0 → Sound cs → Each Sound (trim n cs)
trim-sound n q s-nil = nothing
trim-sound n q (s-end {n = k} b) = each-cond (leb n k) (λ h. just (gap-sound (k - n) (omega (arith, leb-true n k h, b)) s-nil)) nothing
trim-sound n q (s-free {n = k} {e = d} {cs = cs} b (s-held c s)) =
    let r : Each (λ a. Sound (free k ∷ a)) (trim n (held d ∷ cs)) = each_over (held d ∷◌) (λ a p. s-free b (s-held c p)) (trim-sound n q s) in
    each_over (free k ∷◌) (λ a p. p) r
trim-sound n q (s-held {e = d} b s) = each_over (held d ∷◌) (λ a p. s-held b p) (trim-sound n q s)

pub cut-sound : (n : ℕ) {cs : List Cell} → n % 4 ≡ 0 → n ≤ bay_sum cs → Sound cs → Sound (take_high n cs)
cut-sound n q h s = each-get_d (trim-sound n q s) (less-sound n q s)

cond-sound : (t : Bool) {a b : List Cell} → Sound a → Sound b → Sound (cond t a b)
cond-sound true p q = p
cond-sound false p q = q

pub release-sound : (ok : Item → Bool) {cs : List Cell} → Sound cs → Sound (release ok cs)
release-sound ok s-nil = s-nil
release-sound ok (s-end {n = n} b) = gap-sound n b.by4 s-nil
release-sound ok (s-free {n = n} b s) = gap-sound n b.by4 (release-sound ok s)
release-sound ok (s-held {e = e} b s) = cond-sound (ok e) (gap-sound (item_size e) b.by4 (release-sound ok s)) (s-held b (release-sound ok s))

pub weld-sound : {cs t : List Cell} → Sound cs → Sound t → Sound (join_bays cs t)
weld-sound s-nil r = r
weld-sound (s-end {n = n} b) r = gap-sound n b.by4 r
weld-sound (s-free {n = n} b s) r = gap-sound n b.by4 (weld-sound s r)
weld-sound (s-held b s) r = s-held b (weld-sound s r)

pub alter-block : (ok : Item → Bool) (g : Item → Item) → ((e : Item) → item_size (g e) ≡ item_size e) → (e : Item) → Block (item_size e) → Block (item_size (alter ok g e))
alter-block ok g q e b = rw (alter-size ok g e q) b

pub edit-sound : (ok : Item → Bool) (g : Item → Item) → ((e : Item) → item_size (g e) ≡ item_size e) → {cs : List Cell} → Sound cs → Sound (edit ok g cs)
edit-sound ok g q s-nil = s-nil
edit-sound ok g q (s-end b) = s-end b
edit-sound ok g q (s-free b (s-held {e = e} c s)) = s-free b (s-held (alter-block ok g q e c) (edit-sound ok g q s))
edit-sound ok g q (s-held {e = e} b s) = s-held (alter-block ok g q e b) (edit-sound ok g q s)
