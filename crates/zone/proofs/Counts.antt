-- The counts of a census, of any limits that rise: a size more adds one to the count of its stratum and to no other, so the counts add up.
use mathlib.Core.Path.{◌≡◌, refl, ap, sym, ◌∙◌}
use mathlib.Core.Logic.{◌⊎◌, inl, inr}
use mathlib.Core.Bool.{Bool, true, false, cond, ◌&&◌, and-false}
use mathlib.Core.List.{List, [], ◌∷◌}
use Prim.Native.Nat.{ℕ, zero, suc, ◌+◌, ◌-◌, ◌/◌, ◌≤◌, ◌<◌}
use native.Mathlib.Omega.{arith}
use native.Mathlib.Nat.{not-le_of_lt}
use native.Mathlib.Decide.{ℕ_discrete}
use lib.Dec.{eqb, leb, ltb}
use lib.ListN.{length, get_or, set, replicate}
use lib.Seq.{get_or-set_same, get_or-set_other}
use borrow.Author.Tests.{eq-eqb, ne_eqb, le-leb, lt-leb, lt-ltb, le-ltb, leb-true, leb-false}
use Rattle.block_type.specs.Limits.{smallest_block}
use Rattle.format.proofs.Count.{All}
use Rattle.calls.specs.LentLimits.{rising}
use Rattle.calls.proofs.LentLimits.{rise-front, rise-rest, rise-first}
use Rattle.zone.specs.Census.{count_if, counts_of}
use Rattle.zone.specs.Formula.{FreeSize}
use Rattle.zone.specs.Strata.{last_of, total_of}

-- ---- one size more

pub length-counts : (ls ws : List ℕ) → length (counts_of ls ws) ≡ length ls
unfolding counts_of
length-counts [] ws = refl
length-counts (a ∷ []) ws = refl
length-counts (a ∷ (b ∷ ls)) ws = ap suc (length-counts (b ∷ ls) ws)

pub zero-counts : (ls : List ℕ) → counts_of ls [] ≡ replicate (length ls) 0
unfolding counts_of count_if
zero-counts [] = refl
zero-counts (a ∷ []) = refl
zero-counts (a ∷ (b ∷ ls)) = ap (0 ∷◌) (zero-counts (b ∷ ls))

count-in : (ok : ℕ → Bool) (w : ℕ) (ws : List ℕ) → ok w ≡ true → count_if ok (w ∷ ws) ≡ count_if ok ws + 1
unfolding count_if
count-in ok w ws t = rw t (omega arith)

count-out : (ok : ℕ → Bool) (w : ℕ) (ws : List ℕ) → ok w ≡ false → count_if ok (w ∷ ws) ≡ count_if ok ws
unfolding count_if
count-out ok w ws t = rw t (omega arith)

-- the first of several strata has the sizes from its limit up to the next one's
module _ (a b w : ℕ) (ls ws : List ℕ) where
  front-in : a ≤ w → w < b → counts_of (a ∷ (b ∷ ls)) (w ∷ ws) ≡ (get_or (counts_of (a ∷ (b ∷ ls)) ws) 0 0 + 1) ∷ counts_of (b ∷ ls) (w ∷ ws)
  unfolding counts_of
  front-in l u = ap (◌∷ counts_of (b ∷ ls) (w ∷ ws)) (count-in (λ v. leb a v && ltb v b) w ws (rw (le-leb a w l, lt-ltb w b u) refl))

  front_out : (w < a) ⊎ (b ≤ w) → counts_of (a ∷ (b ∷ ls)) (w ∷ ws) ≡ get_or (counts_of (a ∷ (b ∷ ls)) ws) 0 0 ∷ counts_of (b ∷ ls) (w ∷ ws)
  unfolding counts_of
  front_out o = ap (◌∷ counts_of (b ∷ ls) (w ∷ ws)) (count-out (λ v. leb a v && ltb v b) w ws (go o))
    where
      go : (w < a) ⊎ (b ≤ w) → (leb a w && ltb w b) ≡ false
      go (inl l) = rw (lt-leb a w l) refl
      go (inr l) = rw (le-ltb w b l) (and-false (leb a w))

-- a size below the first limit is in no stratum
below-first : (a w : ℕ) (ls ws : List ℕ) → rising (a ∷ ls) ≡ true → w < a → counts_of (a ∷ ls) (w ∷ ws) ≡ counts_of (a ∷ ls) ws
unfolding counts_of
below-first a w [] ws r l = ap (◌∷ []) (count-out (leb a) w ws (lt-leb a w l))
below-first a w (b ∷ ls) ws r l =
    front_out a b w ls ws (inl l) ∙ ap (get_or (counts_of (a ∷ (b ∷ ls)) ws) 0 0 ∷◌) (below-first b w ls ws (rise-rest a (b ∷ ls) r) (omega (arith, rise-front a b ls r)))

-- no limit is below the first
from_first : (a : ℕ) (ls : List ℕ) → rising (a ∷ ls) ≡ true → (j : ℕ) → j < length (a ∷ ls) → a ≤ get_or (a ∷ ls) j 0
from_first a ls r zero l = omega arith
from_first a ls r (suc j) l = omega (arith, rise-first a ls r j (omega arith))

-- w words, from the limit j up to the next one, if there is one
pub one_more : (ls : List ℕ) → rising ls ≡ true → (j w : ℕ) (ws : List ℕ) → j < length ls → get_or ls j 0 ≤ w → (suc j < length ls → w < get_or ls (suc j) 0)
    → counts_of ls (w ∷ ws) ≡ set (counts_of ls ws) j (get_or (counts_of ls ws) j 0 + 1)
unfolding counts_of
one_more [] r j w ws l h u = absurd (omega arith)
one_more (a ∷ []) r zero w ws l h u = ap (◌∷ []) (count-in (leb a) w ws (le-leb a w h))
one_more (a ∷ []) r (suc j) w ws l h u = absurd (omega arith)
one_more (a ∷ (b ∷ ls)) r zero w ws l h u =
    let v : w < b = u (omega arith) in
    front-in a b w ls ws h v ∙ ap ((get_or (counts_of (a ∷ (b ∷ ls)) ws) 0 0 + 1) ∷◌) (below-first b w ls ws (rise-rest a (b ∷ ls) r) v)
one_more (a ∷ (b ∷ ls)) r (suc j) w ws l h u =
    let s = rise-rest a (b ∷ ls) r in
    let v : b ≤ w = omega (arith, from_first b ls s j (omega arith)) in
    front_out a b w ls ws (inr v) ∙ ap (get_or (counts_of (a ∷ (b ∷ ls)) ws) 0 0 ∷◌) (one_more (b ∷ ls) s j w ws (omega arith) h (λ k. u (omega arith)))

-- ---- the last of n strata whose limit does not exceed w

module _ (limit : ℕ → ℕ) (w : ℕ) where
  pub last_within : (n : ℕ) → last_of limit w n ≤ n - 1
  last_within zero = omega arith
  last_within (suc n) = go (leb (limit n) w) (last_within n)
    where
      go : (t : Bool) → last_of limit w n ≤ n - 1 → cond t n (last_of limit w n) ≤ suc n - 1
      go true r = omega arith
      go false r = omega arith

  pub last-low : (n : ℕ) → limit 0 ≤ w → limit (last_of limit w n) ≤ w
  last-low zero l = l
  last-low (suc n) l = go (leb (limit n) w) refl (last-low n l)
    where
      go : (t : Bool) → leb (limit n) w ≡ t → limit (last_of limit w n) ≤ w → limit (cond t n (last_of limit w n)) ≤ w
      go true e r = leb-true (limit n) w e
      go false e r = r

  pub last-high : (n j : ℕ) → last_of limit w n < j → j < n → w < limit j
  last-high zero j k l = absurd (omega arith)
  last-high (suc n) j k l = go (leb (limit n) w) refl (ℕ_discrete j n) k (last-high n j)
    where
      go : (t : Bool) → leb (limit n) w ≡ t → Dec (j ≡ n) → cond t n (last_of limit w n) < j → (last_of limit w n < j → j < n → w < limit j) → w < limit j
      go true e d k r = absurd (omega arith)
      go false e (yes q) k r = rw q (leb-false (limit n) w e)
      go false e (no q) k r = r k (omega (arith, q))

  pub last-only : (n i : ℕ) → i < n → limit i ≤ w → ((j : ℕ) → i < j → j < n → w < limit j) → i ≡ last_of limit w n
  last-only zero i l h u = absurd (omega arith)
  last-only (suc n) i l h u = go (leb (limit n) w) refl (ℕ_discrete i n) (λ k. last-only n i k h (λ j a b. u j a (omega arith)))
    where
      go : (t : Bool) → leb (limit n) w ≡ t → Dec (i ≡ n) → (i < n → i ≡ last_of limit w n) → i ≡ cond t n (last_of limit w n)
      go true e (yes q) r = q
      go true e (no q) r = absurd (not-le_of_lt (u n (omega (arith, q)) (omega arith)) (leb-true (limit n) w e))
      go false e (yes q) r = absurd (not-le_of_lt (leb-false (limit n) w e) (rw q at h))
      go false e (no q) r = r (omega (arith, q))

-- ---- a list of counts

count-more : (cs : List ℕ) (j i : ℕ) → j < length cs → get_or (set cs j (get_or cs j 0 + 1)) i 0 ≡ cond (eqb j i) 1 0 + get_or cs i 0
count-more cs j i l = go (ℕ_discrete i j)
  where
    go : Dec (i ≡ j) → get_or (set cs j (get_or cs j 0 + 1)) i 0 ≡ cond (eqb j i) 1 0 + get_or cs i 0
    go (yes q) = rw (q, get_or-set_same cs j (get_or cs j 0 + 1) 0 l, eq-eqb j j refl) (omega arith)
    go (no n) = rw (get_or-set_other cs j i (get_or cs j 0 + 1) 0 n, ne_eqb j i (λ q. n (sym q))) (omega arith)

total-more : (cs : List ℕ) (j : ℕ) → j < length cs → total_of (set cs j (get_or cs j 0 + 1)) ≡ suc (total_of cs)
unfolding total_of
total-more [] j l = absurd (omega arith)
total-more (c ∷ cs) zero l = omega arith
total-more (c ∷ cs) (suc j) l = omega (arith, total-more cs j (omega arith))

zero-at : (n i : ℕ) → get_or {A = ℕ} (replicate n 0) i 0 ≡ 0
zero-at zero i = refl
zero-at (suc n) zero = refl
zero-at (suc n) (suc i) = zero-at n i

zero-total : (n : ℕ) → total_of (replicate n 0) ≡ 0
unfolding total_of
zero-total zero = refl
zero-total (suc n) = omega (arith, zero-total n)

-- ---- many sizes: the first of these limits is none too large for a free block

module _ (ls : List ℕ) (r : rising ls ≡ true) (limit : ℕ → ℕ) (e : (i : ℕ) → i < length ls → get_or ls i 0 ≡ limit i) (p : 0 < length ls) (f : limit 0 ≤ smallest_block / 2) where
  abbrev at : ℕ → ℕ
  at w = last_of limit w (length ls)

  at-within : (w : ℕ) → at w < length ls
  at-within w = omega (arith, last_within limit w (length ls))

  at_more : (w : ℕ) (ws : List ℕ) → FreeSize w → counts_of ls (w ∷ ws) ≡ set (counts_of ls ws) (at w) (get_or (counts_of ls ws) (at w) 0 + 1)
  at_more w ws s =
      one_more ls r (at w) w ws (at-within w)
      (rw (e (at w) (at-within w)) (last-low limit w (length ls) (omega (arith, s.least))))
      (λ l. rw (e (suc (at w)) l) (last-high limit w (length ls) (suc (at w)) (omega arith) l))

  pub counts-last : (ws : List ℕ) → All FreeSize ws → (i : ℕ) → get_or (counts_of ls ws) i 0 ≡ count_if (λ w. eqb (at w) i) ws
  unfolding count_if
  counts-last [] a i = rw (zero-counts ls) (zero-at (length ls) i)
  counts-last (w ∷ ws) a i =
      rw (at_more w ws a.0) (count-more (counts_of ls ws) (at w) i (omega (arith, length-counts ls ws, at-within w)) ∙ ap (cond (eqb (at w) i) 1 0 +◌) (counts-last ws a.1 i))

  pub counts-total : (ws : List ℕ) → All FreeSize ws → total_of (counts_of ls ws) ≡ length ws
  counts-total [] a = rw (zero-counts ls) (zero-total (length ls))
  counts-total (w ∷ ws) a =
      rw (at_more w ws a.0) (total-more (counts_of ls ws) (at w) (omega (arith, length-counts ls ws, at-within w)) ∙ ap suc (counts-total ws a.1))
