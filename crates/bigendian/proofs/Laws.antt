-- The laws of from_be, to_be, slice and overwrite, each proved once for any width.
use mathlib.Core.Path.{◌≡◌, refl, sym, ap, ◌∙◌}
use mathlib.Core.List.{List, [], ◌∷◌, ◌++◌}
use Prim.Native.Nat.{ℕ, zero, suc, ◌+◌, ◌*◌, ◌/◌, ◌%◌, ◌^◌, ◌<◌, ◌≤◌}
use native.Mathlib.Nat.{pow-succ', one-le-pow, mod-eq_of_lt, mul_assoc, mod-one, div-one, mul-add-div_right}
use native.Mathlib.Numerals.{add-one, add-two, towards_suc}
use native.Mathlib.Omega.{arith}
use mir.Val.{Fits}
use mir.Syntax.{w16, w32}
use Rattle.std.specs.Int.{from_be_bytes, from_le_bytes, to_be_bytes}
use lib.Arith.{digits_lt, digits_div, mod-mul}
use lib.ListN.{length, get_or, take, set}
use lib.Seq.{take_at, drop-cons, sets-eq}
use Rattle.bigendian.specs.BigEndian.{from_be, to_be, slice, overwrite, Bytes}

pub pow256-pos : (n : ℕ) → 0 < 256 ^ n
pow256-pos n = one-le-pow n 256 (omega arith)

pub be-lt : (s : List ℕ) → Bytes s → from_be s < 256 ^ length s
unfolding from_be
be-lt [] h = omega arith
be-lt (x ∷ xs) h = rw pow-succ' (digits_lt (h 0) (be-lt xs (λ i. h (suc i))))

pub length-to_be : (n v : ℕ) → length (to_be n v) ≡ n
unfolding to_be
length-to_be zero v = refl
length-to_be (suc n) v = ap suc (length-to_be n v)

pub be-to_be-mod : (n v : ℕ) → from_be (to_be n v) ≡ v % 256 ^ n
unfolding from_be to_be
be-to_be-mod zero v = sym (mod-one v)
be-to_be-mod (suc n) v = rw (length-to_be n v, be-to_be-mod n v, pow-succ') (sym (mod-mul v (omega arith) (pow256-pos n)))

pub be-to_be : (n v : ℕ) → v < 256 ^ n → from_be (to_be n v) ≡ v
be-to_be n v h = be-to_be-mod n v ∙ mod-eq_of_lt h

-- a number in front of other bytes
pub be-front : (n v : ℕ) (t : List ℕ) → v < 256 ^ n → from_be (take n (to_be n v ++ t)) ≡ v
be-front n v t l = rw (take_at (to_be n v) t n (length-to_be n v)) (be-to_be n v l)

-- to_be n looks at the low n bytes alone
pub to_be-low : (n k v : ℕ) → to_be n (k * 256 ^ n + v) ≡ to_be n v
unfolding to_be
to_be-low zero k v = refl
to_be-low (suc n) k v =
    rw (pow-succ', ← mul_assoc k 256 (256 ^ n), mul-add-div_right (pow256-pos n) (k * 256) v, to_be-low n (k * 256) v)
    (ap (λ (d : ℕ). d ∷ to_be n v) (omega arith))

pub to_be-be : (s : List ℕ) → Bytes s → to_be (length s) (from_be s) ≡ s
unfolding from_be to_be
to_be-be [] h = refl
to_be-be (x ∷ xs) h =
    let t : Bytes xs = λ i. h (suc i) in
    rw (digits_div x (be-lt xs t), to_be-low (length xs) x (from_be xs), to_be-be xs t, mod-eq_of_lt (h 0))

pub cut2 : (s : List ℕ) (at : ℕ) → at + 2 ≤ length s → slice s at 2 ≡ get_or s at 0 ∷ get_or s (at + 1) 0 ∷ []
cut2 s at h =
    let h₀ : at < length s = omega arith in
    let h₁ : suc at < length s = omega arith in
    rw (add-one, drop-cons s at 0, drop-cons s (suc at) 0)

pub cut4 : (s : List ℕ) (at : ℕ) → at + 4 ≤ length s → slice s at 4 ≡ get_or s at 0 ∷ get_or s (at + 1) 0 ∷ get_or s (at + 2) 0 ∷ get_or s (at + 3) 0 ∷ []
cut4 s at h =
    let h₀ : at < length s = omega arith in
    let h₁ : suc at < length s = omega arith in
    let h₂ : suc (suc at) < length s = omega arith in
    let h₃ : suc (suc (suc at)) < length s = omega arith in
    simp towards_suc (rw (drop-cons s at 0, drop-cons s (suc at) 0, drop-cons s (suc (suc at)) 0, drop-cons s (suc (suc (suc at))) 0))

pub be2-at : (s : List ℕ) (at : ℕ) → at + 2 ≤ length s → from_be (slice s at 2) ≡ get_or s at 0 * 256 + get_or s (at + 1) 0
unfolding from_be
be2-at s at h = rw (cut2 s at) (omega arith)

pub be2-std : (s : List ℕ) (at : ℕ) → at + 2 ≤ length s → from_be_bytes w16 (get_or s at 0 ∷ get_or s (at + 1) 0 ∷ []) ≡ from_be (slice s at 2)
be2-std s at h = rw (be2-at s at h) (omega arith)

pub be4-at : (s : List ℕ) (at : ℕ) → at + 4 ≤ length s
    → from_be (slice s at 4) ≡ get_or s at 0 * 16777216 + get_or s (at + 1) 0 * 65536 + get_or s (at + 2) 0 * 256 + get_or s (at + 3) 0
unfolding from_be
be4-at s at h = rw (cut4 s at) (omega arith)

-- std's numbers high byte first
pub be4-std : (s : List ℕ) (at : ℕ) → at + 4 ≤ length s
    → from_be_bytes w32 (get_or s at 0 ∷ get_or s (at + 1) 0 ∷ get_or s (at + 2) 0 ∷ get_or s (at + 3) 0 ∷ []) ≡ from_be (slice s at 4)
be4-std s at h = rw (be4-at s at h) (omega arith)

-- the same, the last byte first
pub le4-std : (s : List ℕ) (at : ℕ) → at + 4 ≤ length s
    → from_le_bytes w32 (get_or s (at + 3) 0 ∷ get_or s (at + 2) 0 ∷ get_or s (at + 1) 0 ∷ get_or s at 0 ∷ []) ≡ from_be (slice s at 4)
le4-std s at h = rw (be4-at s at h) (omega arith)

pub to_be-std : (v : ℕ) → to_be_bytes w32 v ≡ to_be 4 v
unfolding to_be
to_be-std v = simp (div-one)

pub put2-law : (s : List ℕ) (at v : ℕ) → at + 2 ≤ length s
    → set (set s at (v / 256 % 256)) (at + 1) (v % 256) ≡ overwrite s at (to_be 2 v)
unfolding to_be
put2-law s at v h =
    let e = sets-eq (v / 256 % 256 ∷ v / 1 % 256 ∷ []) s at h in
    simp (add-one, add-two, div-one) (simp (add-one, add-two, div-one) at e)

put4-bytes : (s : List ℕ) (at v : ℕ) → at + 4 ≤ length s
    → set (set (set (set s at (v / 16777216 % 256)) (at + 1) (v / 65536 % 256)) (at + 2) (v / 256 % 256)) (at + 3) (v % 256)
    ≡ overwrite s at (to_be 4 v)
unfolding to_be
put4-bytes s at v h =
    let e = sets-eq (to_be 4 v) s at h in
    simp (towards_suc, div-one) (simp (towards_suc, div-one) at e)

-- from a number w that has the same bytes, the last one first
pub put4-law : (s : List ℕ) (at v w : ℕ) → at + 4 ≤ length s → w % 256 ≡ v / 16777216 % 256 → w / 256 % 256 ≡ v / 65536 % 256 → w / 65536 % 256 ≡ v / 256 % 256 → w / 16777216 % 256 ≡ v % 256
    → set (set (set (set s at (w % 256)) (at + 1) (w / 256 % 256)) (at + 2) (w / 65536 % 256)) (at + 3) (w / 16777216 % 256)
    ≡ overwrite s at (to_be 4 v)
put4-law s at v w h a b c d = rw (a, b, c, d) (put4-bytes s at v h)

-- ---- four bytes, the last one first

module _ (a b c d : ℕ) (la : a < 256) (lb : b < 256) (lc : c < 256) (ld : d < 256) where
  abbrev r : ℕ
  r = a * 16777216 + b * 65536 + c * 256 + d

  third : r / 256 ≡ a * 65536 + b * 256 + c
  third = omega arith

  second : r / 65536 ≡ a * 256 + b
  second = omega arith

  first : r / 16777216 ≡ a
  first = omega arith

  digits : (r % 256 ≡ d) × (r / 256 % 256 ≡ c) × (r / 65536 % 256 ≡ b) × (r / 16777216 % 256 ≡ a)
  digits = (omega arith, omega (arith, third), omega (arith, second), omega (arith, first))

pub swapped-law : (v : ℕ) → Fits w32 v → let w = v % 256 * 16777216 + v / 256 % 256 * 65536 + v / 65536 % 256 * 256 + v / 16777216 in
    (w % 256 ≡ v / 16777216 % 256) × (w / 256 % 256 ≡ v / 65536 % 256) × (w / 65536 % 256 ≡ v / 256 % 256) × (w / 16777216 % 256 ≡ v % 256)
swapped-law v f =
    let q = digits (v % 256) (v / 256 % 256) (v / 65536 % 256) (v / 16777216) (omega arith) (omega arith) (omega arith) (omega (arith, f.fits)) in
    (omega (arith, q.0, f.fits), q.1, q.2, q.3)
