-- Parts of a list: how long a part is, a part of a part, two parts one behind the other; parts of zeros.
use mathlib.Core.Path.{◌≡◌, sym, ap, ◌∙◌}
use mathlib.Core.List.{List, [], ◌∷◌, ◌++◌}
use Prim.Native.Nat.{ℕ, zero, suc, ◌+◌, ◌-◌, ◌<◌, ◌≤◌}
use native.Mathlib.Nat.{sub-zero, zero-sub, suc-sub-suc}
use native.Mathlib.Numerals.{sub-one}
use native.Mathlib.Omega.{arith}
use lib.ListN.{length, take, drop, replicate, length-take, length-drop, take-append-drop}
use lib.Seq.{take-take, take-nil, take-add, drop-drop}
use Rattle.std.proofs.lemmas.List.{take-replicate, drop-replicate}
use Rattle.bigendian.specs.BigEndian.{slice}

pub length-slice : (s : List ℕ) (at n : ℕ) → at + n ≤ length s → length (slice s at n) ≡ n
length-slice s at n h = omega (arith, length-take n (drop at s), length-drop at s)

pub drop-pred : (n x : ℕ) (xs : List ℕ) → 0 < n → drop n (x ∷ xs) ≡ drop (n - 1) xs
drop-pred zero x xs h = let e : ⊥ = omega arith in absurd e
drop-pred (suc n) x xs h = rw sub-one

pub drop-take : (k n : ℕ) (l : List ℕ) → drop k (take n l) ≡ take (n - k) (drop k l)
drop-take zero n l = rw sub-zero
drop-take (suc k) zero l = rw (zero-sub)
drop-take (suc k) (suc n) [] = sym (take-nil (suc n - suc k))
drop-take (suc k) (suc n) (x ∷ xs) = rw suc-sub-suc (drop-take k n xs)

-- what lies before a place does not depend on what lies behind it
pub slice-take : (s : List ℕ) (n k j : ℕ) → k + j ≤ n → slice (take n s) k j ≡ slice s k j
slice-take s n k j l = rw (drop-take k n s, take-take j (n - k) (drop k s) (omega arith))

pub slice-add : (s : List ℕ) (at m n : ℕ) → slice s at (m + n) ≡ slice s at m ++ slice s (at + m) n
slice-add s at m n = take-add m n (drop at s) ∙ ap (λ (r : List ℕ). slice s at m ++ take n r) (drop-drop m at s)

-- a part, and all that lies behind it
pub slice-rest : (s : List ℕ) (k n : ℕ) → drop k s ≡ slice s k n ++ drop (k + n) s
slice-rest s k n = sym (ap (slice s k n ++◌) (sym (drop-drop n k s)) ∙ take-append-drop n (drop k s))

-- ---- zeros

pub take-zeros : (k n : ℕ) → k ≤ n → take {A = ℕ} k (replicate n 0) ≡ replicate k 0
take-zeros k n l = take-replicate k n 0 l

-- the zeros of a free block, less some
pub drop-zeros : (k n : ℕ) → drop {A = ℕ} k (replicate n 0) ≡ replicate (n - k) 0
drop-zeros k n = drop-replicate k n 0
