-- Lists of bytes: their parts, and what makes a list of bytes of such.
use mathlib.Core.Path.{◌≡◌, subst}
use mathlib.Core.List.{List, [], ◌∷◌, ◌++◌}
use Prim.Native.Nat.{ℕ, zero, suc, ◌+◌, ◌^◌, ◌<◌, ◌≤◌}
use native.Mathlib.Omega.{arith}
use lib.ListN.{length, take, drop, set, replicate}
use lib.Seq.{sets, get_or-drop, take-append_seam, drop-append_seam, length-take-le}
use Rattle.bigendian.specs.BigEndian.{from_be, to_be, Bytes}
use Rattle.bigendian.proofs.Laws.{be-lt, to_be-be}

pub bytes_take : (n : ℕ) (s : List ℕ) → Bytes s → Bytes (take n s)
bytes_take zero s h i = omega arith
bytes_take (suc n) [] h i = omega arith
bytes_take (suc n) (x ∷ xs) h zero = h 0
bytes_take (suc n) (x ∷ xs) h (suc i) = bytes_take n xs (λ j. h (suc j)) i

pub bytes_drop : (n : ℕ) (s : List ℕ) → Bytes s → Bytes (drop n s)
bytes_drop n s h i = rw get_or-drop (h (n + i))

pub bytes_left : (a b : List ℕ) → Bytes (a ++ b) → Bytes a
bytes_left a b h = subst Bytes (take-append_seam a b) (bytes_take (length a) (a ++ b) h)

pub bytes-right : (a b : List ℕ) → Bytes (a ++ b) → Bytes b
bytes-right a b h = subst Bytes (drop-append_seam a b) (bytes_drop (length a) (a ++ b) h)

-- the bytes of a part are those of its number
pub part_bytes : (n : ℕ) (s : List ℕ) → Bytes s → n ≤ length s → to_be n (from_be (take n s)) ≡ take n s
part_bytes n s h l =
    subst (λ (k : ℕ). to_be k (from_be (take n s)) ≡ take n s) (length-take-le n s l) (to_be-be (take n s) (bytes_take n s h))

-- the number in the first n bytes
pub part_small : (n : ℕ) (s : List ℕ) → Bytes s → n ≤ length s → from_be (take n s) < 256 ^ n
part_small n s y l = rw (length-take-le n s l) at (be-lt (take n s) (bytes_take n s y))

pub bytes-zeros : (n : ℕ) → Bytes (replicate n 0)
bytes-zeros zero i = omega arith
bytes-zeros (suc n) zero = omega arith
bytes-zeros (suc n) (suc i) = bytes-zeros n i

pub bytes-append : (a b : List ℕ) → Bytes a → Bytes b → Bytes (a ++ b)
bytes-append [] b p q i = q i
bytes-append (x ∷ a) b p q zero = p 0
bytes-append (x ∷ a) b p q (suc i) = bytes-append a b (λ j. p (suc j)) q i

bytes-set : (s : List ℕ) (k a : ℕ) → a < 256 → Bytes s → Bytes (set s k a)
bytes-set [] k a l h i = h i
bytes-set (x ∷ s) zero a l h zero = l
bytes-set (x ∷ s) zero a l h (suc i) = h (suc i)
bytes-set (x ∷ s) (suc k) a l h zero = h 0
bytes-set (x ∷ s) (suc k) a l h (suc i) = bytes-set s k a l (λ j. h (suc j)) i

pub bytes-sets : (vs s : List ℕ) (k : ℕ) → Bytes vs → Bytes s → Bytes (sets s k vs)
bytes-sets [] s k v h = h
bytes-sets (a ∷ vs) s k v h = bytes-sets vs (set s k a) (suc k) (λ j. v (suc j)) (bytes-set s k a (v 0) h)
