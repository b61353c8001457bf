-- The masters' values as words, one behind the other: how long they are, the bytes that they are read from, and when two tables are the same.
use mathlib.Core.Path.{◌≡◌, refl, ap, sym, ◌∙◌}
use mathlib.Core.List.{List, [], ◌∷◌, ◌++◌, map, append_assoc}
use Prim.Native.Nat.{ℕ, zero, suc, ◌+◌, ◌*◌, ◌≤◌}
use native.Mathlib.Nat.{add-zero}
use native.Mathlib.Omega.{arith}
use lib.ListN.{length, drop, length-append, length-drop, take-append-drop}
use lib.Seq.{drop-drop}
use Rattle.bigendian.specs.BigEndian.{from_be, to_be, slice, Bytes}
use Rattle.bigendian.proofs.Bytes.{bytes_drop, part_bytes}
use Rattle.bigendian.proofs.Laws.{length-to_be}
use Rattle.block_type.specs.Limits.{master_size}
use Rattle.format.specs.WellFormed.{master_at, offsets}
use Rattle.format.proofs.Count.{All}
use Rattle.structure.specs.Structure.{words}

-- the n bytes at k, then the rest
pub peel : (n k : ℕ) (z t : List ℕ) → Bytes z → k + n ≤ length z → t ≡ drop (k + n) z → to_be n (from_be (slice z k n)) ++ t ≡ drop k z
peel n k z t y l e = rw (part_bytes n (drop k z) (bytes_drop k z y) (omega (arith, length-drop k z)), e, ← drop-drop n k z) (take-append-drop n (drop k z))

pub words_of : (z : List ℕ) (k n : ℕ) → Bytes z → k + master_size * n ≤ length z → words (master_at z) (offsets k n) ++ drop (k + master_size * n) z ≡ drop k z
unfolding words offsets
words_of z k zero y l = rw add-zero
words_of z k (suc n) y l =
    let e : k + master_size * suc n ≡ k + master_size + master_size * n = omega arith in
    rw (append_assoc, e) (peel 4 k z _ y (omega arith) (words_of z (k + master_size) n y (omega arith)))

pub words_same : (f g : ℕ → ℕ) (hs : List ℕ) → All (λ (h : ℕ). f h ≡ g h) hs → words f hs ≡ words g hs
unfolding words
words_same f g [] a = refl
words_same f g (h ∷ hs) a = rw (a.0, words_same f g hs a.1)

pub words_append : (f : ℕ → ℕ) (a b : List ℕ) → words f (a ++ b) ≡ words f a ++ words f b
unfolding words
words_append f [] b = refl
words_append f (h ∷ a) b = ap (to_be 4 (f h) ++◌) (words_append f a b) ∙ sym (append_assoc (to_be 4 (f h)) (words f a) (words f b))

pub length-words : (f : ℕ → ℕ) (hs : List ℕ) → length (words f hs) ≡ master_size * length hs
unfolding words
length-words f [] = refl
length-words f (h ∷ hs) = simp (length-append, length-to_be) (omega (arith, length-words f hs))

-- 4 bytes for each number of a list
abbrev pub words_l : List ℕ → List ℕ
words_l vs = words (λ (v : ℕ). v) vs

pub words-values : (f : ℕ → ℕ) (hs : List ℕ) → words f hs ≡ words_l (map f hs)
unfolding words
words-values f [] = refl
words-values f (h ∷ hs) = rw (words-values f hs)
