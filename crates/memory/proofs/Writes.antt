-- The laws of the loops over bytes: each loop's invariant says that the specification, applied to what is there now
-- and what is left, gives what it gave at the start.
use mathlib.Core.Path.{◌≡◌, refl, sym, ap, ◌∙◌}
use mathlib.Core.List.{List, [], ◌∷◌, ◌++◌}
use mathlib.Core.Bool.{Bool, false, ◌&&◌, and_assoc, and-true}
use Prim.Native.Nat.{ℕ, zero, suc, ◌+◌, ◌*◌, ◌<◌, ◌≤◌}
use native.Mathlib.Numerals.{add-one}
use native.Mathlib.Nat.{sub_self, mul-zero}
use native.Mathlib.Omega.{arith}
use lib.Dec.{eqb}
use lib.Bits.{bit_or, or_zero_l, or_add_and, and_le_r}
use borrow.Author.Tests.{eq-eqb, ne_eqb}
use lib.ListN.{length, get_or, set, replicate, take, drop, drop_of_length-le, length-drop, length-replicate, take-append-drop}
use Rattle.std.proofs.lemmas.List.{set-append_right}
use Rattle.std.proofs.lemmas.Grind.{replicate_next}
use Rattle.std.specs.Simd.{first_chunks}
use Rattle.std.specs.Int.{w64, from_le_bytes}
use lib.Seq.{drop-cons, drop-drop, append_snoc, length-take-le}
use Rattle.memory.specs.Zeros.{all_zero}

-- ---- zeros; all: the bits so far

pub or-zero : (a b : ℕ) → eqb (bit_or a b) 0 ≡ eqb a 0 && eqb b 0
or-zero zero b = rw (or_zero_l b)
or-zero (suc a) b =
    let s = or_add_and (suc a) b in
    let l = and_le_r (suc a) b in
    rw (ne_eqb (bit_or (suc a) b) 0 (λ e. omega arith), ne_eqb (suc a) 0 (λ e. omega arith))

pub bits_step : (s : List ℕ) (i all b : ℕ) (whole : Bool) → i < length s → b ≡ get_or s i 0
    → eqb all 0 && all_zero (drop i s) ≡ whole → eqb (bit_or all b) 0 && all_zero (drop (i + 1) s) ≡ whole
unfolding all_zero
bits_step s i all b whole h e inv =
    rw (e, add-one, or-zero) (and_assoc (eqb all 0) (eqb (get_or s i 0) 0) (all_zero (drop (suc i) s)) ∙ (rw (drop-cons s i 0 h) at inv))

pub bits_done : (s : List ℕ) (i all : ℕ) (whole : Bool) → length s ≤ i → eqb all 0 && all_zero (drop i s) ≡ whole → eqb all 0 ≡ whole
unfolding all_zero
bits_done s i all whole h inv = sym (and-true (eqb all 0)) ∙ (rw (drop_of_length-le s h) at inv)

-- ---- zeros of a part and of the rest; most: what is 0 where the part is

pub zeros-append : (a b : List ℕ) → all_zero (a ++ b) ≡ all_zero a && all_zero b
unfolding all_zero
zeros-append [] b = refl
zeros-append (x ∷ xs) b = ap (eqb x 0 &&◌) (zeros-append xs b) ∙ sym (and_assoc (eqb x 0) (all_zero xs) (all_zero b))

-- ---- a chunk

chunk-at : (n k i : ℕ) (s d : List ℕ) → i < k → get_or (first_chunks n k s) i d ≡ take n (drop (n * i) s)
chunk-at n zero i s d h = let x : ⊥ = omega arith in absurd x
chunk-at n (suc k) zero s d h = rw (mul-zero n) refl
chunk-at n (suc k) (suc i) s d h = chunk-at n k i (drop n s) d (omega arith) ∙ ap (take n) (drop-drop (n * i) n s ∙ ap (λ (j : ℕ). drop j s) (omega arith))

-- zeros of s from chunk i of n bytes on, whose bits are b
module _ (n : ℕ) (s d chunk : List ℕ) (chunks : List (List ℕ)) (i k b : ℕ) (whole : Bool) (f : chunks ≡ first_chunks n k s) (h : i < k) (c : chunk ≡ get_or chunks i d) (e : eqb b 0 ≡ all_zero chunk) (inv : all_zero (drop (n * i) s) ≡ whole) where
  rest : eqb b 0 && all_zero (drop (n * (i + 1)) s) ≡ whole
  rest =
      ap (◌&& all_zero (drop (n * (i + 1)) s)) (e ∙ ap all_zero (c ∙ ap (λ (l : List (List ℕ)). get_or l i d) f ∙ chunk-at n k i s d h))
      ∙ ap (λ (t : List ℕ). all_zero (take n (drop (n * i) s)) && all_zero t) (ap (λ (j : ℕ). drop j s) (omega arith) ∙ sym (drop-drop n (n * i) s))
      ∙ sym (zeros-append (take n (drop (n * i) s)) (drop n (drop (n * i) s)))
      ∙ ap all_zero (take-append-drop n (drop (n * i) s))
      ∙ inv

  pub chunk_zero : b ≡ 0 → all_zero (drop (n * (i + 1)) s) ≡ whole
  chunk_zero z = rw (eq-eqb b 0 z) at rest

  pub chunk_nonzero : (b ≡ 0 → ⊥) → false ≡ whole
  chunk_nonzero z = rw (ne_eqb b 0 z) at rest

-- ---- eight bytes, as a number

pub word_zero : (bs : List ℕ) → length bs ≡ 8 → eqb (from_le_bytes w64 bs) 0 ≡ all_zero bs
unfolding all_zero
word_zero [] l = let y : ⊥ = omega (arith, l) in absurd y
word_zero (a ∷ []) l = let y : ⊥ = omega (arith, l) in absurd y
word_zero (a ∷ b ∷ []) l = let y : ⊥ = omega (arith, l) in absurd y
word_zero (a ∷ b ∷ c ∷ []) l = let y : ⊥ = omega (arith, l) in absurd y
word_zero (a ∷ b ∷ c ∷ d ∷ []) l = let y : ⊥ = omega (arith, l) in absurd y
word_zero (a ∷ b ∷ c ∷ d ∷ e ∷ []) l = let y : ⊥ = omega (arith, l) in absurd y
word_zero (a ∷ b ∷ c ∷ d ∷ e ∷ f ∷ []) l = let y : ⊥ = omega (arith, l) in absurd y
word_zero (a ∷ b ∷ c ∷ d ∷ e ∷ f ∷ g ∷ []) l = let y : ⊥ = omega (arith, l) in absurd y
word_zero (a ∷ b ∷ c ∷ d ∷ e ∷ f ∷ g ∷ h ∷ x ∷ xs) l = let y : ⊥ = omega (arith, l) in absurd y
word_zero (a ∷ b ∷ c ∷ d ∷ e ∷ f ∷ g ∷ h ∷ []) l = digits a b c d e f g h
  where
    worth : ℕ → ℕ → ℕ → ℕ → ℕ → ℕ → ℕ → ℕ → ℕ
    worth a b c d e f g h = from_le_bytes w64 (a ∷ b ∷ c ∷ d ∷ e ∷ f ∷ g ∷ h ∷ [])

    digits : (a b c d e f g h : ℕ) → eqb (worth a b c d e f g h) 0 ≡ all_zero (a ∷ b ∷ c ∷ d ∷ e ∷ f ∷ g ∷ h ∷ [])
    digits zero zero zero zero zero zero zero zero = refl
    digits zero zero zero zero zero zero zero (suc h) = rw (ne_eqb (worth 0 0 0 0 0 0 0 (suc h)) 0 (λ e. omega arith), ne_eqb (suc h) 0 (λ e. omega arith))
    digits zero zero zero zero zero zero (suc g) h = rw (ne_eqb (worth 0 0 0 0 0 0 (suc g) h) 0 (λ e. omega arith), ne_eqb (suc g) 0 (λ e. omega arith))
    digits zero zero zero zero zero (suc f) g h = rw (ne_eqb (worth 0 0 0 0 0 (suc f) g h) 0 (λ e. omega arith), ne_eqb (suc f) 0 (λ e. omega arith))
    digits zero zero zero zero (suc e) f g h = rw (ne_eqb (worth 0 0 0 0 (suc e) f g h) 0 (λ e. omega arith), ne_eqb (suc e) 0 (λ e. omega arith))
    digits zero zero zero (suc d) e f g h = rw (ne_eqb (worth 0 0 0 (suc d) e f g h) 0 (λ e. omega arith), ne_eqb (suc d) 0 (λ e. omega arith))
    digits zero zero (suc c) d e f g h = rw (ne_eqb (worth 0 0 (suc c) d e f g h) 0 (λ e. omega arith), ne_eqb (suc c) 0 (λ e. omega arith))
    digits zero (suc b) c d e f g h = rw (ne_eqb (worth 0 (suc b) c d e f g h) 0 (λ e. omega arith), ne_eqb (suc b) 0 (λ e. omega arith))
    digits (suc a) b c d e f g h = rw (ne_eqb (worth (suc a) b c d e f g h) 0 (λ e. omega arith), ne_eqb (suc a) 0 (λ e. omega arith))

pub words_step : (s d chunk : List ℕ) (chunks : List (List ℕ)) (i k all b : ℕ) (whole : Bool) → chunks ≡ first_chunks 8 k s → i < k → 8 * k ≤ length s
    → chunk ≡ get_or chunks i d → b ≡ from_le_bytes w64 chunk → eqb all 0 && all_zero (drop (8 * i) s) ≡ whole → eqb (bit_or all b) 0 && all_zero (drop (8 * (i + 1)) s) ≡ whole
words_step s d chunk chunks i k all b whole f h l c e inv =
    ap (◌&& all_zero (drop (8 * (i + 1)) s)) (or-zero all b)
    ∙ and_assoc (eqb all 0) (eqb b 0) (all_zero (drop (8 * (i + 1)) s))
    ∙ ap (eqb all 0 &&◌) (rest 8 s d chunk chunks i k b (all_zero (drop (8 * i) s)) f h c word refl)
    ∙ inv
  where
    is : chunk ≡ take 8 (drop (8 * i) s)
    is = c ∙ ap (λ (t : List (List ℕ)). get_or t i d) f ∙ chunk-at 8 k i s d h

    word : eqb b 0 ≡ all_zero chunk
    word = ap (λ (n : ℕ). eqb n 0) e ∙ word_zero chunk (ap length is ∙ length-take-le 8 (drop (8 * i) s) (omega (arith, length-drop (8 * i) s)))

-- the words are done, the rest is to come
pub words_done : (s rest : List ℕ) (i k all : ℕ) (whole : Bool) → i ≡ k → rest ≡ drop (k * 8) s → eqb all 0 && all_zero (drop (8 * i) s) ≡ whole → eqb all 0 && all_zero rest ≡ whole
words_done s rest i k all whole e r inv = ap (λ (t : List ℕ). eqb all 0 && all_zero t) (r ∙ ap (λ (j : ℕ). drop j s) (omega arith)) ∙ inv

-- ---- writes

-- zeros up to i, and one more
pub fill_step : (s t : List ℕ) (i : ℕ) → i < length s → t ≡ replicate i 0 ++ drop i s → set t i 0 ≡ replicate (i + 1) 0 ++ drop (i + 1) s
fill_step s t i h inv =
    rw (inv, drop-cons s i 0 h, set-append_right (replicate i 0) (get_or s i 0 ∷ drop (suc i) s) i i 0 (length-replicate i 0) (omega arith), sub_self i, replicate_next, add-one)
    (sym (append_snoc (replicate i 0) 0 (drop (suc i) s)))
