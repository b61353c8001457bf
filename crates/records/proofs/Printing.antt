-- Bytes put one after the other.
use mathlib.Core.Path.{◌≡◌, refl, sym, ap, ap₂, ◌∙◌}
use mathlib.Core.Bool.{Bool, true, false}
use mathlib.Core.List.{List, [], ◌∷◌, ◌++◌, append_assoc}
use Prim.Native.Nat.{ℕ, suc, ◌+◌, ◌-◌, ◌/◌, ◌%◌, ◌≤◌, ◌<◌}
use native.Mathlib.Omega.{arith}
use lib.ListN.{length, take, drop, set, length-append, length-set}
use lib.Seq.{take-set-le, set_split, drop_at, length-take-le}
use Rattle.bigendian.specs.BigEndian.{overwrite}
use Rattle.bigendian.proofs.Overwrite.{write-none, write-more}
use Rattle.block_type.specs.Limits.{argument_range}
use Rattle.records.specs.Records.{decimal, Line, skip, line, text}
use Rattle.records.specs.Shown.{line_of}
use Rattle.records.specs.declared.Line.{Line as CodeLine}
use Rattle.records.specs.declared.Line.TheVariants.{Skip, Said}
use Rattle.records.specs.Putting.{Put}
use Rattle.records.proofs.Decimal.{digits-one, digits-some, digits-most, decimal_step}

-- ---- how many digits

decimal-length : (n : ℕ) → 10 ≤ n → n < argument_range → length (decimal n) ≡ length (decimal (n / 10)) + 1
decimal-length n g l = rw (decimal_step n g l, length-append (decimal (n / 10)))

pub count-step : (k rest n : ℕ) → 10 ≤ rest → rest < argument_range → k + length (decimal rest) ≡ length (decimal n) + 1
    → k + 1 + length (decimal (rest / 10)) ≡ length (decimal n) + 1
count-step k rest n g l e = omega (arith, decimal-length rest g l)

pub count-done : (k rest n : ℕ) → rest < 10 → k + length (decimal rest) ≡ length (decimal n) + 1 → k ≡ length (decimal n)
count-done k rest n g e = omega (arith, ap length (digits-one 9 rest g))

-- ---- a byte put behind others

set_after : (w l : List ℕ) (at i x : ℕ) → i ≡ at + length l → i < length w → overwrite (set w i x) at l ≡ overwrite w at (l ++ (x ∷ []))
set_after w l at i x e h =
    ap₂ (λ (p q : List ℕ). p ++ l ++ q) (take-set-le at w i x (omega arith)) tail
    ∙ sym (append_assoc (take at w ++ l) (x ∷ []) (drop (at + length (l ++ (x ∷ []))) w))
    ∙ ap (◌++ drop (at + length (l ++ (x ∷ []))) w) (append_assoc (take at w) l (x ∷ []))
  where
    tail : drop (at + length l) (set w i x) ≡ x ∷ drop (at + length (l ++ (x ∷ []))) w
    tail =
        let f : at + length (l ++ (x ∷ [])) ≡ suc i = omega (arith, length-append l (x ∷ [])) in
        rw (← e, set_split w i x h, f) (drop_at (take i w) (x ∷ drop (suc i) w) i (length-take-le i w (omega arith)))

pub set-put : (w : List ℕ) (at x : ℕ) → at < length w → set w at x ≡ overwrite w at (x ∷ [])
set-put w at x h = sym (write-none (set w at x) at) ∙ set_after w [] at at x (omega arith) h

pub byte_put : (w : List ℕ) (at x : ℕ) → at < length w → Put (x ∷ []) at w (set w at x) (at + 1)
byte_put w at x h = record { bytes = set-put w at x h; next = refl }

-- ---- digits from the last one on

pub end-some : (at k n : ℕ) → k ≡ length (decimal n) → 1 ≤ at + k
end-some at k n e = omega (arith, digits-some 9 n)

pub digit-start : (at k n : ℕ) → k ≡ length (decimal n) → at + k - 1 + 1 ≡ at + length (decimal n)
digit-start at k n e = omega (arith, digits-some 9 n)

pub set_same : (w w₀ : List ℕ) (i x : ℕ) → length w ≡ length w₀ → length (set w i x) ≡ length w₀
set_same w w₀ i x e = length-set w i x ∙ e

module _ (w w₀ : List ℕ) (at n i rest : ℕ) (e : i + 1 ≡ at + length (decimal rest)) (f : at + length (decimal rest) ≤ length w) where
  pub digit-place : i < length w
  digit-place = omega arith

  pub digit-before : 10 ≤ rest → rest < argument_range → 1 ≤ i
  digit-before g l = omega (arith, decimal-length rest g l, digits-some 9 (rest / 10))

  module _ (x : ℕ) (g : 10 ≤ rest) (l : rest < argument_range) where
    pub digit-next : i - 1 + 1 ≡ at + length (decimal (rest / 10))
    digit-next = omega (arith, decimal-length rest g l, digits-some 9 (rest / 10))

    pub digit_room : at + length (decimal (rest / 10)) ≤ length (set w i x)
    digit_room = omega (arith, decimal-length rest g l, length-set w i x)

    pub digit-step : x ≡ 48 + rest % 10 → overwrite w at (decimal rest) ≡ overwrite w₀ at (decimal n)
        → overwrite (set w i x) at (decimal (rest / 10)) ≡ overwrite w₀ at (decimal n)
    digit-step q p =
        set_after w (decimal (rest / 10)) at i x (omega (arith, decimal-length rest g l)) digit-place
        ∙ ap (λ (y : ℕ). overwrite w at (decimal (rest / 10) ++ (y ∷ []))) q
        ∙ ap (overwrite w at) (sym (decimal_step rest g l))
        ∙ p

  pub digits-done : (x k : ℕ) → x ≡ 48 + rest → rest < 10 → k ≡ length (decimal n) → overwrite w at (decimal rest) ≡ overwrite w₀ at (decimal n)
      → Put (decimal n) at w₀ (set w i x) (at + k)
  digits-done x k q g c p =
      let j : i ≡ at = omega (arith, ap length (digits-one 9 rest g)) in
      record {
        bytes = ap (λ (y : ℕ). set w y x) j ∙ set-put w at x (omega arith) ∙ ap (λ (y : ℕ). overwrite w at (y ∷ [])) q ∙ ap (overwrite w at) (sym (digits-one 9 rest g)) ∙ p;
        next = omega arith;
      }

-- ---- one put after another

pub put_then : (a b s t e : List ℕ) (at p r : ℕ) → at + length a + length b ≤ length s → Put a at s t p → Put b p t e r → Put (a ++ b) at s e r
put_then a b s t e at p r h x y = record {
  bytes = y.bytes ∙ ap (λ (u : List ℕ). overwrite u p b) x.bytes ∙ write-more s a b at p x.next (omega (arith, x.next));
  next = omega (arith, x.next, y.next, length-append a b);
}

-- number, space, value, end of line
module _ (s s₁ s₂ s₃ s₄ : List ℕ) (at p₁ p₂ p₃ p₄ n v : ℕ) (h : at + (length (decimal n) + (length (decimal v) + 2)) ≤ length s) where
  pub numbers-put : Put (decimal n) at s s₁ p₁ → Put (32 ∷ []) p₁ s₁ s₂ p₂ → Put (decimal v) p₂ s₂ s₃ p₃ → Put (10 ∷ []) p₃ s₃ s₄ p₄ → Put (text (line n v)) at s s₄ p₄
  unfolding text
  numbers-put x₁ x₂ x₃ x₄ =
      let e₁ : length (decimal n ++ (32 ∷ [])) ≡ length (decimal n) + 1 = length-append (decimal n) (32 ∷ []) in
      let e₂ : length (decimal n ++ (32 ∷ []) ++ decimal v) ≡ length (decimal n ++ (32 ∷ [])) + length (decimal v) = length-append (decimal n ++ (32 ∷ [])) (decimal v) in
      put_then (decimal n ++ (32 ∷ []) ++ decimal v) (10 ∷ []) s s₃ s₄ at p₃ p₄ (omega arith)
      (put_then (decimal n ++ (32 ∷ [])) (decimal v) s s₂ s₃ at p₂ p₃ (omega arith) (put_then (decimal n) (32 ∷ []) s s₁ s₂ at p₁ p₂ (omega arith) x₁ x₂) x₃) x₄

pub skip-put : (s e : List ℕ) (at : ℕ) → e ≡ overwrite s at (115 ∷ 107 ∷ 105 ∷ 112 ∷ 10 ∷ []) → Put (text skip) at s e (at + 5)
unfolding text
skip-put s e at h = record { bytes = h; next = refl }

pub line-length : (n v : ℕ) → length (text (line n v)) ≡ length (decimal n) + (length (decimal v) + 2)
unfolding text
line-length n v =
    omega (arith, length-append (decimal n) (32 ∷ []), length-append (decimal n ++ (32 ∷ [])) (decimal v), length-append (decimal n ++ (32 ∷ []) ++ decimal v) (10 ∷ []))

-- ---- a line

pub text-most : (l : Line) → length (text l) ≤ 22
unfolding text
text-most skip = omega arith
text-most (line n v) = omega (arith, line-length n v, digits-most 10 n, digits-most 10 v)

module _ (at : ℕ) (s : List ℕ) where
  pub skip-room : (l : CodeLine) → l ≡ Skip → at + length (text (line_of l)) ≤ length s → at + 5 ≤ length s
  unfolding text
  skip-room l e h = rw e at h

  pub numbers-room : (l : CodeLine) (n v : ℕ) → l ≡ Said n v → at + length (text (line_of l)) ≤ length s → at + (length (decimal n) + (length (decimal v) + 2)) ≤ length s
  numbers-room l n v e h = rw (e, line-length n v) at h

  pub skip-line : (l : CodeLine) (e : List ℕ) (r : ℕ) → l ≡ Skip → Put (text skip) at s e r → Put (text (line_of l)) at s e r
  skip-line l e r q p = rw q p

  pub numbers-line : (l : CodeLine) (n v : ℕ) (e : List ℕ) (r : ℕ) → l ≡ Said n v → Put (text (line n v)) at s e r → Put (text (line_of l)) at s e r
  numbers-line l n v e r q p = rw q p
