-- The digits of a number.
use mathlib.Core.Path.{◌≡◌, refl, sym, ap, ◌∙◌}
use mathlib.Core.Bool.{Bool, true, false, cond}
use mathlib.Core.List.{List, [], ◌∷◌, ◌++◌}
use Prim.Native.Nat.{ℕ, zero, suc, ◌+◌, ◌*◌, ◌-◌, ◌/◌, ◌%◌, ◌^◌, ◌≤◌, ◌<◌}
use native.Mathlib.Omega.{arith}
use native.Mathlib.Nat.{pow-succ'}
use lib.Dec.{ltb}
use lib.ListN.{length, length-append}
use borrow.Author.Tests.{lt-ltb, le-ltb, ltb-true, ltb-false}
use Rattle.block_type.specs.Limits.{argument_range}
use Rattle.records.specs.Records.{digits, decimal}

pub digits-one : (k n : ℕ) → n < 10 → digits (suc k) n ≡ (48 + n) ∷ []
unfolding digits
digits-one k n h = let e : n % 10 ≡ n = omega arith in rw (lt-ltb n 10 h, e)

pub digits_step : (k n : ℕ) → 10 ≤ n → digits (suc k) n ≡ digits k (n / 10) ++ ((48 + n % 10) ∷ [])
unfolding digits
digits_step k n h = rw (le-ltb n 10 h)

-- where k + 1 digits are enough, one more changes nothing
digits_more : (k n : ℕ) → n < 10 ^ suc k → digits (suc (suc k)) n ≡ digits (suc k) n
digits_more zero n l = digits-one 1 n l ∙ sym (digits-one 0 n l)
digits_more (suc k) n l = go (ltb n 10) refl (digits_more k (n / 10))
  where
    go : (t : Bool) → ltb n 10 ≡ t → (n / 10 < 10 ^ suc k → digits (suc (suc k)) (n / 10) ≡ digits (suc k) (n / 10)) → digits (suc (suc (suc k))) n ≡ digits (suc (suc k)) n
    go true h more = digits-one (suc (suc k)) n (ltb-true n 10 h) ∙ sym (digits-one (suc k) n (ltb-true n 10 h))
    go false h more =
        let g : 10 ≤ n = ltb-false n 10 h in
        let e : n / 10 < 10 ^ suc k = omega (arith, pow-succ' 10 (suc k)) in
        digits_step (suc (suc k)) n g ∙ ap (◌++ ((48 + n % 10) ∷ [])) (more e) ∙ sym (digits_step (suc k) n g)

-- all but the last digit of a number of 32 bits are the digits of its tenth
pub decimal_step : (n : ℕ) → 10 ≤ n → n < argument_range → decimal n ≡ decimal (n / 10) ++ ((48 + n % 10) ∷ [])
decimal_step n g l =
    let e : n / 10 < 10 ^ 9 = omega arith in
    digits_step 9 n g ∙ ap (◌++ ((48 + n % 10) ∷ [])) (sym (digits_more 8 (n / 10) e))

pub digits-most : (k n : ℕ) → length (digits k n) ≤ k
unfolding digits
digits-most zero n = omega arith
digits-most (suc k) n = go (ltb n 10) (digits-most k (n / 10))
  where
    go : (t : Bool) → length (digits k (n / 10)) ≤ k → length (cond t [] (digits k (n / 10)) ++ ((48 + n % 10) ∷ [])) ≤ suc k
    go true m = omega arith
    go false m = rw (length-append (digits k (n / 10))) (omega arith)

pub digits-some : (k n : ℕ) → 1 ≤ length (digits (suc k) n)
unfolding digits
digits-some k n = rw (length-append (cond (ltb n 10) [] (digits k (n / 10)))) (omega arith)

-- ---- read back

-- the number that digits after those of acc stand for
unfoldable pub value_from : ℕ → List ℕ → ℕ
value_from acc [] = acc
value_from acc (x ∷ xs) = value_from (acc * 10 + (x - 48)) xs

value-snoc : (acc : ℕ) (xs : List ℕ) (x : ℕ) → value_from acc (xs ++ (x ∷ [])) ≡ value_from acc xs * 10 + (x - 48)
unfolding value_from
value-snoc acc [] x = refl
value-snoc acc (y ∷ xs) x = value-snoc (acc * 10 + (y - 48)) xs x

value-digits : (k n : ℕ) → n < 10 ^ suc k → value_from 0 (digits (suc k) n) ≡ n
unfolding value_from
value-digits zero n l = rw (digits-one 0 n l) (omega arith)
value-digits (suc k) n l = go (ltb n 10) refl (value-digits k (n / 10))
  where
    go : (t : Bool) → ltb n 10 ≡ t → (n / 10 < 10 ^ suc k → value_from 0 (digits (suc k) (n / 10)) ≡ n / 10) → value_from 0 (digits (suc (suc k)) n) ≡ n
    go true h back = rw (digits-one (suc k) n (ltb-true n 10 h)) (omega arith)
    go false h back =
        let e : n / 10 < 10 ^ suc k = omega (arith, pow-succ' 10 (suc k)) in
        rw (digits_step (suc k) n (ltb-false n 10 h), value-snoc) (omega (arith, back e))

-- the digits that are printed of a number of 32 bits are that number's
pub decimal-reads : (n : ℕ) → n < argument_range → value_from 0 (decimal n) ≡ n
decimal-reads n l = value-digits 9 n (omega arith)
