-- An input in two parts, the first of whole records: the second goes on where the first ended. So an input may be read in chunks.
use mathlib.Core.Path.{◌≡◌, refl, sym, ap, ap₂, ◌∙◌}
use mathlib.Core.List.{List, [], ◌∷◌, ◌++◌, append_assoc}
use Prim.Native.Nat.{ℕ, zero, suc, ◌*◌, ◌/◌, ◌%◌, ◌≤◌}
use native.Mathlib.Omega.{arith}
use lib.ListN.{length, take, drop, length-append, length-drop}
use lib.Seq.{take-append-le, drop-append-le}
use Rattle.records.specs.Records.{records_of, run_record, printed, left, output, after_input, text, record_length}
use Rattle.records.proofs.Split.{records-none, records-cons}

-- by the number of records
records-of : (k : ℕ) (x y : List ℕ) → length x ≡ k * record_length → records_of (x ++ y) ≡ records_of x ++ records_of y
records-of zero [] y h = rw (records-none [] (omega arith))
records-of zero (a ∷ x) y h = absurd (omega arith)
records-of (suc k) x y h =
    let l : record_length ≤ length x = omega arith in
    let m : record_length ≤ length (x ++ y) = omega (arith, length-append x y) in
    records-cons (x ++ y) m
    ∙ ap₂ (λ (r : List ℕ) (t : List ℕ). r ∷ records_of t) (take-append-le record_length x y l) (drop-append-le record_length x y l)
    ∙ ap (take record_length x ∷◌) (records-of k (drop record_length x) y (omega (arith, length-drop record_length x)))
    ∙ ap (◌++ records_of y) (sym (records-cons x l))

printed-append : (rs qs : List (List ℕ)) (bs : List ℕ) → printed (rs ++ qs) bs ≡ printed rs bs ++ printed qs (left rs bs)
unfolding printed left
printed-append [] qs bs = refl
printed-append (r ∷ rs) qs bs =
    ap (text (run_record r bs).shown ++◌) (printed-append rs qs (run_record r bs).bytes)
    ∙ sym (append_assoc (text (run_record r bs).shown) (printed rs (run_record r bs).bytes) (printed qs (left rs (run_record r bs).bytes)))

left-append : (rs qs : List (List ℕ)) (bs : List ℕ) → left (rs ++ qs) bs ≡ left qs (left rs bs)
unfolding left
left-append [] qs bs = refl
left-append (r ∷ rs) qs bs = left-append rs qs (run_record r bs).bytes

records-append : (x y : List ℕ) → length x % record_length ≡ 0 → records_of (x ++ y) ≡ records_of x ++ records_of y
records-append x y h = records-of (length x / record_length) x y (omega arith)

pub output-append : (x y bs : List ℕ) → length x % record_length ≡ 0 → output (x ++ y) bs ≡ output x bs ++ output y (after_input x bs)
unfolding output after_input
output-append x y bs h = ap (λ (rs : List (List ℕ)). printed rs bs) (records-append x y h) ∙ printed-append (records_of x) (records_of y) bs

pub after-append : (x y bs : List ℕ) → length x % record_length ≡ 0 → after_input (x ++ y) bs ≡ after_input y (after_input x bs)
unfolding after_input
after-append x y bs h = ap (λ (rs : List (List ℕ)). left rs bs) (records-append x y h) ∙ left-append (records_of x) (records_of y) bs
