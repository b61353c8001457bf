-- An input record by record.
use mathlib.Core.Path.{◌≡◌}
use mathlib.Core.List.{List, [], ◌∷◌, ◌++◌}
use Prim.Native.Nat.{ℕ, suc, ◌/◌, ◌≤◌, ◌<◌}
use native.Mathlib.Omega.{arith}
use lib.ListN.{length, take, drop, length-drop}
use Rattle.records.specs.Records.{first_records, records_of, run_record, printed, left, output, after_input, text, record_length}

-- fewer than record_length bytes: no record
pub records-none : (s : List ℕ) → length s < record_length → records_of s ≡ []
unfolding first_records
records-none s h = let e : length s / record_length ≡ 0 = omega arith in rw e

pub records-cons : (s : List ℕ) → record_length ≤ length s → records_of s ≡ take record_length s ∷ records_of (drop record_length s)
unfolding first_records
records-cons s h =
    let e : length s / record_length ≡ suc (length (drop record_length s) / record_length) = omega (arith, length-drop record_length s) in rw e

pub output-none : (s bs : List ℕ) → length s < record_length → output s bs ≡ []
unfolding output printed
output-none s bs h = rw (records-none s h)

pub after_none : (s bs : List ℕ) → length s < record_length → after_input s bs ≡ bs
unfolding after_input left
after_none s bs h = rw (records-none s h)

pub output-cons : (s bs : List ℕ) → record_length ≤ length s
    → output s bs ≡ text (run_record (take record_length s) bs).shown ++ output (drop record_length s) (run_record (take record_length s) bs).bytes
unfolding output printed
output-cons s bs h = rw (records-cons s h)

pub after-cons : (s bs : List ℕ) → record_length ≤ length s → after_input s bs ≡ after_input (drop record_length s) (run_record (take record_length s) bs).bytes
unfolding after_input left
after-cons s bs h = rw (records-cons s h)
