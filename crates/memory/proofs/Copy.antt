-- A copy, one byte a turn: what is left to write is written behind what has been.
use mathlib.Core.Path.{◌≡◌, sym, ◌∙◌}
use mathlib.Core.List.{List, ◌∷◌}
use Prim.Native.Nat.{ℕ, suc, ◌+◌, ◌<◌, ◌≤◌}
use native.Mathlib.Numerals.{add-one}
use native.Mathlib.Omega.{arith}
use lib.ListN.{length, get_or, drop, set, drop_of_length-le}
use lib.Seq.{drop-cons, drop-set-lt, take-suc-set, append_snoc}
use Rattle.bigendian.specs.BigEndian.{overwrite}
use Rattle.bigendian.proofs.Overwrite.{write-none}

pub write_step : (s : List ℕ) (i x : ℕ) (l : List ℕ) → i < length s → overwrite (set s i x) (i + 1) l ≡ overwrite s i (x ∷ l)
write_step s i x l h =
    let e : i + 1 + length l ≡ i + suc (length l) = omega arith in
    let k : i < i + suc (length l) = omega arith in
    rw (e, drop-set-lt, add-one, take-suc-set s i x h, append_snoc)

pub copy_step : (s src w : List ℕ) (at k x : ℕ) → k < length src → at + length src ≤ length s → x ≡ get_or src k 0
    → overwrite s (at + k) (drop k src) ≡ w → overwrite (set s (at + k) x) (at + (k + 1)) (drop (k + 1) src) ≡ w
copy_step s src w at k x h l e inv =
    let e₁ : at + (k + 1) ≡ at + k + 1 = omega arith in
    let h₁ : at + k < length s = omega arith in
    rw (e, e₁, add-one k) (write_step s (at + k) (get_or src k 0) (drop (suc k) src) h₁ ∙ (rw (drop-cons src k 0 h) at inv))

pub copy_done : (s src w : List ℕ) (at k : ℕ) → length src ≤ k → overwrite s (at + k) (drop k src) ≡ w → s ≡ w
copy_done s src w at k h inv = sym (write-none s (at + k)) ∙ (rw (drop_of_length-le src h) at inv)
