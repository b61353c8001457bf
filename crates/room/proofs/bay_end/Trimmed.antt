-- The write that trims a free block, and writes into what has been written.
use mathlib.Core.Path.{◌≡◌, sym, ap, ◌∙◌}
use mathlib.Core.List.{List, [], ◌++◌, append_assoc}
use Prim.Native.Nat.{ℕ, zero, suc, ◌+◌, ◌-◌, ◌/◌, ◌%◌, ◌≤◌}
use native.Mathlib.Nat.{zero-add}
use native.Mathlib.Omega.{arith}
use lib.ListN.{length, take, drop, replicate, length-append, replicate-append-replicate}
use lib.Seq.{length-take-le}
use Rattle.block_type.specs.Limits.{free_header}
use Rattle.bigendian.specs.BigEndian.{to_be, overwrite}
use Rattle.bigendian.proofs.Laws.{length-to_be}
use Rattle.bigendian.proofs.Overwrite.{write_mid, write-pad}
use Rattle.bay.specs.Bay.{gap}
use Rattle.bay.specs.Sound.{bytes_of}
use Rattle.bay.proofs.BayBytes.{gap-some, free-zeros}
use Rattle.room.specs.bay_end.Taken.{trimmed, FreeEnd}

-- ---- writes

regroup : {A : Type 0} (a g x t d : List A) → (a ++ (g ++ (x ++ t))) ++ d ≡ (a ++ g) ++ (x ++ (t ++ d))
regroup a g x t d = simp append_assoc

-- y in the place of x, in what has been written at `at`
pub write-in : (z g x y t : List ℕ) (at o : ℕ) → at ≤ length z → o ≡ at + length g → length x ≡ length y
    → overwrite (overwrite z at (g ++ (x ++ t))) o y ≡ overwrite z at (g ++ (y ++ t))
write-in z g x y t at o l eo lx =
    let d = drop (at + length (g ++ (x ++ t))) z in
    let q : length (g ++ (x ++ t)) ≡ length (g ++ (y ++ t)) = simp length-append (omega arith) in
    ap (λ (w : List ℕ). overwrite w o y) (regroup (take at z) g x t d)
    ∙ write_mid (take at z ++ g) x y (t ++ d) o (length-append (take at z) g ∙ omega (arith, length-take-le at z l)) lx
    ∙ sym (regroup (take at z) g y t d)
    ∙ ap (λ (k : ℕ). (take at z ++ (g ++ (y ++ t))) ++ drop (at + k) z) q

-- ---- a free block

four-zeros : (n : ℕ) → free_header ≤ n → replicate n 0 ≡ to_be 4 0 ++ replicate (n - free_header) 0
unfolding to_be
four-zeros n l = let e : n ≡ suc (suc (suc (suc (n - free_header)))) = omega arith in ap (λ (k : ℕ). replicate k 0) e

-- the header of what is left, and zeros to the end
gap-zeros : (r n : ℕ) → r % 4 ≡ 0 → free_header ≤ n → bytes_of (gap r []) ++ replicate n 0 ≡ to_be 4 (r / 2) ++ replicate (r + n - free_header) 0
unfolding bytes_of
gap-zeros zero n q l = rw (zero-add n) (four-zeros n l)
gap-zeros (suc r) n q l =
    let k : (suc r - free_header) + n ≡ suc r + n - free_header = omega arith in
    ap (◌++ replicate n 0) (gap-some (suc r) (omega arith)) ∙ append_assoc (to_be 4 (suc r / 2)) (replicate (suc r - free_header) 0) (replicate n 0)
    ∙ ap (to_be 4 (suc r / 2) ++◌) (replicate-append-replicate (suc r - free_header) n 0 ∙ ap (λ (k : ℕ). replicate k 0) k)

module _ (z z₁ : List ℕ) (e k n : ℕ) (x : FreeEnd z e k n) (w : z₁ ≡ overwrite z (e - k) (to_be 4 ((k - n) / 2))) where
  pub trim-done : z₁ ≡ trimmed z e k n
  trim-done =
      let r = k - n in
      let j : r + n - free_header ≡ k - free_header = omega (arith, x.fits) in
      w ∙ write-pad z (to_be 4 (r / 2)) (replicate (k - free_header) 0) (e - k) (e - k + free_header) (k - free_header) (omega (arith, length-to_be 4 (r / 2)))
      (free-zeros z (e - k) k free_header (k - free_header) x.bytes (omega arith) (omega (arith, x.low, x.fits))) (omega (arith, x.order, x.inside, x.low, x.fits))
      ∙ ap (overwrite z (e - k)) (ap (λ (i : ℕ). to_be 4 (r / 2) ++ replicate i 0) (sym j) ∙ sym (gap-zeros r n (omega (arith, x.four, x.four_k, x.fits)) x.low))
