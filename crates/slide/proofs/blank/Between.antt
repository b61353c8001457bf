-- A free block is zero behind its header, so one free block over free neighbours takes few writes.
use mathlib.Core.Path.{◌≡◌, sym, ap, ap₂, ◌∙◌}
use mathlib.Core.List.{List, ◌++◌, append_assoc}
use mathlib.Core.Bool.{cond}
use Prim.Native.Nat.{ℕ, ◌+◌, ◌-◌, ◌/◌, ◌≤◌}
use native.Mathlib.Omega.{arith}
use lib.Dec.{ltb}
use borrow.Author.Tests.{lt-ltb, le-ltb}
use lib.ListN.{length, take, drop, length-append, replicate, length-replicate, replicate-append-replicate, take-append-drop}
use lib.Seq.{drop-drop, length-take-le}
use Rattle.block_type.specs.Limits.{free_header}
use Rattle.bigendian.specs.BigEndian.{to_be, slice, overwrite}
use Rattle.bigendian.proofs.Laws.{length-to_be}
use Rattle.bigendian.proofs.Overwrite.{write-right}
use Rattle.structure.specs.Structure.{encode_block, cell}
use Rattle.bay.specs.Bay.{free}
use Rattle.slide.specs.blank.Between.{Hole, nothing, zeros, Between}

-- b zeros over d, of which the a elements before and the c behind are 0
fill : (d : List ℕ) (a b c : ℕ) → take a d ≡ replicate a 0 → take c (drop (a + b) d) ≡ replicate c 0
    → overwrite d a (replicate b 0) ≡ replicate (a + b + c) 0 ++ drop (a + b + c) d
fill d a b c ea ec =
    let r : drop (a + b) d ≡ replicate c 0 ++ drop (a + b + c) d =
    sym (take-append-drop c (drop (a + b) d)) ∙ ap₂ (λ (x y : List ℕ). x ++ y) ec (drop-drop c (a + b) d) in
    rw (length-replicate {A = ℕ} b 0, ea, replicate-append-replicate {A = ℕ} a b 0, r, ← append_assoc (replicate (a + b) 0) (replicate c 0) (drop (a + b + c) d), replicate-append-replicate {A = ℕ} (a + b) c 0)

-- the header, and zeros where there are none yet
pub within : (z y₁ y₂ : List ℕ) (from low high to : ℕ) → from + free_header ≤ low → low ≤ high → high ≤ to → to ≤ length z
    → slice z (from + free_header) (low - (from + free_header)) ≡ replicate (low - (from + free_header)) 0 → slice z high (to - high) ≡ replicate (to - high) 0
    → y₁ ≡ overwrite z from (to_be 4 ((to - from) / 2)) → y₂ ≡ overwrite y₁ low (replicate (high - low) 0) → y₂ ≡ overwrite z from (encode_block (cell (free (to - from))))
unfolding encode_block
within z y₁ y₂ from low high to l₁ l₂ l₃ l₄ za zb e₁ e₂ =
    let x = to_be 4 ((to - from) / 2) in
    let n : length x ≡ free_header = length-to_be 4 ((to - from) / 2) in
    let p = take from z ++ x in
    let a = low - (from + free_header) in
    let b = high - low in
    let c = to - high in
    let d = drop (from + free_header) z in
    let q : low ≡ length p + a = omega (arith, length-append (take from z) x, length-take-le from z (omega arith)) in
    let h : from + free_header + (a + b) ≡ high = omega arith in
    let ec : take c (drop (a + b) d) ≡ replicate c 0 = ap (take c) (drop-drop (a + b) (from + free_header) z ∙ ap (λ (j : ℕ). drop j z) h) ∙ zb in
    let t : a + b + c ≡ to - from - free_header = omega arith in
    let m : from + length x ≡ from + free_header = omega arith in
    let w : overwrite d a (replicate b 0) ≡ replicate (to - from - free_header) 0 ++ drop (to - from - free_header) d = fill d a b c za ec ∙ (rw t) in
    let k : from + free_header + (to - from - free_header) ≡ from + length (x ++ replicate (to - from - free_header) 0) = omega (arith, length-append x (replicate (to - from - free_header) 0), length-replicate {A = ℕ} (to - from - free_header) 0) in
    e₂
    ∙ ap₂ (λ (y : List ℕ) (o : ℕ). overwrite y o (replicate b 0)) (e₁ ∙ ap (λ (o : ℕ). p ++ drop o z) m) q
    ∙ write-right p d (replicate b 0) a
    ∙ ap (λ (y : List ℕ). p ++ y) (w ∙ ap (λ (y : List ℕ). replicate (to - from - free_header) 0 ++ y) (drop-drop (to - from - free_header) (from + free_header) z ∙ ap (λ (o : ℕ). drop o z) k))
    ∙ (simp append_assoc)

-- what is known of the upper end
module _ (z : List ℕ) (end to high : ℕ) (h : Hole z end to) (eh : high ≡ cond (ltb end to) (end + free_header) end) where
  pub record High : Type 0 where
    pub above : end ≤ high
    pub fits_in : high ≤ to
    pub zero-behind : slice z high (to - high) ≡ replicate (to - high) 0

  pub high_is : High
  high_is = go h
    where
      go : Hole z end to → High
      go (nothing e) =
          let q : high ≡ end = eh ∙ (rw (le-ltb end to (omega arith))) in
          let n : to - high ≡ 0 = omega arith in
          record { above = omega arith; fits_in = omega arith; zero-behind = rw n }
      go (zeros l s) =
          let q : high ≡ end + free_header = eh ∙ (rw (lt-ltb end to (omega arith))) in
          record { above = omega arith; fits_in = omega arith; zero-behind = rw q s }

module _ (z : List ℕ) (from at end to low high : ℕ) (b : Between z from at end to) (el : low ≡ cond (ltb from at) at (from + free_header)) (eh : high ≡ cond (ltb end to) (end + free_header) end) where
  -- what is known of the lower end
  record Low : Type 0 where
    above : from + free_header ≤ low
    zero-before : slice z (from + free_header) (low - (from + free_header)) ≡ replicate (low - (from + free_header)) 0

  low-is : Low
  low-is = go b.ahead
    where
      go : Hole z from at → Low
      go (nothing e) =
          let q : low ≡ from + free_header = el ∙ (rw (le-ltb from at (omega arith))) in
          let n : low - (from + free_header) ≡ 0 = omega arith in
          record { above = omega arith; zero-before = rw n }
      go (zeros l s) =
          let q : low ≡ at = el ∙ (rw (lt-ltb from at (omega arith))) in
          record { above = omega arith; zero-before = rw q s }

  top : High z end to high b.behind eh
  top = high_is z end to high b.behind eh

  pub between-order : low ≤ high
  between-order = go b.ahead b.behind
    where
      go : Hole z from at → Hole z end to → low ≤ high
      go (nothing e) (nothing k) =
          let q : low ≡ from + free_header = el ∙ (rw (le-ltb from at (omega arith))) in
          omega (arith, top.above, b.some)
      go (nothing e) (zeros l s) =
          let q : low ≡ from + free_header = el ∙ (rw (le-ltb from at (omega arith))) in
          let p : high ≡ end + free_header = eh ∙ (rw (lt-ltb end to (omega arith))) in
          omega (arith, b.order)
      go (zeros l s) k =
          let q : low ≡ at = el ∙ (rw (lt-ltb from at (omega arith))) in
          omega (arith, top.above, b.order)

  pub between-fits : (y : List ℕ) → length y ≡ length z → high ≤ length y
  between-fits y e = omega (arith, top.fits_in, b.fits)

  pub between-law : (y₁ y₂ : List ℕ) → y₁ ≡ overwrite z from (to_be 4 ((to - from) / 2)) → y₂ ≡ overwrite y₁ low (replicate (high - low) 0) → y₂ ≡ overwrite z from (encode_block (cell (free (to - from))))
  between-law y₁ y₂ e₁ e₂ = within z y₁ y₂ from low high to low-is.above between-order top.fits_in b.fits low-is.zero-before top.zero-behind e₁ e₂
