-- A masters' pass leaves what lies above the masters, and free blocks do not count in it.
use mathlib.Core.Path.{◌≡◌, refl, ap, ◌∙◌}
use mathlib.Core.Bool.{Bool, true, false, cond}
use mathlib.Core.List.{List, [], ◌∷◌, ◌++◌}
use Prim.Native.Nat.{ℕ, zero, suc, ◌+◌, ◌≤◌}
use native.Mathlib.Omega.{arith}
use lib.Dec.{eqb}
use lib.ListN.{length, drop}
use Rattle.bigendian.specs.BigEndian.{to_be, overwrite}
use Rattle.bigendian.proofs.Laws.{length-to_be}
use Rattle.bigendian.proofs.Overwrite.{write-length, drop-write, swap}
use Rattle.block_type.specs.Limits.{master_size}
use Rattle.kinds.specs.Kinds.{header_of, master_of}
use Rattle.bay.specs.Bay.{Cell, free, held, cell_size, gap}
use Rattle.slide.specs.ZoneBay.{owner_of, set_one, set_all, Low}

-- ---- one master

one-write : (at q : ℕ) (c : Cell) (z y : List ℕ) → owner_of c + master_size ≤ q → q ≤ length z → set_one at c (overwrite z q y) ≡ overwrite (set_one at c z) q y
unfolding set_one
one-write at q (free n) z y l u = refl
one-write at q (held e) z y l u = go (eqb (master_of e) 0)
  where
    go : (t : Bool) → cond t (overwrite z q y) (overwrite (overwrite z q y) (master_of e) (to_be 4 (at + header_of e))) ≡ overwrite (cond t z (overwrite z (master_of e) (to_be 4 (at + header_of e)))) q y
    go true = refl
    go false = swap z (to_be 4 (at + header_of e)) y (master_of e) q (omega (arith, length-to_be 4 (at + header_of e))) u

one-length : (at q : ℕ) (c : Cell) (z : List ℕ) → owner_of c + master_size ≤ q → q ≤ length z → length (set_one at c z) ≡ length z
unfolding set_one
one-length at q (free n) z l u = refl
one-length at q (held e) z l u = go (eqb (master_of e) 0)
  where
    go : (t : Bool) → length (cond t z (overwrite z (master_of e) (to_be 4 (at + header_of e)))) ≡ length z
    go true = refl
    go false = write-length z (to_be 4 (at + header_of e)) (master_of e) (omega (arith, length-to_be 4 (at + header_of e)))

one-above : (at q : ℕ) (c : Cell) (z : List ℕ) → owner_of c + master_size ≤ q → q ≤ length z → drop q (set_one at c z) ≡ drop q z
unfolding set_one
one-above at q (free n) z l u = refl
one-above at q (held e) z l u = go (eqb (master_of e) 0)
  where
    go : (t : Bool) → drop q (cond t z (overwrite z (master_of e) (to_be 4 (at + header_of e)))) ≡ drop q z
    go true = refl
    go false = drop-write z (master_of e) q (to_be 4 (at + header_of e)) (omega (arith, length-to_be 4 (at + header_of e))) u

-- ---- the pass

module _ (lim q : ℕ) (l : lim ≤ q) where
  pub all-write : (at : ℕ) (cs : List Cell) (z y : List ℕ) → Low lim cs → q ≤ length z → set_all at cs (overwrite z q y) ≡ overwrite (set_all at cs z) q y
  unfolding set_all
  all-write at [] z y w u = refl
  all-write at (c ∷ cs) z y w u =
      ap (set_all (at + cell_size c) cs) (one-write at q c z y (omega (arith, w.0)) u)
      ∙ all-write (at + cell_size c) cs (set_one at c z) y w.1 (omega (arith, one-length at q c z (omega (arith, w.0)) u))

  pub all-length : (at : ℕ) (cs : List Cell) (z : List ℕ) → Low lim cs → q ≤ length z → length (set_all at cs z) ≡ length z
  unfolding set_all
  all-length at [] z w u = refl
  all-length at (c ∷ cs) z w u =
      let e = one-length at q c z (omega (arith, w.0)) u in
      all-length (at + cell_size c) cs (set_one at c z) w.1 (omega arith) ∙ e

  pub all_above : (at : ℕ) (cs : List Cell) (z : List ℕ) → Low lim cs → q ≤ length z → drop q (set_all at cs z) ≡ drop q z
  unfolding set_all
  all_above at [] z w u = refl
  all_above at (c ∷ cs) z w u =
      all_above (at + cell_size c) cs (set_one at c z) w.1 (omega (arith, one-length at q c z (omega (arith, w.0)) u))
      ∙ one-above at q c z (omega (arith, w.0)) u

-- free bytes behind the other cells
pub all-free : (at : ℕ) (cs : List Cell) (n : ℕ) (z : List ℕ) → set_all at (cs ++ gap n []) z ≡ set_all at cs z
unfolding set_all set_one
all-free at [] zero z = refl
all-free at [] (suc n) z = refl
all-free at (c ∷ cs) n z = all-free (at + cell_size c) cs n (set_one at c z)
