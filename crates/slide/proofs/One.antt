-- One block with free bytes behind it in the place of other bytes: its bytes, and its own master.
use mathlib.Core.Path.{◌≡◌, refl, ◌∙◌}
use mathlib.Core.List.{List, [], ◌∷◌}
use Prim.Native.Nat.{ℕ, zero, suc, ◌+◌, ◌<◌}
use native.Mathlib.Omega.{arith}
use borrow.Author.Tests.{eq-eqb, ne_eqb}
use Rattle.bigendian.specs.BigEndian.{to_be, overwrite}
use Rattle.kinds.specs.Kinds.{Item, header_of, master_of}
use Rattle.bay.specs.Bay.{held, gap}
use Rattle.bay.specs.Sound.{bytes_of}
use Rattle.slide.specs.ZoneBay.{set_one, set_all, settled}

-- a free block has no master
pub set-gap : (p k : ℕ) (z : List ℕ) → set_all p (gap k []) z ≡ z
unfolding set_all set_one
set-gap p zero z = refl
set-gap p (suc k) z = refl

pub set-one : (z : List ℕ) (at k : ℕ) (e : Item) → 0 < master_of e → settled z at (held e ∷ gap k []) ≡ overwrite (overwrite z at (bytes_of (held e ∷ gap k []))) (master_of e) (to_be 4 (at + header_of e))
unfolding settled set_all set_one
set-one z at k e l = set-gap _ k _ ∙ (rw (ne_eqb (master_of e) 0 (λ q. omega arith)))

-- and of a block without a master its bytes alone
pub set-none : (z : List ℕ) (at k : ℕ) (e : Item) → master_of e ≡ 0 → settled z at (held e ∷ gap k []) ≡ overwrite z at (bytes_of (held e ∷ gap k []))
unfolding settled set_all set_one
set-none z at k e l = set-gap _ k _ ∙ (rw (eq-eqb (master_of e) 0 l))
