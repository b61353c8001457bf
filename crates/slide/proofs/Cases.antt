-- By cases on one block: free or held.
use mathlib.Core.Path.{◌≡◌, refl, ap}
use mathlib.Core.List.{List, ◌∷◌}
use Prim.Native.Nat.{ℕ, ◌+◌}
use native.Mathlib.Omega.{arith}
use Rattle.block_type.specs.Limits.{free_code, fixed_code}
use Rattle.kinds.proofs.KindLaws.{facts}
use Rattle.bay.specs.Bay.{Cell, free, held, cell_size, cell_code, bay_sum}

pub free_is : (c : Cell) (n : ℕ) → cell_code c ≡ free_code → cell_size c ≡ n → c ≡ free n
free_is (free m) n k e = ap free e
free_is (held x) n k e = let q : ⊥ = omega (arith, (facts x).used) in absurd q

pub free-sum : (c : Cell) (cs : List Cell) (n : ℕ) → cell_code c ≡ free_code → cell_size c ≡ n → bay_sum (c ∷ cs) ≡ n + bay_sum cs
free-sum (free n) cs m e z = omega arith
free-sum (held x) cs m e z = let q : ⊥ = omega (arith, (facts x).used) in absurd q

pub held-sum : (c : Cell) (cs : List Cell) → (cell_code c ≡ free_code → ⊥) → bay_sum (c ∷ cs) ≡ bay_sum cs
held-sum (free n) cs e = absurd (e refl)
held-sum (held x) cs e = omega arith

pub not-fixed : (c : Cell) → cell_code c ≡ fixed_code → ⊥
not-fixed (free n) e = omega arith
not-fixed (held x) e = (facts x).movable e
