-- A bay that is merged, packed or compacted stays sound, also with free bytes less.
use mathlib.Core.Path.{◌≡◌, refl}
use mathlib.Core.List.{List, [], ◌∷◌}
use Prim.Native.Nat.{ℕ, zero, suc, ◌+◌, ◌-◌, ◌%◌, ◌≤◌}
use native.Mathlib.Omega.{arith}
use Rattle.block_type.specs.Limits.{longest_zone}
use Rattle.bay.specs.Bay.{Cell, free, held, bay_size, bay_sum, items, gap, packed, compact_bay, packed_less}
use Rattle.bay.specs.Sound.{Sound}
use Rattle.bay.proofs.Laws.{bsize-split}

pub gap-sound : (n : ℕ) (cs : List Cell) → n % 4 ≡ 0 → n + bay_size cs ≤ longest_zone → Sound cs → Sound (gap n cs)
gap-sound zero cs q l s = s
gap-sound (suc n) [] q l s = ((omega arith, q, omega arith), tt)
gap-sound (suc n) (free k ∷ cs) q l s = ((omega arith, omega (arith, s.0.1), omega arith), s.1)
gap-sound (suc n) (held e ∷ cs) q l s = ((omega arith, q, omega arith), s)

pub packed-sound : (cs t : List Cell) → Sound cs → Sound t → Sound (packed (items cs) t)
packed-sound [] t s u = u
packed-sound (free n ∷ cs) t s u = packed-sound cs t s.1 u
packed-sound (held e ∷ cs) t s u = (s.0, packed-sound cs t s.1 u)

pub sum-four : (cs : List Cell) → Sound cs → bay_sum cs % 4 ≡ 0
sum-four [] s = refl
sum-four (free n ∷ cs) s = omega (arith, s.0.1, sum-four cs s.1)
sum-four (held e ∷ cs) s = sum-four cs s.1

pub compact-sound : (cs : List Cell) → bay_size cs ≤ longest_zone → Sound cs → Sound (compact_bay cs)
compact-sound cs l s = packed-sound cs (gap (bay_sum cs) []) s (gap-sound (bay_sum cs) [] (sum-four cs s) (omega (arith, bsize-split cs)) tt)

-- with n free bytes less
pub less-sound : (n : ℕ) (cs : List Cell) → n % 4 ≡ 0 → bay_size cs ≤ longest_zone → Sound cs → Sound (packed_less n cs)
less-sound n cs q l s =
    packed-sound cs (gap (bay_sum cs - n) []) s (gap-sound (bay_sum cs - n) [] (omega (arith, sum-four cs s)) (omega (arith, bsize-split cs)) tt)
