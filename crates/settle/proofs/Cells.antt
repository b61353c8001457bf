-- The cells of a bay as blocks of a structure: their bytes, sizes, soundness, handles, and the masters' pass over them.
use mathlib.Core.Path.{◌≡◌, refl, ap}
use mathlib.Core.List.{List, [], ◌∷◌, ◌++◌, map}
use Prim.Native.Nat.{ℕ, ◌+◌}
use native.Mathlib.Omega.{arith}
use Rattle.kinds.specs.Kinds.{item_size, masters_of}
use Rattle.bay.specs.Bay.{Cell, free, held, bay_size, items, packed}
use Rattle.bay.specs.Bytes.{encode_cell}
use Rattle.bay.specs.Sound.{bytes_of, Sound}
use Rattle.structure.specs.Structure.{encode_block, sizes, join, cell, handles_of}
use Rattle.access.specs.row.Row as Row
use Rattle.settle.specs.surgery.Masters as Masters
use Rattle.slide.specs.ZoneBay.{set_one, set_all}

pub all-bytes : (cs : List Cell) → bytes_of cs ≡ Row.bytes_of (map cell cs)
unfolding bytes_of join encode_block
all-bytes [] = refl
all-bytes (c ∷ cs) = ap (λ (b : List ℕ). encode_cell c ++ b) (all-bytes cs)

pub all-sizes : (cs : List Cell) → bay_size cs ≡ sizes (map cell cs)
unfolding sizes
all-sizes [] = refl
all-sizes (c ∷ cs) = omega (arith, all-sizes cs)

pub all_sound : (cs : List Cell) → Sound cs → Row.Sound (map cell cs)
all_sound [] s = tt
all_sound (free n ∷ cs) s = (s.0, all_sound cs s.1)
all_sound (held e ∷ cs) s = ((omega (arith, s.0.0), omega (arith, s.0.1), s.0.2), all_sound cs s.1)

pub sound-cells : (cs : List Cell) → Row.Sound (map cell cs) → Sound cs
sound-cells [] s = tt
sound-cells (free n ∷ cs) s = (s.0, sound-cells cs s.1)
sound-cells (held e ∷ cs) s = ((omega (arith, s.0.0), omega (arith, s.0.1), s.0.2), sound-cells cs s.1)

-- only the held blocks have handles
pub handles-items : (cs : List Cell) → handles_of (map cell cs) ≡ handles_of (map cell (packed (items cs) []))
unfolding handles_of
handles-items [] = refl
handles-items (free n ∷ cs) = handles-items cs
handles-items (held e ∷ cs) = ap (masters_of e ++◌) (handles-items cs)

pub all_set : (at : ℕ) (cs : List Cell) (z : List ℕ) → set_all at cs z ≡ Masters.set_all at (map cell cs) z
unfolding set_all set_one Masters.set_all Masters.set_one
all_set at [] z = refl
all_set at (free n ∷ cs) z = all_set (at + n) cs z
all_set at (held e ∷ cs) z = all_set (at + item_size e) cs (set_one at (held e) z)
