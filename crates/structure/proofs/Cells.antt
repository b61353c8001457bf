-- Cells as blocks of a structure: free bytes have their size and no handle, and cells that are tiled among blocks are sound.
use mathlib.Core.Path.{◌≡◌, refl, sym}
use mathlib.Core.Bool.{Bool, false, false≢true}
use mathlib.Core.List.{List, [], ◌∷◌, ◌++◌, map}
use Prim.Native.Nat.{ℕ, zero, suc}
use native.Mathlib.Omega.{arith}
use Rattle.kinds.proofs.KindLaws.{facts}
use Rattle.bay.specs.Bay.{Cell, free, held, gap}
use Rattle.bay.proofs.Sound as Sound
use Rattle.structure.specs.Structure.{Block, cell, sizes, place_of, handles_of}
use Rattle.structure.specs.Valid.{Tiled}
use Rattle.kinds.specs.Kinds.{is}

pub gap-sizes : (n : ℕ) → sizes (map cell (gap n [])) ≡ n
unfolding sizes
gap-sizes zero = refl
gap-sizes (suc n) = omega arith

pub gap-handles : (n : ℕ) → handles_of (map cell (gap n [])) ≡ []
unfolding handles_of
gap-handles zero = refl
gap-handles (suc n) = refl

pub gap-place : (h o n : ℕ) → place_of (is h) o (map cell (gap n [])) ≡ 0
unfolding place_of
gap-place h o zero = refl
gap-place h o (suc n) = refl

-- cells that are tiled among blocks are sound
pub tiled-cells : (prev : Bool) (cs : List Cell) (r : List Block) → Tiled prev (map cell cs ++ r) → Sound.Sound cs
tiled-cells prev [] r t = Sound.s-nil
tiled-cells prev (free n ∷ []) r t = Sound.s-end {n = n} (omega (arith, t.1, t.2))
tiled-cells prev (free n ∷ (free m ∷ cs)) r t = absurd (false≢true (sym t.4.0))
tiled-cells prev (free n ∷ (held e ∷ cs)) r t = Sound.s-free {n = n} (omega (arith, t.1, t.2)) (Sound.s-held {e = e} (omega (arith, t.4.0, (facts e).low)) (tiled-cells false cs r t.4.3))
tiled-cells prev (held e ∷ cs) r t = Sound.s-held {e = e} (omega (arith, t.0, (facts e).low)) (tiled-cells false cs r t.3)
