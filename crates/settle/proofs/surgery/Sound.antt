-- The handles of a valid structure, and which lists of blocks are tiled.
use mathlib.Core.Path.{◌≡◌, refl}
use mathlib.Core.List.{List, [], ◌∷◌, ◌++◌}
use mathlib.Core.Bool.{Bool, true, false}
use Prim.Native.Nat.{ℕ, ◌+◌, ◌<◌, ◌≤◌}
use native.Mathlib.Omega.{arith}
use Rattle.format.specs.Occurs.{occurs}
use Rattle.format.specs.WellFormed.{offsets}
use Rattle.block_type.specs.Limits.{zone_header}
use Rattle.structure.specs.Structure.{Block, fixed, Structure, count, cell, handles_of}
use Rattle.bay.specs.Bay.{free, held}
use Rattle.structure.specs.Valid.{Tiled, Valid}
use Rattle.structure.proofs.Round.{offset-le}
pub use Rattle.settle.specs.surgery.Bays.{last_free, first_free}

module _ (s : Structure) (v : Valid s) where
  pub handle-in : (h : ℕ) → 0 < occurs h (handles_of s.blocks) → 0 < occurs h (offsets zone_header (count s))
  handle-in h l = omega (arith, v.owned h)

  pub handle-once : (h : ℕ) → occurs h (handles_of s.blocks) + occurs h s.chain ≤ 1
  handle-once h = omega (arith, v.owned h, offset-le h zone_header (count s))

-- ---- tiled lists, in parts

pub tiled-left : (prev : Bool) (a b : List Block) → Tiled prev (a ++ b) → Tiled prev a
tiled-left prev [] b t = tt
tiled-left prev (cell (free n) ∷ a) b t = (t.0, t.1, t.2, t.3, tiled-left true a b t.4)
tiled-left prev (fixed d ∷ a) b t = (t.0, t.1, t.2, tiled-left false a b t.3)
tiled-left prev (cell (held it) ∷ a) b t = (t.0, t.1, t.2, tiled-left false a b t.3)

pub tiled-right : (prev : Bool) (a b : List Block) → Tiled prev (a ++ b) → Tiled (last_free prev a) b
tiled-right prev [] b t = t
tiled-right prev (cell (free n) ∷ a) b t = tiled-right true a b t.4
tiled-right prev (fixed d ∷ a) b t = tiled-right false a b t.3
tiled-right prev (cell (held it) ∷ a) b t = tiled-right false a b t.3

pub tiled-join : (prev : Bool) (a b : List Block) → Tiled prev a → Tiled (last_free prev a) b → Tiled prev (a ++ b)
tiled-join prev [] b s t = t
tiled-join prev (cell (free n) ∷ a) b s t = (s.0, s.1, s.2, s.3, tiled-join true a b s.4 t)
tiled-join prev (fixed d ∷ a) b s t = (s.0, s.1, s.2, tiled-join false a b s.3 t)
tiled-join prev (cell (held it) ∷ a) b s t = (s.0, s.1, s.2, tiled-join false a b s.3 t)

-- a list that begins with no free block may follow any
pub tiled-any : (p q : Bool) (bs : List Block) → first_free bs ≡ false → Tiled p bs → Tiled q bs
tiled-any p q [] e t = tt
tiled-any p q (cell (free n) ∷ bs) e t = let x : ◌≡◌ {A = ℕ} 0 1 = cc in let y : ⊥ = omega arith in absurd y
tiled-any p q (fixed d ∷ bs) e t = t
tiled-any p q (cell (held it) ∷ bs) e t = t

-- behind a block that is not free anything may follow
pub tiled-false : (p : Bool) (bs : List Block) → Tiled p bs → Tiled false bs
tiled-false p [] t = tt
tiled-false p (cell (free n) ∷ bs) t = (refl, t.1, t.2, t.3, t.4)
tiled-false p (fixed d ∷ bs) t = t
tiled-false p (cell (held it) ∷ bs) t = t
