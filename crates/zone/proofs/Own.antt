-- What the test of a handle's own bay says.
use mathlib.Core.Path.{◌≡◌, refl}
use mathlib.Core.Bool.{Bool, true, false, cond, false≢true}
use mathlib.Core.List.{List}
use Prim.Native.Nat.{ℕ}
use native.Mathlib.Omega.{arith}
use lib.Dec.{eqb}
use borrow.Author.Tests.{eqb-true}
use Rattle.bay.specs.Bay.{Cell, bay_sum, items, reshape}
use Rattle.calls.specs.State.{get}
use Rattle.bay.specs.Counted.{count, room_for}
use Rattle.bay.proofs.Resize.{Shaped, reshape-shaped}
use Rattle.zone.specs.Search.{own}
use Rattle.kinds.specs.Kinds.{is}

pub own-shaped : (h a : ℕ) (b : List Cell) → own h a b ≡ true → Shaped h a b (reshape h a b)
own-shaped h a b t = go (eqb (count (is h) (items b)) 1) refl t
  where
    go : (u : Bool) → eqb (count (is h) (items b)) 1 ≡ u → cond u (room_for a (bay_sum b) (get (is h) (items b))) false ≡ true → Shaped h a b (reshape h a b)
    go true e t = reshape-shaped h a b (omega (arith, eqb-true (count (is h) (items b)) 1 e)) t
    go false e t = absurd (false≢true t)
