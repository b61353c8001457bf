-- A bay with at most one free block, at its end.
use Rattle.std.specs.Prelude.{List, [], ◌∷◌, ℕ}
use Rattle.kinds.specs.Kinds.{Item}
use Rattle.bay.specs.Bay.{Cell, free, held}

pub data Packed : List Cell → Type 0 where
  none : Packed []
  rest : {n : ℕ} → Packed (free n ∷ [])
  then : {e : Item} {cs : List Cell} → Packed cs → Packed (held e ∷ cs)
