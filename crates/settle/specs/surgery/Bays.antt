-- Whether blocks begin or end with a free one.
use Rattle.std.specs.Prelude.{Bool, false, List, [], ◌∷◌}
use Rattle.structure.specs.Structure.{Block}
use Rattle.access.specs.row.Row.{free_b}

-- whether the last block is free; prev where there is none
abbrev pub last_free : Bool → List Block → Bool
last_free prev [] = prev
last_free prev (b ∷ bs) = last_free (free_b b) bs

abbrev pub first_free : List Block → Bool
first_free [] = false
first_free (b ∷ bs) = free_b b
