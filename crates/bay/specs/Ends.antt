-- The free bytes at the two ends of a bay.
use Rattle.std.specs.Prelude.{List, [], ◌∷◌, ℕ}
use Rattle.bay.specs.Bay.{Cell, free, held}

-- what a block adds to its bay's sum
abbrev pub free_part : Cell → ℕ
free_part (free n) = n
free_part (held e) = 0

-- the free bytes at the end of a bay: those of its last block, where that is free
abbrev pub end_free : List Cell → ℕ
end_free [] = 0
end_free (c ∷ []) = free_part c
end_free (c ∷ (d ∷ cs)) = end_free (d ∷ cs)

-- the free bytes at its start: those of its first block, where that is free
abbrev pub start_free : List Cell → ℕ
start_free [] = 0
start_free (c ∷ cs) = free_part c

-- and what stands behind that block
abbrev pub past_start : List Cell → List Cell
past_start [] = []
past_start (free n ∷ cs) = cs
past_start (held e ∷ cs) = held e ∷ cs
