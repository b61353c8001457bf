-- What is printed of a walk: a line for each step.
use Rattle.std.specs.Prelude.{cond, List, [], ◌∷◌, ◌++◌, ℕ, zero, suc, decimal, eqb}
use Rattle.zone.specs.Walker.{Walked, walk_step, start_of_walk}

-- the refusal number, the block's type, offset and size, and where the walker is then
unfoldable pub line : Walked → List ℕ
line w = decimal w.number ++ 32 ∷ (decimal w.block.kind ++ 32 ∷ (decimal w.block.offset ++ 32 ∷ (decimal w.block.size ++ 32 ∷ (decimal w.position ++ 10 ∷ []))))

-- at most n steps, until one leaves the walker where it is
unfoldable pub lines : ℕ → List ℕ → ℕ → List ℕ
lines zero bs at = []
lines (suc n) bs at = line (walk_step bs at) ++ cond (eqb (walk_step bs at).position at) [] (lines n bs (walk_step bs at).position)

-- how many steps are made at most, from the start on: a zone of 65,536 bytes has fewer blocks
abbrev pub most_steps : ℕ
most_steps = 16384

-- a step at 17, where no block starts, and then the walk
unfoldable pub walk_lines : List ℕ → List ℕ
walk_lines bs = line (walk_step bs 17) ++ lines most_steps bs (start_of_walk bs)
