-- The blocks of a zone grouped into bays and fixed blocks, and flat again.
use Rattle.std.specs.Prelude.{List, [], ◌∷◌, ◌++◌, map, ℕ, ◌+◌, length}
use Rattle.block_type.specs.Limits.{fixed_header}
use Rattle.structure.specs.Structure.{Block, fixed, cell}
use Rattle.calls.specs.Bays.{Bays, last, more}
use Rattle.calls.specs.State.{Fixed}
use Rattle.bay.specs.Bay.{Cell, cell_size}

-- a block in front of the first bay
abbrev pub in_front : Cell → Bays (List Cell) Fixed → Bays (List Cell) Fixed
in_front c (last b) = last (c ∷ b)
in_front c (more b x s) = more (c ∷ b) x s

-- the first block is at offset p
abbrev pub group : ℕ → List Block → Bays (List Cell) Fixed
group p [] = last []
group p (cell c ∷ bs) = in_front c (group (p + cell_size c) bs)
group p (fixed d ∷ bs) = more [] (record { place = p; bytes = d }) (group (p + (fixed_header + length d)) bs)

abbrev pub flat_bay : List Cell → List Block → List Block
flat_bay cs r = map cell cs ++ r

abbrev pub flatten : Bays (List Cell) Fixed → List Block
flatten (last b) = flat_bay b []
flatten (more b x s) = flat_bay b (fixed x.bytes ∷ flatten s)
