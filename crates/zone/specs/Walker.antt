-- Document 01, 'Census and walker': "A walker goes from block to block and gives back its next position".
use Rattle.std.specs.Prelude.{cond, List, [], ◌∷◌, ℕ, ◌+◌, eqb}
use Rattle.format.specs.WellFormed.{first_field, well_formed}
use Rattle.structure.specs.Structure.{Block, size, code, start, decode}

-- a block's type, offset and size; 0 for each where there is none
pub record Described : Type 0 where
  pub kind : ℕ
  pub offset : ℕ
  pub size : ℕ

abbrev pub nothing : Described
nothing = record { kind = 0; offset = 0; size = 0 }

-- the block that starts at offset `at`, the first block being at offset p
unfoldable pub describe : ℕ → ℕ → List Block → Described
describe at p [] = nothing
describe at p (b ∷ bs) = cond (eqb at p) (record { kind = code b; offset = p; size = size b }) (describe at (p + size b) bs)

pub record Walked : Type 0 where
  -- the refusal, 0 for done
  pub number : ℕ
  pub block : Described
  pub position : ℕ

abbrev pub described : ℕ → ℕ → ℕ → Described
described kind offset size = record { kind = kind; offset = offset; size = size }

-- the refusal, the block's type, offset and size, and the position after
abbrev pub walked : ℕ → ℕ → ℕ → ℕ → ℕ → Walked
walked number kind offset size position = record { number = number; block = described kind offset size; position = position }

-- "starts at bkFst"; 0, which is no block's start, where the zone is not well-formed (to make a walker is no call of the table: the first
-- step tells 1)
abbrev pub start_of_walk : List ℕ → ℕ
start_of_walk bs = cond (well_formed bs) (first_field bs) 0

-- a block that a walker at offset `at` goes past
abbrev pub past : ℕ → Described → Walked
past at d = record { number = 0; block = d; position = at + d.size }

-- "At a block's start a step answers type, offset and size, and the position is then the block's end. At any other offset, L
-- included, it answers 0 for each and stays, as it does when refused."
abbrev pub walk_step : List ℕ → ℕ → Walked
walk_step bs at =
    cond (well_formed bs)
    (past at (describe at (start (decode bs)) (decode bs).blocks))
    (walked 1 0 0 0 at)
