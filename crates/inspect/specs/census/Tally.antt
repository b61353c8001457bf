-- The counts of a census, met by one walk.
use Rattle.std.specs.Prelude.{◌≡◌, List, [], ◌∷◌, ℕ, ◌+◌, drop}
use Rattle.format.specs.WellFormed.{first_field}
use Rattle.access.specs.row.Row.{blocks_of}
use Rattle.zone.specs.Census.{counts_of, free_words}

-- counts added one by one
unfoldable pub adding : List ℕ → List ℕ → List ℕ
adding [] ds = []
adding (c ∷ cs) [] = c ∷ cs
adding (c ∷ cs) (d ∷ ds) = (c + d) ∷ adding cs ds

-- the counts of a zone by these limits, with no bytes beyond its length
pub data CountsIn (limits z cs : List ℕ) : Type 0 where
  counts_in : cs ≡ counts_of limits (free_words (blocks_of (drop (first_field z) z))) → CountsIn limits z cs
