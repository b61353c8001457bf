-- The data of a handle's block: of the first block with the handle, so no law asks that it is the only one.
use Rattle.std.specs.Prelude.{List, [], ◌∷◌, cond, ℕ}
use Rattle.structure.specs.Structure.{Block, fixed, start, place_of, decode_zone, cell}
use Rattle.kinds.specs.Kinds.{is}
use Rattle.bay.specs.Bay.{free, held}

-- the data of handle h
unfoldable pub data_of : ℕ → List Block → List ℕ
data_of h [] = []
data_of h (cell (free n) ∷ bs) = data_of h bs
data_of h (fixed d ∷ bs) = data_of h bs
data_of h (cell (held e) ∷ bs) = cond (is h e) e.bytes (data_of h bs)

-- where the data of handle h lies in the zone z, 0 where h is not live, and the data
unfoldable pub place_in : List ℕ → ℕ → ℕ
place_in z h = place_of (is h) (start (decode_zone z)) (decode_zone z).blocks

unfoldable pub data_in : List ℕ → ℕ → List ℕ
data_in z h = data_of h (decode_zone z).blocks
