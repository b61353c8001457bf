-- What the plan of a growth hands over.
use Rattle.std.specs.Prelude.{List, ℕ}
use Rattle.allocate.specs.growth.Grows.{GrowsIn, ReadyIn}
use Rattle.allocate.specs.declared.growth.Growth.{Growth}

abbrev pub Ready : List ℕ → ℕ → Growth → Type 0
Ready z c g = ReadyIn z c g.need (GrowsIn z g.need g.first g.end)
