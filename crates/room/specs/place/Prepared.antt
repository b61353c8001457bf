-- A zone's bytes once a bay is ready for a new block.
use Rattle.std.specs.Prelude.{Bool, cond, List, ℕ}
use Rattle.bay.specs.Bay.{compact_bay}
use Rattle.slide.specs.ZoneBay.{bay_cells, settled}

-- the bay from a to e is compacted where `tidy` says so
abbrev pub prepared : Bool → ℕ → ℕ → List ℕ → List ℕ
prepared tidy a e z = cond tidy (settled z a (compact_bay (bay_cells z a e))) z
