-- Every bay of a structure compacted, and the largest sum.
use Rattle.std.specs.Prelude.{ℕ}
use Rattle.structure.specs.Structure.{Structure, start}
use Rattle.calls.specs.Bays.{map_s, max_s}
use Rattle.bay.specs.Bay.{bay_sum, compact_bay}
use Rattle.zone.specs.Group.{group, flatten}

abbrev pub compacted : Structure → Structure
compacted s = record { clock = s.clock; chain = s.chain; blocks = flatten (map_s compact_bay (group (start s) s.blocks)) }

abbrev pub largest : Structure → ℕ
largest s = max_s bay_sum (group (start s) s.blocks)
