-- A longer zone.
use Rattle.std.specs.Prelude.{Bool, ◌&&◌, List, [], ℕ, ◌-◌, ◌%◌, eqb, leb}
use Rattle.block_type.specs.Limits.{longest_zone}
use Rattle.structure.specs.Structure.{Structure, start}
use Rattle.calls.specs.Bays.{on_last}
use Rattle.bay.specs.Bay.{Cell, gap, join_bays}
use Rattle.zone.specs.Group.{flatten}
use Rattle.bays.specs.Places.{bays_of, high_bay}

-- "k no multiple of 4, or L + k past the buffer or 1,048,576"; n is L + k
abbrev pub accepts : ℕ → ℕ → ℕ → Bool
accepts buf n k = eqb (k % 4) 0 && leb n buf && leb n longest_zone

-- k free bytes more at the end of a bay
abbrev pub grow : ℕ → List Cell → List Cell
grow k b = join_bays b (gap k [])

-- the structure with k free bytes more at its end
abbrev pub longer : ℕ → Structure → Structure
longer k s = record { clock = s.clock; chain = s.chain; blocks = flatten (on_last (grow k) (bays_of s)) }

-- where the last block starts if it is free, else where the blocks end: every bay's sum reaches 0, so the highest such bay is the last
abbrev pub last_free : Structure → ℕ
last_free s = (high_bay 0 (start s) (bays_of s)).end - (high_bay 0 (start s) (bays_of s)).tail
