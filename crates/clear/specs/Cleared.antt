-- Pages that go: every unlocked one of rank below a limit.
use Rattle.std.specs.Prelude.{ℕ}
use Rattle.structure.specs.Structure.{Structure, start}
use Rattle.calls.specs.Bays.{map_s}
use Rattle.bay.specs.Bay.{release}
use Rattle.zone.specs.Group.{group, flatten}
use Rattle.turn.specs.Rank.{goes}

-- the structure without the unlocked pages of rank below t
abbrev pub cleared : ℕ → ℕ → Structure → Structure
cleared clock t s = record { clock = s.clock; chain = s.chain; blocks = flatten (map_s (release (goes clock t)) (group (start s) s.blocks)) }
