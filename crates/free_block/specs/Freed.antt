-- A block that a handle names becomes free.
use Rattle.std.specs.Prelude.{◌∷◌, ℕ}
use Rattle.bay.specs.Bay.{release}
use Rattle.structure.specs.Structure.{Structure, start}
use Rattle.calls.specs.Bays.{map_s}
use Rattle.zone.specs.Group.{group, flatten}
use Rattle.kinds.specs.Kinds.{is}

-- the structure without the block of handle h, which is the chain's head then
abbrev pub freed : ℕ → Structure → Structure
freed h s = record { clock = s.clock; chain = h ∷ s.chain; blocks = flatten (map_s (release (is h)) (group (start s) s.blocks)) }
