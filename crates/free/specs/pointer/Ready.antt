-- What the plan of a free by pointer hands over, and what the call leaves.
use Rattle.std.specs.Prelude.{◌≡◌, List, ℕ}
use Rattle.structure.specs.Structure.{Structure, start, decode_zone, fixed}
use Rattle.calls.specs.Calls.{by_pointer}
use Rattle.zone.specs.Group.{group, flatten}
use Rattle.zone.specs.Work.{pointer_freed}
use Rattle.access.specs.locate.Locate.{target_place}
use Rattle.free_block.specs.Around.{Freeing}
use Rattle.slide.specs.declared.blank.Extent.{Extent}

-- the structure without the fixed block of pointer p
abbrev pub freed : ℕ → Structure → Structure
freed p s = record { clock = s.clock; chain = s.chain; blocks = flatten (pointer_freed p (group (start s) s.blocks)) }

pub record ReadyIn (z : List ℕ) (p from at end to : ℕ) : Type 0 where
  pub live : target_place (by_pointer p) z ≡ 0 → ⊥
  pub bytes : List ℕ
  pub freeing : Freeing z (freed p (decode_zone z)).blocks (fixed bytes) from at end to

-- f is the extent of the block that p names in the zone z
abbrev pub Ready : List ℕ → ℕ → Extent → Type 0
Ready z p f = ReadyIn z p f.from f.at f.end f.to
