-- What the plan of a drop hands over, and what the call leaves.
use Rattle.std.specs.Prelude.{◌≡◌, ℕ, true, List}
use Rattle.kinds.specs.Kinds.{Item, has_name}
use Rattle.bay.specs.Bay.{held, release}
use Rattle.calls.specs.Calls.{by_name}
use Rattle.calls.specs.Bays.{map_s}
use Rattle.structure.specs.Structure.{Structure, start, decode_zone, cell}
use Rattle.zone.specs.Group.{group, flatten}
use Rattle.access.specs.locate.Locate.{target_place}
use Rattle.free_block.specs.Around.{Freeing}
use Rattle.slide.specs.declared.blank.Extent.{Extent}

-- the structure without the page of name n
abbrev pub dropped : ℕ → Structure → Structure
dropped n s = record { clock = s.clock; chain = s.chain; blocks = flatten (map_s (release (has_name n)) (group (start s) s.blocks)) }

pub record ReadyIn (z : List ℕ) (n from at end to : ℕ) : Type 0 where
  pub live : target_place (by_name n) z ≡ 0 → ⊥
  pub page : Item
  pub its : has_name n page ≡ true
  pub freeing : Freeing z (dropped n (decode_zone z)).blocks (cell (held page)) from at end to

-- p is the extent of the page of name n in the zone z
abbrev pub Ready : List ℕ → ℕ → Extent → Type 0
Ready z n p = ReadyIn z n p.from p.at p.end p.to
