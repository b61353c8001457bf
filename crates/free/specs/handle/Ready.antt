-- What the plan of a free by handle hands over.
use Rattle.std.specs.Prelude.{◌≡◌, List, true, ℕ}
use Rattle.format.specs.WellFormed.{chain_field}
use Rattle.kinds.specs.Kinds.{Item, is}
use Rattle.bay.specs.Bay.{held}
use Rattle.structure.specs.Structure.{decode_zone, cell}
use Rattle.access.specs.Edit.{place_in}
use Rattle.free_block.specs.Around.{Freeing}
use Rattle.free_block.specs.Freed.{freed}
use Rattle.free.specs.declared.handle.Plan.{Plan}

pub record ReadyIn (z : List ℕ) (h head from at end to : ℕ) : Type 0 where
  pub live : place_in z h ≡ 0 → ⊥
  pub block : Item
  pub its : is h block ≡ true
  pub freeing : Freeing z (freed h (decode_zone z)).blocks (cell (held block)) from at end to
  pub is_head : head ≡ chain_field z

-- the plan p of freeing h in the zone z is ready
abbrev pub Ready : List ℕ → ℕ → Plan → Type 0
Ready z h p = ReadyIn z h p.head p.extent.from p.extent.at p.extent.end p.extent.to
