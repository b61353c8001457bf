-- What the plan of a fixed allocation hands over.
use Rattle.std.specs.Prelude.{◌≡◌, List, ℕ}
use Rattle.block_type.specs.Limits.{fixed_need}
use Rattle.calls.specs.Calls.{allocate_fixed}
use Rattle.call_laws.specs.Refused.{Passes}
use Rattle.allocate.specs.fixed.Placed.{Site}
use Rattle.allocate.specs.declared.fixed.Plan.{Plan}

-- the plan's bay makes room in the zone z
abbrev pub SiteOf : List ℕ → Plan → Type 0
SiteOf z p = Site z p.need p.bay.start p.bay.end p.bay.sum p.bay.tail

-- the plan p of a block for c data bytes in the zone z is ready
pub record Ready (z : List ℕ) (c : ℕ) (p : Plan) : Type 0 where
  pub need_is : p.need ≡ fixed_need c
  pub passed : Passes (allocate_fixed c) z
  pub site : SiteOf z p
