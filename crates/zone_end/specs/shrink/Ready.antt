-- What the plan of a shrink hands over: how much is stripped, and where there is something, the last bay.
use Rattle.std.specs.Prelude.{◌≡◌, List, ℕ, ◌<◌}
use Rattle.structure.specs.Structure.{decode_zone}
use Rattle.zone_end.specs.shrink.Stripped.{strips, Site}
use Rattle.zone_end.specs.declared.shrink.Plan.{Plan}
use Rattle.structure.specs.IsZone.{IsZone}

-- the bay of the plan p is the last of the zone z, of which its bytes are stripped
abbrev pub SiteOf : List ℕ → Plan → Type 0
SiteOf z p = Site z p.strip p.bay.start p.bay.end p.bay.sum p.bay.tail

-- the plan p in the zone z is ready
pub record Ready (z : List ℕ) (k : ℕ) (p : Plan) : Type 0 where
  pub zone : IsZone z
  pub is_strip : p.strip ≡ strips (decode_zone z) k
  pub site : 0 < p.strip → SiteOf z p
