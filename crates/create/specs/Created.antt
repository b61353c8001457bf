-- What the plan of a create hands over, and what the call leaves.
use Rattle.std.specs.Prelude.{◌≡◌, true, List, ℕ, ◌<◌, ◌≤◌, leb, Option, Some, is_some}
use Rattle.block_type.specs.Limits.{page_header, page_limit, page_need, argument_range}
use Rattle.structure.specs.Structure.{Structure, decode_zone}
use Rattle.structure.specs.IsZone.{IsZone}
use Rattle.calls.specs.Calls.{on_page, create_page}
use Rattle.calls.specs.Bays.{max_s, map_s}
use Rattle.calls.specs.Pages.{tick, among, dropping}
use Rattle.calls.specs.Table.{refusal_of}
use Rattle.bay.specs.Bay.{items, bay_sum, release}
use Rattle.zone.specs.Group.{flatten}
use Rattle.zone.specs.Work.{Zone, facts, place_low, work}
use Rattle.bays.specs.Places.{bays_of}
use Rattle.turn.specs.Rank.{goes}
use Rattle.turn.specs.Turn.{bayed}
use Rattle.room.specs.place.Fit.{blank_page, Size}
use Rattle.room.specs.place.Room.{LowestRoom}
use Rattle.room.specs.declared.place.Site.{Site}
use Rattle.clear.specs.Cleared.{cleared}
use Rattle.create.specs.declared.CreatePlan.{CreatePlan}
use Rattle.create.specs.declared.CreatePlan.TheVariants.{AtSite, AfterPages}
use Rattle.call_laws.specs.Frame.{zone_at}

-- the structure with a new page of need bytes in the lowest bay whose sum reaches them; the clock steps, and is the page's stamp
abbrev pub created : ℕ → ℕ → Structure → Structure
created need n s = record { clock = tick s.clock; chain = s.chain; blocks = flatten (place_low (blank_page need n (tick s.clock)) (bays_of s)) }

-- the site r is the lowest room for need bytes in the zone z
abbrev pub LowestAt : List ℕ → ℕ → Site → Type 0
LowestAt z need r = LowestRoom z need r.start r.end r.hole.at r.hole.size r.tidy

-- what the search for need bytes in the zone z answers
pub record Searched (z : List ℕ) (need : ℕ) (r : Option Site) : Type 0 where
  pub reach : leb need (max_s bay_sum (bays_of (decode_zone z))) ≡ is_some r
  pub lowest : (p : Site) → r ≡ Some p → LowestAt z need p

-- the bytes of a page
pub record PageSize (need : ℕ) : Type 0 where
  pub size : Size need
  pub header : page_header ≤ need

-- a page of need bytes may go to the site r of the zone z
pub record SiteFor (z : List ℕ) (need : ℕ) (r : Site) : Type 0 where
  pub zone : IsZone z
  pub page : PageSize need
  pub lowest : LowestAt z need r

-- the pages of rank below it go for the plan
abbrev pub limit_in : CreatePlan → ℕ
limit_in (AtSite r) = 0
limit_in (AfterPages t) = t

-- the zone z has the plan's site as it is
abbrev pub There : List ℕ → ℕ → CreatePlan → Type 0
There z need (AtSite r) = LowestAt z need r
There z need (AfterPages t) = Unit {0}

-- once the plan's pages are gone there is room
pub record RoomFor (z : List ℕ) (need : ℕ) (p : CreatePlan) : Type 0 where
  pub zone : IsZone z
  pub page : PageSize need
  pub there : There z need p
  pub enough : need ≤ max_s bay_sum (bays_of (cleared (decode_zone z).clock (limit_in p) (decode_zone z)))

-- the zone with the page of name n and c data bytes: what the work leaves
abbrev pub made : ℕ → ℕ → List ℕ → Zone
made n c z = (work (on_page n (create_page c)) (bayed z)).next

-- nothing refuses it in the zone z, and the pages that go for it are those of the plan
pub record Ready (z : List ℕ) (n c : ℕ) (p : CreatePlan) : Type 0 where
  pub zone : IsZone z
  pub name : n < argument_range
  pub small : c ≤ page_limit
  pub passed : (buf : ℕ) → refusal_of (on_page n (create_page c)) (facts true (zone_at buf z)) ≡ 0
  pub gone : map_s (release (among (dropping items bay_sum (page_need c) (bayed z)))) (bays_of (decode_zone z)) ≡ map_s (release (goes (decode_zone z).clock (limit_in p))) (bays_of (decode_zone z))
  pub there : There z (page_need c) p
