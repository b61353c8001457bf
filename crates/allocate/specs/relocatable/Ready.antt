-- What the plan of a relocatable allocation hands over, and what the call leaves.
use Rattle.std.specs.Prelude.{◌≡◌, Bool, cond, List, ◌∷◌, ℕ}
use Rattle.structure.specs.Structure.{Structure, head_of, decode_zone}
use Rattle.calls.specs.State.{top, rest}
use Rattle.calls.specs.Table.{is_empty}
use Rattle.zone.specs.Group.{flatten}
use Rattle.zone.specs.Work.{place_low}
use Rattle.bays.specs.Places.{bays_of}
use Rattle.room.specs.place.Fit.{blank, Size}
use Rattle.room.specs.place.Room.{LowestRoom}
use Rattle.room.specs.declared.place.Site.{Site}
use Rattle.masters.specs.Grown.{grown_in}
use Rattle.allocate.specs.growth.Grows.{GrowsIn, ReadyIn}
use Rattle.allocate.specs.declared.relocatable.Spot.{Spot}
use Rattle.allocate.specs.declared.relocatable.Plan.{Plan}
use Rattle.allocate.specs.declared.relocatable.Plan.TheVariants.{InBay, AfterGrowth}
use Rattle.structure.specs.IsZone.{IsZone}

-- the structure with a new block of need bytes in the lowest bay whose sum reaches them, the chain's head being its handle
abbrev pub allocated : ℕ → Structure → Structure
allocated need s = record { clock = s.clock; chain = rest s.chain; blocks = flatten (place_low (blank need (top s.chain)) (bays_of s)) }

-- the structure with a free master: with eight more, where it has none
abbrev pub with_master_in : Structure → Structure
with_master_in s = cond (is_empty s.chain) (grown_in s) s

-- the chain's head is h, and need bytes go to `at` in the bay from a to e
pub record RoomIn (z : List ℕ) (need h a e at n : ℕ) (tidy : Bool) : Type 0 where
  pub zone : IsZone z
  pub ks : List ℕ
  pub is_chain : (decode_zone z).chain ≡ h ∷ ks
  pub size : Size need
  pub lowest : LowestRoom z need a e at n tidy

-- and the chain goes on with `next`
pub record GoingIn (z : List ℕ) (need h next a e at n : ℕ) (tidy : Bool) : Type 0 where
  pub room_in : RoomIn z need h a e at n tidy
  pub is_next : next ≡ head_of room_in.ks

abbrev pub RoomAt : List ℕ → ℕ → ℕ → Site → Type 0
RoomAt z need h r = RoomIn z need h r.start r.end r.hole.at r.hole.size r.tidy

-- the block goes to the spot p, in the zone z as it is
abbrev pub Going : List ℕ → Spot → Type 0
Going z p = GoingIn z p.need p.handle p.next p.site.start p.site.end p.site.hole.at p.site.hole.size p.site.tidy

-- the plan may be carried out in the zone z: as it is, or masters are added first
abbrev pub Way : List ℕ → Plan → Type 0
Way z (InBay p) = Going z p
Way z (AfterGrowth g) = GrowsIn z g.need g.first g.end

abbrev pub need_in : Plan → ℕ
need_in (InBay p) = p.need
need_in (AfterGrowth g) = g.need

abbrev pub handle_in : Plan → ℕ
handle_in (InBay p) = p.handle
handle_in (AfterGrowth g) = g.first

-- it is the plan of an allocation of c data bytes, which nothing refuses
abbrev pub Ready : List ℕ → ℕ → Plan → Type 0
Ready z c p = ReadyIn z c (need_in p) (Way z p)
