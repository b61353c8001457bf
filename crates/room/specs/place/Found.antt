-- Holes and sites as the code answers them.
use Rattle.std.specs.Prelude.{List, ℕ, true, Option, Some, None}
use Rattle.bays.specs.Read.{Begins, next_in}
use Rattle.room.specs.declared.place.Hole.{Hole}
use Rattle.room.specs.declared.place.RoomRead.{RoomRead}
use Rattle.room.specs.declared.place.Site.{Site}
use Rattle.room.specs.place.Hole.{HoleN, hole_n, no_hole}
use Rattle.room.specs.place.Room.{SiteN, site_n, no_site, ReadFor}

abbrev pub hole_found : Option Hole → HoleN
hole_found None = no_hole
hole_found (Some x) = hole_n true x.at x.size

abbrev pub site_of : Site → SiteN
site_of s = site_n true s.start s.end s.hole.at s.hole.size s.tidy

abbrev pub site_found : Option Site → SiteN
site_found None = no_site
site_found (Some s) = site_of s

-- what the walk over one bay answers
pub record RoomFrom (z : List ℕ) (p need : ℕ) (r : RoomRead) : Type 0 where
  pub read : ReadFor z p need r.end r.sum (next_in z r.next) (hole_found r.hole)
  pub begins : Begins z r.next
