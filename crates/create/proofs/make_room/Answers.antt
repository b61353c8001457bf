use Rattle.create.proofs.Room.{none-went, site-there, room-some, pages-went, zone-left, site-some, site_left}
use Rattle.create.proofs.make_room.Goals as goal

pub returns-in-AtSite : goal.returns-in-AtSite
returns-in-AtSite c = (search none-went, search site-there)

pub find_site-requires : goal.find_site-requires
find_site-requires c = (search zone-left, search room-some)

pub unwrap-requires : goal.unwrap-requires
unwrap-requires c = search site-some

pub returns-in-AfterPages : goal.returns-in-AfterPages
returns-in-AfterPages c = (search pages-went, search site_left)
