use Rattle.create.proofs.Place.{place-bay, site-fits, site-header, site-clock, site-clock-left, place-fits, place-word, page-stands, done}
use Rattle.create.proofs.place_page.Goals as goal

pub next_clock-stamp-requires : goal.next_clock-stamp-requires
next_clock-stamp-requires c = search site-clock

pub prepare-requires : goal.prepare-requires
prepare-requires c = search place-bay

pub carve-requires : goal.carve-requires
carve-requires c = (search site-fits, search site-header, search site-clock-left)

pub overflow_add-result : goal.overflow_add-result
overflow_add-result c = search place-fits

pub overflow_cast-result : goal.overflow_cast-result
overflow_cast-result c = search place-word

pub returns : goal.returns
returns c = (search page-stands, search done)
