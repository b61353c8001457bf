use Rattle.slide.proofs.blank.Between.{between-order, between-fits, between-law}
use Rattle.slide.proofs.blank.write_free.Goals as goal

pub fill_zero-requires : goal.fill_zero-requires
fill_zero-requires c = (search between-order, search between-fits)

pub returns : goal.returns
returns c = search between-law
