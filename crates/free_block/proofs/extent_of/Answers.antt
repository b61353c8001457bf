use Rattle.access.proofs.Checked.{zone-8}
use Rattle.free_block.proofs.Walk.{walk-row, walk-low}
use Rattle.free_block.proofs.Extends.{at-in, end-in, prev-in, row_in, extends}
use Rattle.free_block.proofs.extent_of.Goals as goal

pub get4-first-requires : goal.get4-first-requires
get4-first-requires c = search zone-8

pub walk_to-stop-requires : goal.walk_to-stop-requires
walk_to-stop-requires c = (search walk-row, search walk-low, search at-in)

pub find_extent-requires : goal.find_extent-requires
find_extent-requires c = (search prev-in, search row_in, search end-in)

pub returns : goal.returns
returns c = search extends
