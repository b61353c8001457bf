use Rattle.stretch.proofs.Laws.{part-order, part-fits, read-room, read_done, read_no}
use Rattle.stretch.proofs.read.Goals as goal

pub returns-in_err-part : goal.returns-in_err-part
returns-in_err-part c = search (read_no, c.in_err-part.ensures)

pub slice_bounds-copy_in-count : goal.slice_bounds-copy_in-count
slice_bounds-copy_in-count c = search (part-order, c.in_ok-part.ensures)

pub slice_bounds-copy_in-start : goal.slice_bounds-copy_in-start
slice_bounds-copy_in-start c = search (part-order, c.in_ok-part.ensures)

pub slice_bounds-copy_in-end : goal.slice_bounds-copy_in-end
slice_bounds-copy_in-end c = search (part-fits, c.in_ok-part.ensures)

pub copy_in-requires : goal.copy_in-requires
copy_in-requires c = search (read-room, c.in_ok-part.ensures)

pub returns : goal.returns
returns c = search (read_done, c.in_ok-part.ensures)
