use Rattle.access.proofs.Checked.{take_len}
use Rattle.stretch.proofs.write.Laws.{write-long, write-room, write_done, write-no}
use Rattle.stretch.proofs.write.write.Goals as goal

pub returns-in_err-part : goal.returns-in_err-part
returns-in_err-part c = search (write-no, c.in_err-part.ensures)

pub slice_bounds-copy_in-end : goal.slice_bounds-copy_in-end
slice_bounds-copy_in-end c = search (take_len, write-long, c.in_ok-part.ensures)

pub copy_in-requires : goal.copy_in-requires
copy_in-requires c = search (write-room, c.in_ok-part.ensures)

pub returns : goal.returns
returns c = search (write_done, c.in_ok-part.ensures)
