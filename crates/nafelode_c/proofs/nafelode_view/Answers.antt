use Rattle.access.proofs.Checked.{bytes_of}
use Rattle.nafelode_c.proofs.Laws.{view-named, start_word, view-ordered, length-word, offset-named, length-named, view-in-zone, view-in-buffer}
use Rattle.nafelode_c.proofs.nafelode_view.Goals as goal

pub overflow_sub-n : goal.overflow_sub-n
overflow_sub-n c = search view-ordered

pub overflow_cast-start : goal.overflow_cast-start
overflow_cast-start c = search start_word

pub overflow_cast-length : goal.overflow_cast-length
overflow_cast-length c = search length-word

pub returns : goal.returns
returns c = record { promise = search (view-named, bytes_of); value = search (offset-named, bytes_of); length_after = search (length-named, bytes_of); length_in_bounds = (search view-in-zone, search view-in-buffer) }
