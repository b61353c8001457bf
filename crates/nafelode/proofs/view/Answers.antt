use Rattle.access.proofs.Checked.{bytes_of}
use Rattle.nafelode.proofs.Laws.{view-promised}
use Rattle.nafelode.proofs.ViewPlace.{part-start, part_length}
use Rattle.nafelode.proofs.view.Goals as goal

pub returns : goal.returns
returns c = record { promise = search (view-promised, bytes_of); ref_ptr_value = search (part-start, bytes_of); result_len = search (part_length, bytes_of) }
