use Rattle.stretch.proofs.Laws.{shown-order, shown-fits, view-bytes, view-start, view-length}
use Rattle.stretch.proofs.view.Goals as goal

pub slice_bounds-result-count : goal.slice_bounds-result-count
slice_bounds-result-count c = search shown-order

pub slice_bounds-result-start : goal.slice_bounds-result-start
slice_bounds-result-start c = search shown-order

pub slice_bounds-result-end : goal.slice_bounds-result-end
slice_bounds-result-end c = search shown-fits

pub returns : goal.returns
returns c = record { result_value = search view-bytes; ref_ptr_value = search view-start; result_len = search view-length }
