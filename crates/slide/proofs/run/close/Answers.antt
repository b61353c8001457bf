use Rattle.slide.proofs.run.Down.{end-used, end-within, end-four, end_short, end-free, end-done}
use borrow.Author.Rules.{rules}
use Rattle.slide.proofs.run.close.Goals as goal

pub overflow_sub-used : goal.overflow_sub-used
overflow_sub-used c = search end-used

pub write_free_all-requires : goal.write_free_all-requires
write_free_all-requires c = (search end-within, search end-four, search end_short, search end-free)

pub returns : goal.returns
returns c = (search rules, search end-done)
