use Rattle.slide.proofs.run.Down.{ahead-cell, ahead-fits}
use borrow.Author.Rules.{rules}
use Rattle.slide.proofs.run.cell_size.Goals as goal

pub size_at-requires : goal.size_at-requires
size_at-requires c = search ahead-fits

pub returns : goal.returns
returns c = (search rules, search ahead-cell)
