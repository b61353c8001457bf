use Rattle.access.proofs.opened.Zone.blocks.Goals as goal

pub returns-clause-begins : goal.returns-clause-begins
returns-clause-begins c = rw c.rows_from.ensures.at c.first_block-first.ensures
