use Rattle.access.proofs.opened.Zone.open.Goals as goal

pub returns-clause-ok : goal.returns-clause-ok
returns-clause-ok c = c.in_ok-sought.ensures.ok.opened
