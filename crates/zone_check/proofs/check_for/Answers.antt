use Rattle.zone_check.proofs.Zone.{form-no, header-body, body-checked}
use Rattle.zone_check.proofs.check_for.Goals as goal

pub returns-in_err-h : goal.returns-in_err-h
returns-in_err-h c = rw c.from_residual.ensures (search (form-no, c.in_err-h.ensures))

pub body-requires : goal.body-requires
body-requires c = search (header-body, c.in_ok-h.ensures)

pub returns : goal.returns
returns c = search (body-checked, c.in_ok-h.ensures)
