use Rattle.zone_run.proofs.Whole.{faithful, err_is_not_ok, all_written, ended_well}
use Rattle.zone_run.proofs.run.Goals as goal

pub returns-in_err-end-clause-faithful : goal.returns-in_err-end-clause-faithful
returns-in_err-end-clause-faithful g c = faithful _ _ _ _ _ _ _ _ c.run_all-end.ensures.served (err_is_not_ok _ _ c.from_residual.ensures.0)

pub returns-clause-faithful : goal.returns-clause-faithful
returns-clause-faithful g c = faithful _ _ _ _ _ _ _ _ c.run_all-end.ensures.served (λ d. d)

pub returns-clause-all : goal.returns-clause-all
returns-clause-all g c =
    let all = c.run_all-end.ensures in
    all_written _ _ _ _ _ _ _ _ all.served all.ended (ended_well c.run_all-end.result.last.read _ _ c.in_ok-end.was all.end)
