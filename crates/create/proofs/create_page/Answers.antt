use Rattle.call_laws.proofs.Refused.{refused-ill, refused-opened}
use Rattle.create.proofs.Made.{create-ready, create-out}
use Rattle.create.proofs.create_page.Goals as goal

pub returns-in_err-sought : goal.returns-in_err-sought
returns-in_err-sought c = search (refused-ill, c.in_err-sought.ensures)

pub plan_in-requires : goal.plan_in-requires
plan_in-requires c = c.in_ok-sought.ensures.ok.page_is

pub returns-in_err-plan : goal.returns-in_err-plan
returns-in_err-plan c = search (refused-opened, c.in_ok-sought.ensures, c.in_err-plan.ensures)

pub create_in-requires : goal.create_in-requires
create_in-requires c = search (create-ready, c.in_ok-sought.ensures, c.in_ok-plan.ensures)

pub returns : goal.returns
returns c = search (create-out, c.in_ok-sought.ensures, c.in_ok-plan.ensures)
