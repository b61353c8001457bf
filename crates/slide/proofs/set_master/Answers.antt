use Rattle.slide.proofs.Master.{set-none, set-some}
use Rattle.slide.proofs.set_master.Goals as goal

pub returns-in-Some : goal.returns-in-Some
returns-in-Some c = let e = c.in-Some.ensures in search set-some

pub returns-in_default : goal.returns-in_default
returns-in_default c = let e = c.in_default.ensures in search set-none
