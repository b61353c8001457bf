use Rattle.allocate.proofs.relocatable.Ways.{grown-done, same-done}
use Rattle.allocate.proofs.relocatable.carry_out.Goals as goal

pub allocate_in-requires : goal.allocate_in-requires
allocate_in-requires c = rw c.in-InBay.is at c.requires

pub allocate_grown-requires : goal.allocate_grown-requires
allocate_grown-requires c = rw c.in-AfterGrowth.is at c.requires

pub returns-in-InBay : goal.returns-in-InBay
returns-in-InBay c = rw c.in-InBay.is (same-done _ _ (rw c.in-InBay.is at c.requires) _ c.allocate_in.ensures)

pub returns-in-AfterGrowth : goal.returns-in-AfterGrowth
returns-in-AfterGrowth c = rw c.in-AfterGrowth.is (grown-done _ _ _ _ (rw c.in-AfterGrowth.is at c.requires) _ c.allocate_grown.ensures)
