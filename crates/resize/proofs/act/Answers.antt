use Rattle.resize.proofs.Ways.{here-done, own-done, other-done}
use Rattle.resize.proofs.act.Goals as goal

pub resize_here-requires : goal.resize_here-requires
resize_here-requires c = rw c.in-InPlace.is at c.requires

pub returns-in-InPlace : goal.returns-in-InPlace
returns-in-InPlace c = here-done _ _ _ _ _ _ _ (rw c.in-InPlace.is at c.requires) c.resize_here.ensures

pub returns-in-OwnBay : goal.returns-in-OwnBay
returns-in-OwnBay c = own-done _ _ _ _ _ _ _ _ (rw c.in-OwnBay.is at c.requires) c.lay_out.ensures

pub returns-in-OtherBay : goal.returns-in-OtherBay
returns-in-OtherBay c = other-done _ _ _ _ _ _ _ _ _ _ (rw c.in-OtherBay.is at c.requires) c.relocate.ensures
