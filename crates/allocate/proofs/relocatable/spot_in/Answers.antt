use mathlib.Core.Path.{refl}
use Rattle.allocate.proofs.relocatable.PlanLaws.{ask-master, going}
use Rattle.allocate.proofs.relocatable.spot_in.Goals as goal

pub get4-requires : goal.get4-requires
get4-requires c = search ask-master

pub returns : goal.returns
returns c = (refl, refl, search going)
