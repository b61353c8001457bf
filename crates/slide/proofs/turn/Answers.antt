use native.Mathlib.Omega.{arith}
use lib.ListN.{length-take}
use Rattle.slide.proofs.MasterLaws.{turn-here, turn-fits, turned}
use borrow.Author.Rules.{rules}
use Rattle.slide.proofs.turn.Goals as goal

pub slice_bounds-step-end-2 : goal.slice_bounds-step-end-2
slice_bounds-step-end-2 c = simp length-take (omega arith)

pub step-n-requires : goal.step-n-requires
step-n-requires c = (search rules, simp length-take (omega arith))

pub set_master-requires : goal.set_master-requires
set_master-requires c = (search turn-here, search turn-fits, omega arith)

pub returns : goal.returns
returns c = search turned
