use mathlib.Core.Path.{refl}
use native.Mathlib.Nat.{add-zero}
use native.Mathlib.Omega.{arith}
use lib.ListN.{length-set}
use Rattle.memory.proofs.Copy.{copy_step, copy_done}
use Rattle.memory.proofs.copy_in.Goals as goal

pub loop-k-init : goal.loop-k-init
loop-k-init c = (omega arith, refl, omega arith, rw add-zero)

pub loop-k-preserved : goal.loop-k-preserved
loop-k-preserved c = (omega arith, simp length-set (omega arith), simp length-set (omega arith), search copy_step)

pub returns : goal.returns
returns c = search copy_done
