use Rattle.std.proofs.Common.{◌≤◌}
use mathlib.Core.Path.{refl}
use native.Mathlib.Omega.{arith}
use Rattle.memory.proofs.Slide.{up_step, up_done}
use Rattle.memory.proofs.slide_up.Goals as goal

pub loop-k-init : goal.loop-k-init
loop-k-init c = (omega arith, refl, omega arith, refl)

pub loop-k-preserved : goal.loop-k-preserved
loop-k-preserved c =
    let fits : c.min-m.result ≤ c.loop-k.k = omega arith in
    (omega arith, omega arith, omega arith, search up_step)

pub returns : goal.returns
returns c = search up_done
