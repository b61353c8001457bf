use Rattle.std.proofs.Common.{◌≤◌, ◌-◌}
use mathlib.Core.Path.{refl}
use native.Mathlib.Nat.{add-zero, sub-zero}
use native.Mathlib.Omega.{arith}
use Rattle.memory.proofs.Slide.{down_step, down-done}
use Rattle.memory.proofs.slide_down.Goals as goal

pub loop-k-init : goal.loop-k-init
loop-k-init c = (omega arith, refl, omega arith, simp (add-zero, sub-zero))

pub loop-k-preserved : goal.loop-k-preserved
loop-k-preserved c =
    let fits : c.min-m.result ≤ c.args.n - c.loop-k.k = omega arith in
    (omega arith, omega arith, omega arith, search down_step)

pub returns : goal.returns
returns c = search down-done
