use borrow.Author.Rules.{rules}
use mathlib.Core.Path.{refl}
use native.Mathlib.Omega.{arith}
use Rattle.slide.proofs.MasterLaws.{masters-done, masters-step}
use Rattle.slide.proofs.set_masters.Goals as goal

pub loop-at-init : goal.loop-at-init
loop-at-init c = (omega arith, omega arith, omega arith, omega arith, refl, search rules, search rules, refl)

pub loop-at-preserved : goal.loop-at-preserved
loop-at-preserved c = (omega arith, omega arith, omega arith, omega arith, omega arith, search rules, search rules, search masters-step)

pub returns : goal.returns
returns c = search masters-done
