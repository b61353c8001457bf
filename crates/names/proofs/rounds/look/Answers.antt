use mathlib.Core.Path.{refl}
use native.Mathlib.Omega.{arith}
use borrow.Author.Rules.{rules}
use Rattle.names.proofs.Pages.{step-next}
use Rattle.names.proofs.rounds.Laws.{look-found, look-step, look-end}
use Rattle.names.proofs.rounds.look.Goals as goal

pub loop-at-init : goal.loop-at-init
loop-at-init c = (search rules, refl)

pub returns-then-is_met : goal.returns-then-is_met
returns-then-is_met c = search look-found

pub loop-at-smaller : goal.loop-at-smaller
loop-at-smaller c = omega arith

pub loop-at-preserved : goal.loop-at-preserved
loop-at-preserved c = (search step-next, search look-step)

pub returns : goal.returns
returns c = search look-end
