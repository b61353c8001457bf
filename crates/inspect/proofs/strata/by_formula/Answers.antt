use mathlib.Core.Path.{refl}
use native.Mathlib.Omega.{arith}
use Rattle.zone.proofs.Formula.{few-zeros}
use Rattle.inspect.proofs.strata.by_formula.Goals as goal

pub overflow_sub-result : goal.overflow_sub-result
overflow_sub-result c = omega (arith, few-zeros c.args.words c.requires)

pub returns : goal.returns
returns c = refl
