use Rattle.std.proofs.Common.{rules}
use Rattle.inspect.proofs.strata.Laws.{formula-in, stratum-formula, limits-in}
use Rattle.inspect.proofs.strata.Limits.stratum.Goals as goal

pub returns-in-Formula : goal.returns-in-Formula
returns-in-Formula c = rw c.in-Formula.is (search formula-in, search stratum-formula)

pub returns-in-Lent : goal.returns-in-Lent
returns-in-Lent c = rw c.in-Lent.is (search limits-in, search rules)
