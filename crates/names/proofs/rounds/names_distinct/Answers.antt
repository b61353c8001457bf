use Rattle.std.proofs.Common.{arith, refl, rules}
use Rattle.names.proofs.rounds.Laws.{rounds-twice, rounds-on, rounds-end}
use Rattle.names.proofs.rounds.names_distinct.Goals as goal

pub loop-at-init : goal.loop-at-init
loop-at-init c = (search rules, refl)

pub returns-in_default : goal.returns-in_default
returns-in_default c = search (rounds-twice, rules)

pub loop-at-smaller : goal.loop-at-smaller
loop-at-smaller c = let r = c.in-Some.ensures in omega (arith, r.far)

pub loop-at-preserved : goal.loop-at-preserved
loop-at-preserved c = let r = c.in-Some.ensures in (r.pages, search rounds-on)

pub returns : goal.returns
returns c = search rounds-end
