use mathlib.Core.Path.{refl}
use Rattle.inspect.proofs.census.Laws.{census-ill, census-bad, census-done, on-err}
use Rattle.inspect.proofs.census.census_to.Goals as goal

pub returns-in_err-z-clause-counted : goal.returns-in_err-z-clause-counted
returns-in_err-z-clause-counted c = search (census-ill, c.in_err-z.ensures)

pub returns-in_err-z-clause-kept : goal.returns-in_err-z-clause-kept
returns-in_err-z-clause-kept c = on-err _ refl _

pub returns-in-Some : goal.returns-in-Some
returns-in-Some c = search (census-done, c.in_ok-z.ensures, c.in-Some.ensures)

pub returns-in-None : goal.returns-in-None
returns-in-None c = search (census-bad, c.in_ok-z.ensures, c.in-None.ensures)
