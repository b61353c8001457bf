use native.Mathlib.Omega.{arith}
use borrow.Author.Rules.{rules}
use Rattle.inspect.proofs.census.Laws.{free_size_is, tally-start, tally-free, tally-used, counts-done}
use Rattle.inspect.proofs.strata.Laws.{by-long, by-rises}
use Rattle.inspect.proofs.census.count_in.Goals as goal
use Rattle.inspect.proofs.census.count_in.Goals.{then-is_free, else-is_free}

pub loop-p-init : goal.loop-p-init
loop-p-init c = let b = c.first_block-p.ensures in (b.header, b.within, b.row, tally-start _ _ _ b.first_is)

pub stratum-i-requires : goal.stratum-i-requires
stratum-i-requires c = search free_size_is

pub overflow_add-counts : goal.overflow_add-counts
overflow_add-counts c = omega (arith, c.loop-p.invariant.3.few c.stratum-i.result)

pub loop-p-preserved : goal.loop-p-preserved
loop-p-preserved c = (omega arith, omega arith, search rules, elim c.if-is_free.branch [ then-is_free w ↦ search (tally-free, by-long, by-rises) | else-is_free w ↦ search tally-used ])

pub returns : goal.returns
returns c = search counts-done
