use borrow.Author.Rules.{rules}
use native.Mathlib.Omega.{arith}
use Rattle.slide.proofs.run.Walk.{walk_start, walk-ahead, walk-master, walk_more, walk_ends, walk-done}
use Rattle.slide.proofs.compact_bay.Goals as goal

pub loop-at-init : goal.loop-at-init
loop-at-init c = search walk_start

pub cell_size-n-requires : goal.cell_size-n-requires
cell_size-n-requires c = search walk-ahead

pub pass-run-requires : goal.pass-run-requires
pass-run-requires c = (omega arith, omega arith, omega arith, omega arith, search rules, search walk-master)

pub loop-at-preserved : goal.loop-at-preserved
loop-at-preserved c = search walk_more

pub close-requires : goal.close-requires
close-requires c = search walk_ends

pub returns : goal.returns
returns c = search walk-done
