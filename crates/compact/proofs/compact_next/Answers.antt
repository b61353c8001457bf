use borrow.Author.Rules.{rules}
use native.Mathlib.Omega.{arith}
use Rattle.slide.proofs.run.Walk.{walk_start}
use Rattle.compact.proofs.Next.{next-ahead, next-master, next_more, stop-ended, stop-run, stop-done}
use Rattle.compact.proofs.compact_next.Goals as goal

pub loop-z-init : goal.loop-z-init
loop-z-init c = search walk_start

pub cell_size-n-requires : goal.cell_size-n-requires
cell_size-n-requires c = search next-ahead

pub pass-w-requires : goal.pass-w-requires
pass-w-requires c = (omega arith, omega arith, omega arith, omega arith, search rules, search next-master)

pub loop-z-preserved : goal.loop-z-preserved
loop-z-preserved c = search next_more

pub next_after-next-requires : goal.next_after-next-requires
next_after-next-requires c = search stop-ended

pub close-end-requires : goal.close-end-requires
close-end-requires c = search stop-run

pub returns : goal.returns
returns c = search stop-done
