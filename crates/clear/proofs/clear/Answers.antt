use borrow.Author.Rules.{rules}
use mathlib.Core.Path.{refl}
use native.Mathlib.Omega.{arith}
use Rattle.access.proofs.row.Zone.{zone-start}
use Rattle.clear.proofs.Going.{going_start, going-row, going_end}
use Rattle.clear.proofs.Loop.{going-stays, going-between, going-drops}
use Rattle.clear.proofs.clear.Goals as goal

pub loop-at-init : goal.loop-at-init
loop-at-init c = (omega arith, search zone-start, refl, search going_start)

pub step-size-requires : goal.step-size-requires
step-size-requires c = (search going-row, omega arith)

pub write_free-requires : goal.write_free-requires
write_free-requires c = let x = c.find_extent-extent.ensures in rw (x.1, x.2) (going-between _ _ _ _ _ _ c.loop-at.invariant.3 _ c.step-size.ensures _ c.goes.ensures (search rules) _ _ x.0)

pub loop-at-smaller-then-goes : goal.loop-at-smaller-then-goes
loop-at-smaller-then-goes c = let b = going-between _ _ _ _ _ _ c.loop-at.invariant.3 _ c.step-size.ensures _ c.goes.ensures (search rules) _ _ c.find_extent-extent.ensures.0 in omega (arith, b)

pub loop-at-preserved-then-goes : goal.loop-at-preserved-then-goes
loop-at-preserved-then-goes c =
    let b = going-between _ _ _ _ _ _ c.loop-at.invariant.3 _ c.step-size.ensures _ c.goes.ensures (search rules) _ _ c.find_extent-extent.ensures.0 in
    (omega (arith, b), omega (arith, b), omega arith, going-drops _ _ _ _ _ _ c.loop-at.invariant.3 _ c.step-size.ensures _ c.goes.ensures (search rules) _ _ c.find_extent-extent.ensures.0 _ c.write_free.ensures (search rules))

pub loop-at-preserved : goal.loop-at-preserved
loop-at-preserved c = (search rules, search rules, search rules, going-stays _ _ _ _ _ _ c.loop-at.invariant.3 _ c.step-size.ensures _ c.goes.ensures (search rules))

pub shape_of-z : goal.shape_of-z
shape_of-z c = omega arith

pub returns : goal.returns
returns c = search going_end
