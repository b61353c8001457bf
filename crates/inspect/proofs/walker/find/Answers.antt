use Rattle.std.proofs.Common.{refl}
use Rattle.access.proofs.rows.Laws.{begun-zone, gave, row_next}
use Rattle.inspect.proofs.walker.Laws.{describe-here, describe-step, describe-end, find-done}
use Rattle.inspect.proofs.walker.find.Goals as goal

pub loop-block-init : goal.loop-block-init
loop-block-init c =
    let b = begun-zone c.args.z.bytes.now _ _ c.into_iter-block-iterator.ensures.into_iter_gives c.blocks-block-items.ensures.bytes c.blocks-block-items.ensures.begins in
    (b.0, b.1.row, rw b.1.first_is refl)

pub loop-block-init-derived : goal.loop-block-init-derived
loop-block-init-derived c =
    let b = begun-zone c.args.z.bytes.now _ _ c.into_iter-block-iterator.ensures.into_iter_gives c.blocks-block-items.ensures.bytes c.blocks-block-items.ensures.begins in
    (rw b.0 b.1.row, tt)

pub loop-block-preserved : goal.loop-block-preserved
loop-block-preserved c =
    let g = gave c.args.z.bytes.now c.loop-block.block-iterator c.next.new.self c.in-Some.block c.loop-block.invariant.0 c.in-Some.ensures.steps in
    let i = rw g.at at c.loop-block.invariant.2 in
    (g.same, row_next _ _ _ _ g, rw g.next (search describe-step))

pub returns-then-block-at-clause-found : goal.returns-then-block-at-clause-found
returns-then-block-at-clause-found c =
    let g = gave c.args.z.bytes.now c.loop-block.block-iterator c.next.new.self c.in-Some.block c.loop-block.invariant.0 c.in-Some.ensures.steps in
    let i = rw g.at at c.loop-block.invariant.2 in
    find-done c.args.z c.args.at _ (search describe-here)

pub returns-clause-found : goal.returns-clause-found
returns-clause-found c =
    let e = c.loop-block.invariant.0 in
    let l = rw e at c.in-None.ensures.steps.0 in
    find-done c.args.z c.args.at _ (search describe-end)
