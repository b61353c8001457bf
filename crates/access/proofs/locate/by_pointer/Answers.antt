use Rattle.std.proofs.Common.{arith, sym}
use Rattle.access.proofs.Checked.{by_type}
use Rattle.access.proofs.locate.Laws.{place-start, data-start, place_here, pointer-some, data-here, place-next, data-next, place_end, data-end}
use Rattle.access.proofs.rows.Laws.{begun-zone, gave, row_next}
use Rattle.access.proofs.locate.by_pointer.Goals as goal

pub loop-block-init : goal.loop-block-init
loop-block-init c =
    let b = begun-zone c.args.z.bytes.now _ _ c.into_iter-block-iterator.ensures.into_iter_gives c.blocks-block-items.ensures.bytes c.blocks-block-items.ensures.begins in
    let i = by_type c.args.z in
    (b.0, b.1.row, place-start _ i _ b.1.first_is _, data-start _ i _ b.1.first_is _)

pub loop-block-init-derived : goal.loop-block-init-derived
loop-block-init-derived c =
    let b = begun-zone c.args.z.bytes.now _ _ c.into_iter-block-iterator.ensures.into_iter_gives c.blocks-block-items.ensures.bytes c.blocks-block-items.ensures.begins in
    (rw b.0 b.1.row, tt)

pub is_pointer-requires : goal.is_pointer-requires
is_pointer-requires c =
    let g = gave c.args.z.bytes.now c.loop-block.block-iterator c.next.new.self c.in-Some.block c.loop-block.invariant.0 c.in-Some.ensures.steps in
    omega (arith, g.stepped.low, g.stepped.fits)

pub overflow_sub-result : goal.overflow_sub-result
overflow_sub-result c =
    let g = gave c.args.z.bytes.now c.loop-block.block-iterator c.next.new.self c.in-Some.block c.loop-block.invariant.0 c.in-Some.ensures.steps in
    omega (arith, g.stepped.low)

pub returns-then-is_pointer : goal.returns-then-is_pointer
returns-then-is_pointer c =
    let g = gave c.args.z.bytes.now c.loop-block.block-iterator c.next.new.self c.in-Some.block c.loop-block.invariant.0 c.in-Some.ensures.steps in
    let i = rw g.at at c.loop-block.invariant.2 in
    let j = rw g.at at c.loop-block.invariant.3 in
    record { at_is = search place_here; some = search pointer-some; size_is = search data-here }

pub loop-block-preserved : goal.loop-block-preserved
loop-block-preserved c =
    let g = gave c.args.z.bytes.now c.loop-block.block-iterator c.next.new.self c.in-Some.block c.loop-block.invariant.0 c.in-Some.ensures.steps in
    let i = rw g.at at c.loop-block.invariant.2 in
    let j = rw g.at at c.loop-block.invariant.3 in
    (g.same, row_next _ _ _ _ g, rw g.next (search place-next), rw g.next (search data-next))

pub returns : goal.returns
returns c =
    let e = c.loop-block.invariant.0 in
    let l = rw e at c.in-None.ensures.steps.0 in
    record { place_is = sym (search place_end); size_is = sym (search data-end) }
