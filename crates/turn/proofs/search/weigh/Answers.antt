use Rattle.std.proofs.Common.{arith, refl}
use Rattle.access.specs.row.Row.{block_at}
use Rattle.access.proofs.Checked.{by_type}
use Rattle.access.proofs.rows.Laws.{begun, gave, row_next}
use Rattle.turn.proofs.search.Walk.{walk_start, walk-next, walk-done, over-most}
use Rattle.turn.proofs.search.Found.{weighed-all}
use Rattle.turn.proofs.search.weigh.Goals as goal

pub loop-block-init-derived : goal.loop-block-init-derived
loop-block-init-derived c =
    let b = begun c.args.zone.bytes.now _ _ _ c.into_iter-block-iterator.ensures.into_iter_gives c.blocks-block-items.ensures.bytes refl in
    (rw (b.0, b.1) c.blocks-block-items.ensures.begins.row, tt)

pub loop-block-init : goal.loop-block-init
loop-block-init c =
    let s = c.blocks-block-items.ensures.begins in
    let b = begun c.args.zone.bytes.now _ _ _ c.into_iter-block-iterator.ensures.into_iter_gives c.blocks-block-items.ensures.bytes s.first_is in
    (b.0, rw (b.1, ← s.first_is) s.row, omega arith, omega arith, rw b.1 (walk_start _ _ _))

pub pass-w-requires : goal.pass-w-requires
pass-w-requires c =
    let g = gave c.args.zone.bytes.now c.loop-block.block-iterator c.next.new.self c.in-Some.block c.loop-block.invariant.0 c.in-Some.ensures.steps in
    (g.stepped, omega (arith, g.at), omega arith, omega arith)

pub loop-block-preserved : goal.loop-block-preserved
loop-block-preserved c =
    let g = gave c.args.zone.bytes.now c.loop-block.block-iterator c.next.new.self c.in-Some.block c.loop-block.invariant.0 c.in-Some.ensures.steps in
    let i = rw g.at at c.loop-block.invariant.4 in
    let p = c.pass-w.ensures in
    (g.same, row_next _ _ _ _ g, omega (arith, g.at, g.next, p.small), omega (arith, p.over_is, over-most c.args.clock c.args.limit c.loop-block.w.over (block_at c.args.zone.bytes.now c.in-Some.block.at)), rw g.next (search walk-next))

pub returns : goal.returns
returns c = let l = rw c.loop-block.invariant.0 at c.in-None.ensures.steps.0 in search (weighed-all, walk-done, by_type)
