use Rattle.std.proofs.Common.{arith, refl}
use Rattle.access.proofs.Checked.{by_type}
use Rattle.access.proofs.rows.Laws.{begun, gave, row_next}
use Rattle.turn.proofs.search.Walk.{dirty-start, dirty-none, dirty-clean, dirty-first, dirty-keeps, dirty-less, dirty-done}
use Rattle.turn.proofs.search.Found.{dirty-all}
use Rattle.turn.proofs.search.first_dirty.Goals.{in_default-via-in-None-1, in_default-via-in-Some-rank_at+else-page}
use Rattle.turn.proofs.search.first_dirty.Goals as goal

pub loop-block-init-derived : goal.loop-block-init-derived
loop-block-init-derived c =
    let b = begun c.args.zone.bytes.now _ _ _ c.into_iter-block-iterator.ensures.into_iter_gives c.blocks-block-items.ensures.bytes refl in
    (rw (b.0, b.1) c.blocks-block-items.ensures.begins.row, tt)

pub loop-block-init : goal.loop-block-init
loop-block-init c =
    let s = c.blocks-block-items.ensures.begins in
    let b = begun c.args.zone.bytes.now _ _ _ c.into_iter-block-iterator.ensures.into_iter_gives c.blocks-block-items.ensures.bytes s.first_is in
    (b.0, rw (b.1, ← s.first_is) s.row, omega arith, rw b.1 (dirty-start c.args.clock c.args.zone.bytes.now _))

pub rank_at-requires : goal.rank_at-requires
rank_at-requires c = (gave c.args.zone.bytes.now c.loop-block.block-iterator c.next.new.self c.in-Some.block c.loop-block.invariant.0 c.in-Some.ensures.steps).stepped

pub loop-block-preserved-in-Some-least : goal.loop-block-preserved-in-Some-least
loop-block-preserved-in-Some-least c =
    let g = gave c.args.zone.bytes.now c.loop-block.block-iterator c.next.new.self c.in-Some.block c.loop-block.invariant.0 c.in-Some.ensures.steps in
    let i = rw g.at at c.loop-block.invariant.3 in
    let m = rw c.in-Some-least.is at c.loop-block.invariant.2 in
    (g.same, row_next _ _ _ _ g, m, rw g.next (search dirty-keeps))

pub loop-block-preserved-in_default : goal.loop-block-preserved-in_default
loop-block-preserved-in_default c =
    let g = gave c.args.zone.bytes.now c.loop-block.block-iterator c.next.new.self c.in-Some.block c.loop-block.invariant.0 c.in-Some.ensures.steps in
    let i = rw g.at at c.loop-block.invariant.3 in
    let b = rw c.in-Some-rank_at.is at c.rank_at.ensures.below in
    (g.same, row_next _ _ _ _ g, omega (arith, b), rw g.next (search dirty-less))

pub loop-block-preserved-in_default-2 : goal.loop-block-preserved-in_default-2
loop-block-preserved-in_default-2 c =
    let g = gave c.args.zone.bytes.now c.loop-block.block-iterator c.next.new.self c.in-Some.block c.loop-block.invariant.0 c.in-Some.ensures.steps in
    let i = rw g.at at c.loop-block.invariant.3 in
    let b = rw c.in-Some-rank_at.is at c.rank_at.ensures.below in
    (g.same, row_next _ _ _ _ g, omega (arith, b), rw g.next (search dirty-first))

pub loop-block-preserved : goal.loop-block-preserved
loop-block-preserved c =
    let g = gave c.args.zone.bytes.now c.loop-block.block-iterator c.next.new.self c.in-Some.block c.loop-block.invariant.0 c.in-Some.ensures.steps in
    let i = rw g.at at c.loop-block.invariant.3 in (
      g.same,
      row_next _ _ _ _ g,
      c.loop-block.invariant.2,
      rw g.next (elim c.in_default.branch [ in_default-via-in-None-1 w ↦ search dirty-none | in_default-via-in-Some-rank_at+else-page w ↦ search dirty-clean ]),
    )

pub returns : goal.returns
returns c = let l = rw c.loop-block.invariant.0 at c.in-None.ensures.steps.0 in search (dirty-all, dirty-done, by_type)
