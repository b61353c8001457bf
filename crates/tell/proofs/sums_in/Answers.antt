use Rattle.std.proofs.Common.{◌≡◌, max, arith, rules}
use Rattle.bays.proofs.Given.{gave, begun}
use Rattle.tell.proofs.Totals.{met-none, met-more, met_all, total-within, total-word}
use Rattle.tell.proofs.sums_in.Goals as goal

pub loop-bay-init : goal.loop-bay-init
loop-bay-init c =
    let s = c.first_block.ensures in
    let b = begun c.args.z.bytes.now c.first_block.result _ _ c.into_iter-bay-iterator.ensures.into_iter_gives c.bays_from-bay-items.ensures.bytes c.bays_from-bay-items.ensures.next in
    (b.0, rw b.1 (s.row, s.within), s.short, rw b.1 (omega arith), rw (b.1, ← s.first_is) (met-none _ _ s.within))

pub loop-bay-init-derived : goal.loop-bay-init-derived
loop-bay-init-derived c =
    let s = c.first_block.ensures in
    let b = begun c.args.z.bytes.now c.first_block.result _ _ c.into_iter-bay-iterator.ensures.into_iter_gives c.bays_from-bay-items.ensures.bytes c.bays_from-bay-items.ensures.next in
    (rw (b.0, b.1) ((s.row, s.within), s.short), tt)

pub overflow_add-total : goal.overflow_add-total
overflow_add-total c =
    let g = gave c.args.z.bytes.now c.loop-bay.bay-iterator c.next.new.self c.in-Some.bay c.loop-bay.invariant.0 c.loop-bay.invariant.1 c.in-Some.ensures.steps in
    let l = rw g.at at c.loop-bay.invariant.3 in
    search total-word

pub loop-bay-preserved : goal.loop-bay-preserved
loop-bay-preserved c =
    let g = gave c.args.z.bytes.now c.loop-bay.bay-iterator c.next.new.self c.in-Some.bay c.loop-bay.invariant.0 c.loop-bay.invariant.1 c.in-Some.ensures.steps in
    let l = rw g.at at c.loop-bay.invariant.3 in
    let i = rw g.at at c.loop-bay.invariant.4 in
    let m : c.max-largest.result ≡ max c.loop-bay.largest c.in-Some.bay.sum = search rules in
    (g.same, g.begins, c.loop-bay.invariant.2, search total-within, search met-more)

pub returns : goal.returns
returns c = let i = rw c.in-None.ensures.steps.0 at c.loop-bay.invariant.4 in search met_all
