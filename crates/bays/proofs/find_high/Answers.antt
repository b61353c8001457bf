use Rattle.bays.proofs.Given.{gave, begun}
use Rattle.bays.proofs.Searches.{start-high, high-yes, high-no, high-done}
use Rattle.bays.proofs.find_high.Goals as goal

pub loop-bay-init : goal.loop-bay-init
loop-bay-init c =
    let b = begun c.args.z.now c.args.first _ _ c.into_iter-bay-iterator.ensures.into_iter_gives c.bays_from-bay-items.ensures.bytes c.bays_from-bay-items.ensures.next in
    (b.0, rw b.1 (c.requires.0, c.requires.1), rw b.1 (search start-high))

pub loop-bay-init-derived : goal.loop-bay-init-derived
loop-bay-init-derived c =
    let b = begun c.args.z.now c.args.first _ _ c.into_iter-bay-iterator.ensures.into_iter_gives c.bays_from-bay-items.ensures.bytes c.bays_from-bay-items.ensures.next in
    (rw (b.0, b.1) ((c.requires.0, c.requires.1), c.requires.2), tt)

pub loop-bay-preserved-then-need-bay : goal.loop-bay-preserved-then-need-bay
loop-bay-preserved-then-need-bay c =
    let g = gave c.args.z.now c.loop-bay.bay-iterator c.next.new.self c.in-Some.bay c.loop-bay.invariant.0 c.loop-bay.invariant.1 c.in-Some.ensures.steps in
    let i = rw g.at at c.loop-bay.invariant.2 in
    (g.same, g.begins, search high-yes)

pub loop-bay-preserved : goal.loop-bay-preserved
loop-bay-preserved c =
    let g = gave c.args.z.now c.loop-bay.bay-iterator c.next.new.self c.in-Some.bay c.loop-bay.invariant.0 c.loop-bay.invariant.1 c.in-Some.ensures.steps in
    let i = rw g.at at c.loop-bay.invariant.2 in
    (g.same, g.begins, search high-no)

pub returns : goal.returns
returns c = let i = rw c.in-None.ensures.steps.0 at c.loop-bay.invariant.2 in search high-done
