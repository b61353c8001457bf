use Rattle.std.proofs.Common.{arith, refl, rules}
use Rattle.zone_check.proofs.Turns.{walk-bad, walk-stops, walked_on, walked-reloc, walked-page, reloc-other, page-other, page-fits, seen_none, seen-page, seen-lost, seen_other, found-page, found-other, named_other, walk_ends}
use Rattle.format.proofs.Bool.{not-both}
use Rattle.zone_check.proofs.walk.Goals as goal

pub loop-t-init : goal.loop-t-init
loop-t-init c = (search rules, search rules, search (seen_none, rules), λ _. search rules, search rules, search rules, λ h. let e : ⊥ = omega arith in absurd e)

pub good_block-requires : goal.good_block-requires
good_block-requires c = (omega arith, omega arith, omega arith, omega arith, search rules)

pub returns-in_err-block : goal.returns-in_err-block
returns-in_err-block c = rw c.from_residual.ensures (search (walk-bad, c.in_err-block.ensures))

pub returns-in_default : goal.returns-in_default
returns-in_default c =
    let b = c.in_ok-block.ensures in
    let untabled = rw c.in_default.is at c.loop-t.invariant.0 in
    let met = (rw c.in_default.is at c.loop-t.invariant.3) refl in
    rw (← untabled) (search rules, search walk-stops)

pub name_at-x-requires : goal.name_at-x-requires
name_at-x-requires c = let b = c.in_ok-block.ensures in search page-fits

pub overflow_add-t : goal.overflow_add-t
overflow_add-t c = let b = c.in_ok-block.ensures in omega arith

pub word_at-word-requires : goal.word_at-word-requires
word_at-word-requires c = let b = c.in_ok-block.ensures in omega arith

pub loop-t-smaller-then-t : goal.loop-t-smaller-then-t
loop-t-smaller-then-t c = let b = c.in_ok-block.ensures in omega arith

pub loop-t-preserved-then-t : goal.loop-t-preserved-then-t
loop-t-preserved-then-t c =
    let b = c.in_ok-block.ensures in
    let seen = rw c.in-Some.is at c.loop-t.invariant.2 in
    let tabled = rw c.in-Some.is at c.loop-t.invariant.0 in
    let met = rw c.loop-t.invariant.4 at c.meet.ensures.1 in
    (search rules, search walked-page, search seen-page, λ q. absurd (not-both refl q), search rules, search found-page, search rules)

pub loop-t-smaller-else-t : goal.loop-t-smaller-else-t
loop-t-smaller-else-t c = let b = c.in_ok-block.ensures in omega arith

pub loop-t-preserved-else-t : goal.loop-t-preserved-else-t
loop-t-preserved-else-t c =
    let b = c.in_ok-block.ensures in
    let seen = rw c.in-Some.is at c.loop-t.invariant.2 in
    let tabled = rw c.in-Some.is at c.loop-t.invariant.0 in
    let met = rw c.loop-t.invariant.4 at c.meet.ensures.1 in
    (search rules, search walked-page, search seen-lost, λ q. absurd (not-both refl q), search rules, search found-page, search rules)

pub loop-t-preserved-then-eq : goal.loop-t-preserved-then-eq
loop-t-preserved-then-eq c =
    let b = c.in_ok-block.ensures in
    let other = reloc-other _ _ _ _ _ _ _ c.loop-t.invariant.1 b _ c.eq.ensures c.if-eq.true in
    (search rules, search walked-reloc, search seen_other, λ q. (search (named_other, c.loop-t.invariant.3 q), (c.loop-t.invariant.3 q).1), search rules, search found-other, search rules)

pub loop-t-preserved : goal.loop-t-preserved
loop-t-preserved c =
    let b = c.in_ok-block.ensures in
    (search rules, search walked_on, search (seen_other, page-other), λ q. (search (named_other, page-other, c.loop-t.invariant.3 q), (c.loop-t.invariant.3 q).1), search rules, search (found-other, page-other), search rules)

pub returns : goal.returns
returns c = (search rules, search walk_ends)
