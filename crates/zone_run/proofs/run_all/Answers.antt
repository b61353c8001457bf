use Rattle.std.proofs.Common.{rules, arith, is_ok}
use Rattle.zone_run.proofs.Loop.{served_none, served_more, served_next, seen_of, ended, another}
use Rattle.zone_run.proofs.run_all.Goals as goal

pub loop-last-init : goal.loop-last-init
loop-last-init g c = record { served = served_none _ _ _ c.requires; counted = omega arith; chunk_len = search rules; out_len = search rules }

pub overflow_add-full : goal.overflow_add-full
overflow_add-full g c = let a = another _ _ _ _ c.goes_on.ensures c.if-goes_on.true in record { fits = omega (arith, a.counts) }

pub loop-last-smaller : goal.loop-last-smaller
loop-last-smaller g c = let a = another _ _ _ _ c.goes_on.ensures c.if-goes_on.true in omega (arith, a.counts)

pub loop-last-preserved : goal.loop-last-preserved
loop-last-preserved g c =
    let last = c.run_some-last.ensures in
    let a = another c.run_some-last.result.got c.loop-last.full (is_ok c.run_some-last.result.written) _ c.goes_on.ensures c.if-goes_on.true in
    record {
      served = served_next _ _ _ _ _ _ _ _ _ (last.turned.most) (search rules) a (served_more _ _ _ _ _ _ c.loop-last.full _ _ _ _ _ _ _ c.loop-last.invariant.served last.turned last.taken last.wrote);
      counted = omega (arith, a.counts);
      chunk_len = search rules;
      out_len = search rules;
    }

pub returns-else-goes_on-clause-served : goal.returns-else-goes_on-clause-served
returns-else-goes_on-clause-served g c =
    let last = c.run_some-last.ensures in
    served_more _ _ _ _ _ _ c.loop-last.full _ _ _ _ _ _ _ c.loop-last.invariant.served last.turned last.taken last.wrote

pub returns-else-goes_on-clause-ended : goal.returns-else-goes_on-clause-ended
returns-else-goes_on-clause-ended g c =
    let last = c.run_some-last.ensures in
    let most = last.turned.most in
    ended _ _ _ _ _ (search rules)
    (seen_of _ _ _ _ _ _ _ (served_more _ _ _ _ _ _ c.loop-last.full _ _ _ _ _ _ _ c.loop-last.invariant.served last.turned last.taken last.wrote))
    c.goes_on.ensures c.if-goes_on.false
