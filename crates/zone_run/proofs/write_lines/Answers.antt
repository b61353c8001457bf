use Rattle.std.proofs.Common.{rules}
use Rattle.zone_run.proofs.Streams.{writes_on}
use Rattle.zone_run.proofs.write_lines.Goals as goal

pub loop-done-preserved : goal.loop-done-preserved
loop-done-preserved g c =
    record {
      within = search rules;
      got = writes_on _ _ _ _ _ c.args.lines.now c.loop-done.invariant.got c.in_ok-n.ensures.bytes;
    }
