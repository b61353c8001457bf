use Rattle.std.proofs.Common.{arith, rules}
use Rattle.zone_run.proofs.Streams.{reads_on}
use Rattle.zone_run.proofs.read_chunk.Goals as goal

pub loop-got-preserved : goal.loop-got-preserved
loop-got-preserved g c =
    record {
      size = search rules;
      within = omega (arith, c.in-Ok.ensures.bound.0);
      taken = reads_on _ _ _ _ _ _ c.loop-got.chunk c.read.new.buf (omega arith) c.in-Ok.ensures.bound.0 c.loop-got.invariant.taken c.in-Ok.ensures.bytes.0;
    }
