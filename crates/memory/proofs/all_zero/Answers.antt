use Rattle.std.proofs.Common.{arith, refl}
use Rattle.memory.proofs.Writes.{chunk_nonzero, chunk_zero}
use Rattle.memory.proofs.all_zero.Goals as goal

pub returns-then-bits-ne0 : goal.returns-then-bits-ne0
returns-then-bits-ne0 c = chunk_nonzero 1024 _ _ _ _ _ _ _ _ c.as_chunks.ensures.front (omega arith) refl c.bits.ensures c.loop-chunk.invariant c.if-bits-ne0.true

pub loop-chunk-preserved : goal.loop-chunk-preserved
loop-chunk-preserved c = chunk_zero 1024 _ _ _ _ _ _ _ _ c.as_chunks.ensures.front (omega arith) refl c.bits.ensures c.loop-chunk.invariant c.if-bits-ne0.false
