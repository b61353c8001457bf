use Rattle.std.proofs.Common.{refl, arith, length, ◌/◌}
use Rattle.memory.specs.Zeros.{all_zero}
use Rattle.memory.proofs.Writes.{bits_step, bits_done, words_step, words_done}
use Rattle.memory.proofs.bits.Goals as goal

pub loop-word-init : goal.loop-word-init
loop-word-init c = refl

pub loop-word-preserved : goal.loop-word-preserved
loop-word-preserved c = words_step _ _ _ _ _ _ _ _ _ c.as_chunks.ensures.front (omega arith) (omega arith) refl c.from_le_bytes-all.ensures c.loop-word.invariant

pub loop-x-init : goal.loop-x-init
loop-x-init c = words_done c.args.s.now c.as_chunks.result.1.now c.loop-word.word-index (length c.args.s.now / 8) c.loop-word.all (all_zero c.args.s.now) (omega arith) c.as_chunks.ensures.back c.loop-word.invariant

pub loop-x-preserved : goal.loop-x-preserved
loop-x-preserved c = search bits_step

pub returns : goal.returns
returns c = search bits_done
