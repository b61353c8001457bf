use mathlib.Core.Path.{refl}
use native.Mathlib.Omega.{arith}
use Rattle.records.proofs.Chunk.{prints-step, leaves-step, chunk-done}
use Rattle.records.proofs.run_chunk.Goals as goal

-- The invariant: what is printed, and then what the records that are left print, is all that the input prints. For each 16 bytes that are

-- left there is room for 32.

pub loop-i-init : goal.loop-i-init
loop-i-init c = (omega arith, omega arith, refl, refl, refl, refl)

pub loop-i-preserved : goal.loop-i-preserved
loop-i-preserved c = (omega arith, omega arith, search prints-step, search leaves-step, omega arith, omega arith)

pub returns : goal.returns
returns c = search chunk-done
