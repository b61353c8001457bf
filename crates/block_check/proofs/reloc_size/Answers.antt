use Rattle.block_check.proofs.Word.{fast-fits, fast-turn}
use native.Mathlib.Omega.{arith}
use Rattle.block_check.proofs.reloc_size.Goals as goal

pub is_held-requires : goal.is_held-requires
is_held-requires c = (search fast-fits, omega arith, omega arith)

pub returns-then-n-gt0 : goal.returns-then-n-gt0
returns-then-n-gt0 c = search fast-turn
