use Rattle.block_check.proofs.Word.{reloc-word, reloc-type, reloc-block}
use native.Mathlib.Omega.{arith}
use Rattle.block_check.proofs.good_block.Goals as goal

pub reloc_size-requires : goal.reloc_size-requires
reloc_size-requires c = (omega arith, omega arith, omega arith, omega arith, search reloc-word, search reloc-type, omega arith, omega arith)

pub returns-in-Some : goal.returns-in-Some
returns-in-Some c = search (reloc-block, c.in-Some.ensures)
