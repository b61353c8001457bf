use Rattle.block_check.proofs.Leaves.{reloc-rule, reloc-rule-no, master-fits}
use Rattle.block_check.proofs.reloc_ok.Goals as goal

pub get4-requires : goal.get4-requires
get4-requires c = search master-fits

pub returns-then-is_master : goal.returns-then-is_master
returns-then-is_master c = search reloc-rule

pub returns-else-is_master : goal.returns-else-is_master
returns-else-is_master c = search reloc-rule-no
