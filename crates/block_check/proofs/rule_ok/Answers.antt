use Rattle.block_check.proofs.Leaves.{rule-reloc, rule-free, rule-page, rule-fixed}
use Rattle.block_check.proofs.rule_ok.Goals as goal

pub returns-in-Free : goal.returns-in-Free
returns-in-Free c = search rule-free

pub returns-in-Fixed : goal.returns-in-Fixed
returns-in-Fixed c = search rule-fixed

pub returns-in-Relocatable : goal.returns-in-Relocatable
returns-in-Relocatable c = search rule-reloc

pub returns-in-Page : goal.returns-in-Page
returns-in-Page c = search rule-page
