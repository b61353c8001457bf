use Rattle.slide.proofs.blank.Whole.{whole-between, whole-done, whole-none}
use Rattle.slide.proofs.blank.write_free_all.Goals as goal

pub write_free-requires : goal.write_free-requires
write_free-requires c = search whole-between

pub returns-then-to-gt0 : goal.returns-then-to-gt0
returns-then-to-gt0 c = search whole-done

pub returns-else-to-gt0 : goal.returns-else-to-gt0
returns-else-to-gt0 c = search whole-none
