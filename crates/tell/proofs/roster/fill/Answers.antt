use Rattle.std.proofs.Common.{refl, arith}
use Rattle.access.proofs.Checked.{by_type}
use Rattle.tell.proofs.roster.Entries.{fill-first, fill-room, fill_step, fill_done, start-bytes, start-room, start-masters}
use Rattle.tell.proofs.roster.fill.Goals as goal

pub loop-i-init : goal.loop-i-init
loop-i-init c = (search (start-masters, by_type), refl, search start-room, search start-bytes)

pub enter-at-requires : goal.enter-at-requires
enter-at-requires c = search fill-first

pub loop-i-preserved : goal.loop-i-preserved
loop-i-preserved c = (omega arith, omega arith, search fill-room, search fill_step)

pub returns : goal.returns
returns c = search fill_done
