use Rattle.std.proofs.Common.{rules, arith, refl}
use Rattle.block_type.proofs.Types.{movable-yes, movable-no, fixed-yes, fixed-no}
use Rattle.bays.proofs.Walk.{seen_none, seen-held, seen-free, read-fixed, read-end}
use Rattle.bays.proofs.Words.{movable-used, fixed-used, else-free}
use Rattle.bays.proofs.read_bay.Goals as goal

pub loop-at-init : goal.loop-at-init
loop-at-init c = (omega arith, omega arith, omega arith, search rules, search seen_none)

pub step_used-at-requires : goal.step_used-at-requires
step_used-at-requires c = (search rules, search rules, search rules, search movable-used)

pub loop-at-preserved-then-is_movable : goal.loop-at-preserved-then-is_movable
loop-at-preserved-then-is_movable c = (omega arith, omega arith, omega arith, search rules, search (seen-held, movable-yes))

pub step_used-n-requires : goal.step_used-n-requires
step_used-n-requires c = (search rules, search rules, search rules, search fixed-used)

pub returns-then-eq : goal.returns-then-eq
returns-then-eq c = record { start_is = refl; read = search (read-fixed, fixed-yes); begins = (search rules, omega arith) }

pub step_free-tail-requires : goal.step_free-tail-requires
step_free-tail-requires c = (search rules, search rules, search rules, search else-free)

pub loop-at-preserved : goal.loop-at-preserved
loop-at-preserved c = (omega arith, omega arith, omega arith, search rules, search (seen-free, movable-no, fixed-no))

pub returns : goal.returns
returns c = record { start_is = refl; read = search read-end; begins = tt }
