use Rattle.std.proofs.Common.{arith, refl, rules, ◌≡◌, ◌-◌}
use Rattle.block_check.proofs.Leaves.{master-fits, links-no, links-done}
use Rattle.zone_check.proofs.Zone.{links-next}
use Rattle.zone_check.proofs.chain_ok.Goals as goal

pub loop-init : goal.loop-init
loop-init c = (search rules, let e : c.args.n - 0 ≡ c.args.n = omega arith in rw e refl)

pub returns-then-not-is_master : goal.returns-then-not-is_master
returns-then-not-is_master c = search (links-no, arith)

pub get4-h-requires : goal.get4-h-requires
get4-h-requires c = search master-fits

pub loop-preserved : goal.loop-preserved
loop-preserved c = (omega arith, search links-next)

pub returns : goal.returns
returns c = search (links-done, arith)
