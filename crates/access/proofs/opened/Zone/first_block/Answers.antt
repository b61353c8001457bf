use Rattle.std.proofs.Common.{arith}
use Rattle.structure.proofs.IsZone.{whole_of}
use Rattle.access.proofs.Checked.{by_type}
use Rattle.access.proofs.row.Zone.{begins}
use Rattle.access.proofs.opened.Zone.first_block.Goals as goal

pub get4-requires : goal.get4-requires
get4-requires c = omega (arith, (whole_of _ (by_type c.args.self)).long)

pub returns : goal.returns
returns c = search (begins, by_type)
