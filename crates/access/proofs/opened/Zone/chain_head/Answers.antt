use Rattle.access.proofs.Checked.{zone-14, by_type}
use Rattle.access.proofs.opened.Zone.chain_head.Goals as goal

pub get2-requires : goal.get2-requires
get2-requires c = search (zone-14, by_type)
