use Rattle.access.proofs.Checked.{zone-12, by_type}
use Rattle.access.proofs.opened.Zone.masters.Goals as goal

pub get4-requires : goal.get4-requires
get4-requires c = search (zone-12, by_type)
