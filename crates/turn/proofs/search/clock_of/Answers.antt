use Rattle.access.proofs.Checked.{zone-clock, by_type}
use Rattle.turn.proofs.search.clock_of.Goals as goal

pub bounds-zone-14 : goal.bounds-zone-14
bounds-zone-14 c = search (zone-clock, by_type)
