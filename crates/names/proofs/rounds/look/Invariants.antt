use Rattle.std.proofs.Common.{◌≡◌, ◌-◌, length}
use Rattle.names.specs.Pages.{Pages, names_at, some}
use Rattle.names.specs.Steps.{has_name}
use Rattle.names.proofs.rounds.look.Given as goal

abbrev pub invariant-loop-at : goal.invariant-loop-at
invariant-loop-at l = Pages l.z l.at × (some (has_name l.trees) (names_at l.z l.at) ≡ some (has_name l.trees) (names_at l.z l.from))

abbrev pub decreases-loop-at : goal.decreases-loop-at
decreases-loop-at l = length l.z - l.at
