use Rattle.std.proofs.Common.{◌≡◌, ◌-◌, ◌<◌, true, false, length}
use Rattle.std.specs.Prelude.{is_some}
use Rattle.std.specs.Option.{option_copied_mut}
use Rattle.block_check.specs.Word.{IsWord}
use Rattle.names.specs.Pages.{names_at}
use Rattle.zone_check.specs.Body.{Walked, Seen, Found}
use Rattle.zone_check.specs.Table.{table_of}
use Rattle.zone_check.proofs.walk.Given as goal

abbrev pub invariant-loop-t : goal.invariant-loop-t
invariant-loop-t l =
    (is_some l.seen ≡ is_some l.fn.seen)
    × Walked l.z l.first l.t.at l.t.after_free l.t.count
    × Seen l.z (table_of (option_copied_mut l.seen)) l.first l.t.at l.t.certain
    × (is_some l.seen ≡ false → (names_at l.z l.t.at ≡ names_at l.z l.first) × (l.t.certain ≡ true))
    × (l.search.name ≡ l.initial.search.name)
    × Found l.initial.search.name l.z l.first l.t.at l.search.page
    × (0 < l.word → IsWord l.z l.t.at l.word)

abbrev pub decreases-loop-t : goal.decreases-loop-t
decreases-loop-t l = length l.z - l.t.at
