-- One bay of some bays is changed, and the flat list of their blocks with it.
use Rattle.std.specs.Prelude.{List, [], ◌∷◌}
use Rattle.structure.specs.Structure.{Block, fixed}
use Rattle.calls.specs.Bays.{Bays, last, more}
use Rattle.calls.specs.State.{Fixed}
use Rattle.bay.specs.Bay.{Cell}
use Rattle.zone.specs.Group.{flat_bay, flatten}

-- f changes one bay: the bays before and after, the blocks before that bay, its cells before, the blocks behind it
pub data At (f : List Cell → List Cell) : Bays (List Cell) Fixed → Bays (List Cell) Fixed → List Block → List Cell → List Block → Type 0 where
  at_last : {b : List Cell} → At f (last b) (last (f b)) [] b []
  at_here : {b : List Cell} {x : Fixed} {s : Bays (List Cell) Fixed} → At f (more b x s) (more (f b) x s) [] b (fixed x.bytes ∷ flatten s)
  at_later : {c : List Cell} {x : Fixed} {s s' : Bays (List Cell) Fixed} {pre : List Block} {b : List Cell} {post : List Block}
      → At f s s' pre b post → At f (more c x s) (more c x s') (flat_bay c (fixed x.bytes ∷ pre)) b post
