-- What hardware stores at a fixed block's pointer is what a write by that pointer leaves.
use mathlib.Core.Path.{◌≡◌, refl, sym, ap, ◌∙◌}
use mathlib.Core.Bool.{Bool, true, false, cond}
use mathlib.Core.List.{List, [], ◌∷◌}
use Prim.Native.Nat.{ℕ, ◌+◌}
use lib.ListN.{length}
use lib.Seq.{take-length}
use lib.Dec.{eqb}
use borrow.Author.Tests.{eqb-true}
use Rattle.block_type.specs.Limits.{fixed_header}
use Rattle.format.specs.WellFormed.{zone_of}
use Rattle.structure.specs.Structure.{Block, fixed, size, start, decode_zone, cell}
use Rattle.bay.specs.Bay.{free, held}
use Rattle.calls.specs.Calls.{by_pointer}
use Rattle.zone.specs.Call.{Result}
use Rattle.zone.specs.Hardware.{HardwareWrites}
use Rattle.access.specs.locate.Locate.{target_place}
use Rattle.access.specs.Named.{place_among}
use Rattle.stretch.specs.Stretch.{stretch_number}
use Rattle.stretch.proofs.Answers.{accepted}
use Rattle.stretch.proofs.write.Laws.{write-is}

-- the data of the block that a pointer names begin at the pointer
pointer_is : (p at : ℕ) (bs : List Block) → (place_among (by_pointer p) at bs ≡ 0 → ⊥) → place_among (by_pointer p) at bs ≡ p
unfolding place_among
pointer_is p at [] l = absurd (l refl)
pointer_is p at (cell (free n) ∷ bs) l = pointer_is p (at + size (cell (free n))) bs l
pointer_is p at (cell (held it) ∷ bs) l = pointer_is p (at + size (cell (held it))) bs l
pointer_is p at (fixed d ∷ bs) l = go (eqb p (at + fixed_header)) refl l (pointer_is p (at + size (fixed d)) bs)
  where
    go : {later : ℕ} (t : Bool) → eqb p (at + fixed_header) ≡ t → (cond t (at + fixed_header) later ≡ 0 → ⊥) → ((later ≡ 0 → ⊥) → later ≡ p) → cond t (at + fixed_header) later ≡ p
    go true e k i = sym (eqb-true p (at + fixed_header) e)
    go false e k i = i k

pub target_is : (p : ℕ) (z : List ℕ) → (target_place (by_pointer p) z ≡ 0 → ⊥) → target_place (by_pointer p) z ≡ p
unfolding target_place
target_is p z l = pointer_is p (start (decode_zone z)) (decode_zone z).blocks l

pub hardware-writes : HardwareWrites
hardware-writes p i w s y done =
    let is = write-is (by_pointer p) i (length w) w s y in
    let none : stretch_number (by_pointer p) i (length w) (length w) s ≡ 0 = sym (ap (λ (r : Result). r.answer.number) is) ∙ done in
    let here : target_place (by_pointer p) (zone_of s) ≡ p = target_is p (zone_of s) (accepted s (by_pointer p) i (length w) (length w) none).live in
    ap (λ (r : Result). r.bytes) is ∙ (rw (none, here, take-length w))
