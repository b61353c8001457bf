-- Blocks one list after another: their sizes, their handles, and the place of a handle's block.
use mathlib.Core.Path.{◌≡◌, refl, ap, ◌∙◌, sym}
use mathlib.Core.List.{List, [], ◌∷◌, ◌++◌, append_assoc}
use mathlib.Core.Bool.{Bool, true, false, cond}
use Prim.Native.Nat.{ℕ, ◌+◌, ◌<◌}
use native.Mathlib.Nat.{add-zero, zero-add, add_assoc}
use native.Mathlib.Omega.{arith}
use lib.Dec.{eqb}
use borrow.Author.Tests.{ne_eqb}
use lib.ListN.{length}
use Rattle.format.specs.Occurs.{occurs}
use Rattle.block_type.specs.Limits.{fixed_header}
use Rattle.kinds.specs.Kinds.{header_of, item_size, masters_of, Item, is, names_of}
use Rattle.kinds.proofs.KindLaws.{is-owner}
use Rattle.bay.specs.Bay.{free, held}
use Rattle.format.proofs.Count.{occurs-append}
use Rattle.structure.specs.Structure.{Block, fixed, sizes, place_of, cell, handles_of, names_in}

pub sizes-append : (a b : List Block) → sizes (a ++ b) ≡ sizes a + sizes b
unfolding sizes
sizes-append [] b = omega arith
sizes-append (x ∷ a) b = omega (arith, sizes-append a b)

pub handles-append : (a b : List Block) → handles_of (a ++ b) ≡ handles_of a ++ handles_of b
unfolding handles_of
handles-append [] b = refl
handles-append (cell (free n) ∷ a) b = handles-append a b
handles-append (fixed d ∷ a) b = handles-append a b
handles-append (cell (held it) ∷ a) b = ap (masters_of it ++◌) (handles-append a b) ∙ sym (append_assoc (masters_of it) (handles_of a) (handles_of b))

-- a movable block in front: its handle, where it has one
pub names-append : (a b : List Block) → names_in (a ++ b) ≡ names_in a ++ names_in b
unfolding names_in
names-append [] b = refl
names-append (cell (free n) ∷ a) b = names-append a b
names-append (fixed d ∷ a) b = names-append a b
names-append (cell (held it) ∷ a) b = ap (names_of it ++◌) (names-append a b) ∙ sym (append_assoc (names_of it) (names_in a) (names_in b))

pub occurs-held : (h : ℕ) (e : Item) (bs : List Block) → occurs h (handles_of (cell (held e) ∷ bs)) ≡ cond (is h e) 1 0 + occurs h (handles_of bs)
unfolding handles_of
occurs-held h e bs = occurs-append h (masters_of e) (handles_of bs) ∙ ap (◌+ occurs h (handles_of bs)) (is-owner h e)

pub occurs-own : (h : ℕ) (e : Item) (bs : List Block) → is h e ≡ true → 0 < occurs h (handles_of (cell (held e) ∷ bs))
occurs-own h e bs q = rw (occurs-held h e bs, q) (omega arith)

pub place-append : (g at : ℕ) (a b : List Block) → place_of (is g) at (a ++ b) ≡ cond (eqb (occurs g (handles_of a)) 0) (place_of (is g) (at + sizes a) b) (place_of (is g) at a)
unfolding place_of sizes handles_of occurs
place-append g at [] b = rw add-zero
place-append g at (cell (free n) ∷ a) b = rw (← add_assoc at n (sizes a)) (place-append g (at + n) a b)
place-append g at (fixed d ∷ a) b = rw (← add_assoc at (fixed_header + length d) (sizes a)) (place-append g (at + (fixed_header + length d)) a b)
place-append g at (cell (held it) ∷ a) b = rw (occurs-held g it a) (go (is g it) (place-append g (at + item_size it) a b))
  where
    go : (t : Bool) → place_of (is g) (at + item_size it) (a ++ b) ≡ cond (eqb (occurs g (handles_of a)) 0) (place_of (is g) (at + item_size it + sizes a) b) (place_of (is g) (at + item_size it) a)
        → cond t (at + header_of it) (place_of (is g) (at + item_size it) (a ++ b))
        ≡ cond (eqb (cond t 1 0 + occurs g (handles_of a)) 0) (place_of (is g) (at + (item_size it + sizes a)) b) (cond t (at + header_of it) (place_of (is g) (at + item_size it) a))
    go true i = rw (ne_eqb (1 + occurs g (handles_of a)) 0 (λ x. omega arith))
    go false i = rw (zero-add, ← add_assoc at (item_size it) (sizes a)) i
