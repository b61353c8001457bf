-- The data of the named block changed: in the bays, and among the blocks, where a name names one block.
use mathlib.Core.Path.{◌≡◌, refl, ap, ap₂, ◌∙◌, sym}
use mathlib.Core.Bool.{Bool, true, false, cond}
use mathlib.Core.List.{List, [], ◌∷◌, ◌++◌}
use Prim.Native.Nat.{ℕ, ◌+◌, ◌<◌, ◌≤◌}
use native.Mathlib.Nat.{add-zero, add_assoc}
use native.Mathlib.Omega.{arith}
use lib.ListN.{length}
use lib.Dec.{eqb}
use borrow.Author.Tests.{eqb-true, ne_eqb}
use Rattle.format.specs.Occurs.{occurs}
use Rattle.block_type.specs.Limits.{fixed_header, zone_header}
use Rattle.kinds.specs.Kinds.{is, item_size, on_data, has_name, names_of}
use Rattle.kinds.proofs.KindLaws.{name-owner}
use Rattle.format.proofs.Count.{occurs-append}
use Rattle.structure.proofs.Append.{occurs-held}
use Rattle.calls.specs.Calls.{Target, by_handle, by_pointer, by_name}
use Rattle.calls.specs.Bays.{Bays, last, more, map_s, on_fixed}
use Rattle.calls.specs.State.{Fixed, alter, alter_fixed}
use Rattle.bay.specs.Bay as Bay
use Rattle.bay.specs.Bay.{Cell, free, held, cell_size}
use Rattle.structure.specs.Structure.{Block, fixed, cell, Structure, size, sizes, count, start, handles_of, names_in}
use Rattle.structure.specs.Valid.{Valid}
use Rattle.structure.proofs.Round.{offset-le}
use Rattle.zone.specs.Work.{rewrite}
use Rattle.zone.specs.Group.{in_front, group, flatten}
use Rattle.access.specs.Named.{names, refill}

-- the block at `at` with its data changed by f, where t names it
abbrev pub edit_block : Target → (List ℕ → List ℕ) → ℕ → Block → Block
edit_block (by_handle h) f at (cell (free n)) = cell (free n)
edit_block (by_handle h) f at (cell (held e)) = cell (held (alter (is h) (on_data f) e))
edit_block (by_handle h) f at (fixed d) = fixed d
edit_block (by_name i) f at (cell (free n)) = cell (free n)
edit_block (by_name i) f at (cell (held e)) = cell (held (alter (has_name i) (on_data f) e))
edit_block (by_name i) f at (fixed d) = fixed d
edit_block (by_pointer p) f at (cell c) = cell c
edit_block (by_pointer p) f at (fixed d) = fixed (alter_fixed p f (record { place = at; bytes = d })).bytes

unfoldable pub edited : Target → (List ℕ → List ℕ) → ℕ → List Block → List Block
edited t f at [] = []
edited t f at (b ∷ bs) = edit_block t f at b ∷ edited t f (at + size b) bs

-- ---- in the bays

front-handle : (h at : ℕ) (f : List ℕ → List ℕ) (c : Cell) (s : Bays (List Cell) Fixed) → flatten (map_s (Bay.edit (is h) (on_data f)) (in_front c s)) ≡ edit_block (by_handle h) f at (cell c) ∷ flatten (map_s (Bay.edit (is h) (on_data f)) s)
front-handle h at f (free n) (last b) = refl
front-handle h at f (free n) (more b x s) = refl
front-handle h at f (held e) (last b) = refl
front-handle h at f (held e) (more b x s) = refl

front-name : (i at : ℕ) (f : List ℕ → List ℕ) (c : Cell) (s : Bays (List Cell) Fixed) → flatten (map_s (Bay.edit (has_name i) (on_data f)) (in_front c s)) ≡ edit_block (by_name i) f at (cell c) ∷ flatten (map_s (Bay.edit (has_name i) (on_data f)) s)
front-name i at f (free n) (last b) = refl
front-name i at f (free n) (more b x s) = refl
front-name i at f (held e) (last b) = refl
front-name i at f (held e) (more b x s) = refl

front-pointer : (p : ℕ) (f : List ℕ → List ℕ) (c : Cell) (s : Bays (List Cell) Fixed) → flatten (on_fixed (alter_fixed p f) (in_front c s)) ≡ cell c ∷ flatten (on_fixed (alter_fixed p f) s)
front-pointer p f c (last b) = refl
front-pointer p f c (more b x s) = refl

pub flat-rewrite : (t : Target) (f : List ℕ → List ℕ) (at : ℕ) (bs : List Block) → flatten (rewrite t f (group at bs)) ≡ edited t f at bs
unfolding edited
flat-rewrite (by_handle h) f at [] = refl
flat-rewrite (by_pointer p) f at [] = refl
flat-rewrite (by_name i) f at [] = refl
flat-rewrite (by_name i) f at (cell c ∷ bs) = front-name i at f c (group (at + cell_size c) bs) ∙ ap (edit_block (by_name i) f at (cell c) ∷◌) (flat-rewrite (by_name i) f (at + cell_size c) bs)
flat-rewrite (by_name i) f at (fixed d ∷ bs) = ap (fixed d ∷◌) (flat-rewrite (by_name i) f (at + size (fixed d)) bs)
flat-rewrite (by_handle h) f at (cell c ∷ bs) = front-handle h at f c (group (at + cell_size c) bs) ∙ ap (edit_block (by_handle h) f at (cell c) ∷◌) (flat-rewrite (by_handle h) f (at + cell_size c) bs)
flat-rewrite (by_pointer p) f at (cell c ∷ bs) = front-pointer p f c (group (at + cell_size c) bs) ∙ ap (cell c ∷◌) (flat-rewrite (by_pointer p) f (at + cell_size c) bs)
flat-rewrite (by_handle h) f at (fixed d ∷ bs) = ap (fixed d ∷◌) (flat-rewrite (by_handle h) f (at + size (fixed d)) bs)
flat-rewrite (by_pointer p) f at (fixed d ∷ bs) = ap (edit_block (by_pointer p) f at (fixed d) ∷◌) (flat-rewrite (by_pointer p) f (at + size (fixed d)) bs)

-- ---- one block

pub edit-hit : (t : Target) (f : List ℕ → List ℕ) (at : ℕ) (b : Block) → names t at b ≡ true → edit_block t f at b ≡ refill f b
edit-hit (by_handle h) f at (cell (free n)) e = refl
edit-hit (by_handle h) f at (cell (held i)) e = rw e
edit-hit (by_handle h) f at (fixed d) e = let x : ◌≡◌ {A = ℕ} 0 1 = cc in absurd (omega arith)
edit-hit (by_name i) f at (cell (free n)) e = refl
edit-hit (by_name i) f at (cell (held j)) e = rw e
edit-hit (by_name i) f at (fixed d) e = let x : ◌≡◌ {A = ℕ} 0 1 = cc in absurd (omega arith)
edit-hit (by_pointer p) f at (cell c) e = let x : ◌≡◌ {A = ℕ} 0 1 = cc in absurd (omega arith)
edit-hit (by_pointer p) f at (fixed d) e = rw e

pub edit-miss : (t : Target) (f : List ℕ → List ℕ) (at : ℕ) (b : Block) → names t at b ≡ false → edit_block t f at b ≡ b
edit-miss (by_handle h) f at (cell (free n)) e = refl
edit-miss (by_handle h) f at (cell (held i)) e = rw e
edit-miss (by_handle h) f at (fixed d) e = refl
edit-miss (by_name i) f at (cell (free n)) e = refl
edit-miss (by_name i) f at (cell (held j)) e = rw e
edit-miss (by_name i) f at (fixed d) e = refl
edit-miss (by_pointer p) f at (cell c) e = refl
edit-miss (by_pointer p) f at (fixed d) e = rw e

-- ---- a name names one block

unfoldable hits : Target → ℕ → List Block → ℕ
hits t at [] = 0
hits t at (b ∷ bs) = cond (names t at b) 1 0 + hits t (at + size b) bs

hits-append : (t : Target) (at : ℕ) (a b : List Block) → hits t at (a ++ b) ≡ hits t at a + hits t (at + sizes a) b
unfolding hits sizes
hits-append t at [] b = rw (add-zero at) (omega arith)
hits-append t at (x ∷ a) b = omega (arith, hits-append t (at + size x) a b, ap (λ (k : ℕ). hits t k b) (add_assoc at (size x) (sizes a)))

handle-hits : (h at : ℕ) (bs : List Block) → hits (by_handle h) at bs ≡ occurs h (handles_of bs)
unfolding hits occurs handles_of
handle-hits h at [] = refl
handle-hits h at (cell (free n) ∷ bs) = omega (arith, handle-hits h (at + n) bs)
handle-hits h at (cell (held e) ∷ bs) = ap (λ (x : ℕ). cond (is h e) 1 0 + x) (handle-hits h (at + item_size e) bs) ∙ sym (occurs-held h e bs)
handle-hits h at (fixed d ∷ bs) = omega (arith, handle-hits h (at + size (fixed d)) bs)

name-hits : (i at : ℕ) (bs : List Block) → hits (by_name i) at bs ≡ occurs i (names_in bs)
unfolding hits occurs names_in
name-hits i at [] = refl
name-hits i at (cell (free n) ∷ bs) = omega (arith, name-hits i (at + n) bs)
name-hits i at (cell (held e) ∷ bs) =
    ap (λ (x : ℕ). cond (has_name i e) 1 0 + x) (name-hits i (at + item_size e) bs) ∙ sym (occurs-append i (names_of e) (names_in bs) ∙ ap (◌+ occurs i (names_in bs)) (name-owner i e))
name-hits i at (fixed d ∷ bs) = omega (arith, name-hits i (at + size (fixed d)) bs)

pointer_none : (p at : ℕ) (bs : List Block) → p < at + fixed_header → hits (by_pointer p) at bs ≡ 0
unfolding hits
pointer_none p at [] l = refl
pointer_none p at (cell c ∷ bs) l = omega (arith, pointer_none p (at + cell_size c) bs (omega arith))
pointer_none p at (fixed d ∷ bs) l = rw (ne_eqb p (at + fixed_header) (λ e. omega arith)) (omega (arith, pointer_none p (at + size (fixed d)) bs (omega arith)))

pointer-once : (p at : ℕ) (bs : List Block) → hits (by_pointer p) at bs ≤ 1
unfolding hits
pointer-once p at [] = omega arith
pointer-once p at (cell c ∷ bs) = omega (arith, pointer-once p (at + cell_size c) bs)
pointer-once p at (fixed d ∷ bs) = go (eqb p (at + fixed_header)) refl (pointer-once p (at + size (fixed d)) bs)
  where
    go : (u : Bool) → eqb p (at + fixed_header) ≡ u → hits (by_pointer p) (at + (fixed_header + length d)) bs ≤ 1 → cond u 1 0 + hits (by_pointer p) (at + (fixed_header + length d)) bs ≤ 1
    go true e i = omega (arith, eqb-true p (at + fixed_header) e, pointer_none p (at + (fixed_header + length d)) bs (omega (arith, eqb-true p (at + fixed_header) e)))
    go false e i = omega arith

once : (t : Target) (s : Structure) → Valid s → hits t (start s) s.blocks ≤ 1
once (by_name i) s v = omega (arith, name-hits i (start s) s.blocks, v.apart i)
once (by_handle h) s v = omega (arith, handle-hits h (start s) s.blocks, v.owned h, offset-le h zone_header (count s))
once (by_pointer p) s v = pointer-once p (start s) s.blocks

unnamed : (t : Target) (f : List ℕ → List ℕ) (at : ℕ) (bs : List Block) → hits t at bs ≡ 0 → edited t f at bs ≡ bs
unfolding edited hits
unnamed t f at [] e = refl
unnamed t f at (b ∷ bs) e = go (names t at b) refl e (unnamed t f (at + size b) bs)
  where
    go : (u : Bool) → names t at b ≡ u → cond u 1 0 + hits t (at + size b) bs ≡ 0 → (hits t (at + size b) bs ≡ 0 → edited t f (at + size b) bs ≡ bs) → edit_block t f at b ∷ edited t f (at + size b) bs ≡ b ∷ bs
    go true q e i = absurd (omega arith)
    go false q e i = ap₂ (λ (x : Block) (xs : List Block). x ∷ xs) (edit-miss t f at b q) (i (omega arith))

edited-append : (t : Target) (f : List ℕ → List ℕ) (at : ℕ) (a b : List Block) → edited t f at (a ++ b) ≡ edited t f at a ++ edited t f (at + sizes a) b
unfolding edited sizes
edited-append t f at [] b = rw (add-zero at)
edited-append t f at (x ∷ a) b = ap (edit_block t f at x ∷◌) (edited-append t f (at + size x) a b ∙ ap (λ (k : ℕ). edited t f (at + size x) a ++ edited t f k b) (add_assoc at (size x) (sizes a)))

-- only the named block changes
pub one-edited : (t : Target) (f : List ℕ → List ℕ) (s : Structure) → Valid s → (pre post : List Block) (b : Block) → s.blocks ≡ pre ++ (b ∷ post) → names t (start s + sizes pre) b ≡ true
    → edited t f (start s) s.blocks ≡ pre ++ (refill f b ∷ post)
unfolding edited hits
one-edited t f s v pre post b e n =
    let p = start s + sizes pre in
    let here : hits t p (b ∷ post) ≡ 1 + hits t (p + size b) post = rw n in
    let k : hits t (start s) pre + (1 + hits t (p + size b) post) ≤ 1 = omega (arith, once t s v, ap (hits t (start s)) e, hits-append t (start s) pre (b ∷ post), here) in
    ap (edited t f (start s)) e ∙ edited-append t f (start s) pre (b ∷ post)
    ∙ ap₂ ◌++◌ (unnamed t f (start s) pre (omega arith)) (ap₂ (λ (x : Block) (xs : List Block). x ∷ xs) (edit-hit t f p b n) (unnamed t f (p + size b) post (omega arith)))
