-- "1 never comes" where the buffer holds a well-formed zone.
use mathlib.Core.Path.{◌≡◌, refl, sym, ◌∙◌}
use mathlib.Core.Bool.{true, false, true≢false}
use mathlib.Core.List.{List, [], ◌∷◌}
use Prim.Native.Nat.{ℕ}
use native.Mathlib.Omega.{arith}
use Rattle.calls.specs.Calls.{Target, by_handle, by_pointer, by_name, PageCall, create_page, use_page, mark_page, drop_page, Call, allocate_relocatable, allocate_fixed, free_handle, free_pointer, resize, size, read, write, view, compact, sums, check, length_of, enlarge, shrink, roster, on_page, Beside, alone, lends, part, of_page, number_told}
use Rattle.calls.specs.Table.{Facts, Cause, not_well_formed, no_block, past_end, too_short, page_causes, causes, holds_in, order, refusal_of}
use Rattle.calls.proofs.First.{picked}

block-too : (t : Target) (f : Facts) (cs : List Cause) → f.well ≡ true → holds_in 1 cs ≡ false → holds_in 1 (not_well_formed f ∷ no_block t f ∷ cs) ≡ false
block-too (by_handle h) f cs w e = rw w e
block-too (by_pointer p) f cs w e = rw w e
block-too (by_name n) f cs w e = rw w e

page-too : (n : ℕ) (p : PageCall) (f : Facts) → f.well ≡ true → holds_in 1 (not_well_formed f ∷ page_causes n p f) ≡ false
page-too n (create_page c) f w = rw w
page-too n use_page f w = rw w
page-too n (mark_page m) f w = rw w
page-too n drop_page f w = rw w

-- of no call another cause has the number 1
not_listed : (c : Call) (f : Facts) → f.well ≡ true → holds_in 1 (causes c f) ≡ false
not_listed (allocate_relocatable c) f w = rw w
not_listed (allocate_fixed c) f w = rw w
not_listed (free_handle h) f w = rw w
not_listed (free_pointer p) f w = rw w
not_listed (resize h c) f w = rw w
not_listed (size t) f w = block-too t f [] w refl
not_listed (read t i n second) f w = block-too t f (past_end t i n f ∷ too_short second n ∷ []) w refl
not_listed (write t i n second) f w = block-too t f (past_end t i n f ∷ too_short second n ∷ []) w refl
not_listed (view t i n) f w = block-too t f (past_end t i n f ∷ []) w refl
not_listed compact f w = rw w
not_listed sums f w = rw w
not_listed check f w = refl
not_listed length_of f w = rw w
not_listed (enlarge k) f w = rw w
not_listed (shrink k) f w = rw w
not_listed (roster second) f w = rw w
not_listed (on_page n p) f w = page-too n p f w

pub never-one : (c : Call) (f : Facts) → f.well ≡ true → refusal_of c f ≡ 1 → ⊥
never-one c f w e = true≢false (sym (picked (causes c f) order 0 e) ∙ not_listed c f w)

-- a call is told its refusal number, or 0
pub told-one : (n : ℕ) (b : Beside) → number_told n b ≡ 1 → n ≡ 1
told-one n alone e = e
told-one n (lends second) e = e
told-one n (of_page k p) e = e
told-one n part e = absurd (omega arith)
