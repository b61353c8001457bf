-- The walk to the place of a pointer tells whether a fixed block has it.
use mathlib.Core.Path.{◌≡◌, refl, sym, ap, ◌∙◌}
use mathlib.Core.Bool.{Bool, true, false, ◌&&◌}
use mathlib.Core.List.{List, [], ◌∷◌, ◌++◌}
use Prim.Native.Nat.{ℕ, ◌+◌, ◌-◌, ◌<◌, ◌≤◌}
use native.Mathlib.Nat.{add-zero, add_assoc}
use native.Mathlib.Omega.{arith}
use lib.ListN.{length, drop}
use lib.Dec.{eqb}
use borrow.Author.Tests.{ne_eqb}
use Rattle.block_type.specs.Limits.{fixed_code, fixed_header}
use Rattle.format.specs.WellFormed.{type_of, first_field, size_of}
use Rattle.kinds.specs.Kinds.{item_size}
use Rattle.bay.specs.Bay.{free, held}
use Rattle.structure.specs.Structure.{Block, cell, fixed, size, sizes, start, decode_zone}
use Rattle.structure.proofs.Table.{Whole, len_is}
use Rattle.access.specs.row.Row.{blocks_of, Stepped}
use Rattle.access.proofs.row.Laws.{stepped}
use Rattle.calls.specs.Calls.{by_pointer}
use Rattle.access.specs.locate.Locate.{target_place}
use Rattle.access.specs.Named.{place_among}
use Rattle.access.proofs.locate.Laws.{place-start, place_here, place-next, place_end}
use Rattle.free_block.specs.Walk.{Below, Stopped}
use Rattle.structure.specs.IsZone.{IsZone}
use Rattle.structure.proofs.IsZone.{whole_of}

-- ---- a pointer among blocks

-- one that names no block in front
among_next : (p at : ℕ) (b : Block) (bs : List Block) → (p ≡ at + fixed_header → ⊥) → place_among (by_pointer p) at (b ∷ bs) ≡ place_among (by_pointer p) (at + size b) bs
unfolding place_among
among_next p at (cell (free n)) bs ne = refl
among_next p at (cell (held e)) bs ne = refl
among_next p at (fixed d) bs ne = rw (ne_eqb p (at + fixed_header) ne)

-- one that is too low
none_above : (p at : ℕ) (bs : List Block) → p < at + fixed_header → place_among (by_pointer p) at bs ≡ 0
unfolding place_among
none_above p at [] l = refl
none_above p at (b ∷ bs) l = among_next p at b bs (λ q. omega arith) ∙ none_above p (at + size b) bs (omega arith)

-- one that is too high
none_below : (p at : ℕ) (bs : List Block) → at + sizes bs < p → place_among (by_pointer p) at bs ≡ 0
unfolding place_among sizes
none_below p at [] l = refl
none_below p at (cell (free n) ∷ bs) l = none_below p (at + n) bs (omega arith)
none_below p at (cell (held e) ∷ bs) l = none_below p (at + item_size e) bs (omega arith)
none_below p at (fixed d ∷ bs) l = rw (ne_eqb p (at + fixed_header) (λ q. omega arith)) (none_below p (at + (fixed_header + length d)) bs (omega arith))

-- blocks that start below its place
among_below : (p t at : ℕ) (bs r : List Block) → t + fixed_header ≤ p → Below t at bs → place_among (by_pointer p) at (bs ++ r) ≡ place_among (by_pointer p) (at + sizes bs) r
unfolding sizes
among_below p t at [] r l b = ap (λ (o : ℕ). place_among (by_pointer p) o r) (sym (add-zero at))
among_below p t at (x ∷ bs) r l b =
    among_next p at x (bs ++ r) (λ q. omega (arith, b.0))
    ∙ among_below p t (at + size x) bs r l b.1
    ∙ ap (λ (o : ℕ). place_among (by_pointer p) o r) (add_assoc at (size x) (sizes bs))

module _ (z : List ℕ) (i : IsZone z) (p : ℕ) where
  w : Whole z
  w = whole_of z i

  pub absent-low : p < fixed_header → target_place (by_pointer p) z ≡ 0
  unfolding target_place
  absent-low l = none_above p (start (decode_zone z)) (decode_zone z).blocks (omega arith)

  pub absent-high : length z < p → target_place (by_pointer p) z ≡ 0
  unfolding target_place
  absent-high l = none_below p (start (decode_zone z)) (decode_zone z).blocks (omega (arith, len_is z w, w.all))

  module _ (first : ℕ) (ef : first ≡ first_field z) (h : fixed_header ≤ p) (prev at : ℕ) (s : Stopped z first (p - fixed_header) prev at) where
    from-here : place_among (by_pointer p) at (blocks_of (drop at z)) ≡ target_place (by_pointer p) z
    from-here =
        ap (λ (o : ℕ). place_among (by_pointer p) o (blocks_of (drop at z))) s.passed.place
        ∙ sym (among_below p (p - fixed_header) first s.passed.before (blocks_of (drop at z)) (omega arith) s.passed.below)
        ∙ ap (place_among (by_pointer p) first) (sym s.passed.parts)
        ∙ place-start z i first ef (by_pointer p)

    pub absent-end : length z ≤ at → target_place (by_pointer p) z ≡ 0
    absent-end l = sym (place_end z (by_pointer p) at (target_place (by_pointer p) z) l from-here)

    module _ (f : Bool) (e : f ≡ (eqb (type_of (drop at z)) fixed_code && eqb p (at + fixed_header))) (l : at < length z) where
      step-here : Stepped z at (size_of (drop at z))
      step-here = stepped z at (size_of (drop at z)) s.passed.row l refl

      pub absent-other : f ≡ false → target_place (by_pointer p) z ≡ 0
      absent-other q =
          sym (place-next z p at (size_of (drop at z)) step-here f e (target_place (by_pointer p) z) q from-here)
          ∙ none_above p (at + size_of (drop at z)) (blocks_of (drop (at + size_of (drop at z)) z)) (omega (arith, s.reached, step-here.low))

      pub present : f ≡ true → target_place (by_pointer p) z ≡ 0 → ⊥
      present q n = omega (arith, place_here z p at (size_of (drop at z)) step-here f e (target_place (by_pointer p) z) q from-here)
