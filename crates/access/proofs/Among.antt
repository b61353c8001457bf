-- The block of a live handle: its place and its data, and what stands before it and behind it.
use mathlib.Core.Path.{◌≡◌, refl, ap, ◌∙◌}
use mathlib.Core.Bool.{true, cond, false≢true}
use mathlib.Core.List.{List, [], ◌∷◌, ◌++◌}
use Prim.Native.Nat.{ℕ, ◌+◌}
use lib.ListN.{length}
use Rattle.block_type.specs.Limits.{fixed_header}
use Rattle.kinds.specs.Kinds.{Item, header_of, is, has_name, item_size}
use Rattle.calls.specs.Calls.{by_handle, by_name}
use Rattle.bay.specs.Bay.{free, held}
use Rattle.structure.specs.Structure.{Block, fixed, cell, sizes, place_of}
use Rattle.access.specs.Edit.{data_of}
use Rattle.access.specs.Named.{names, header_of_block, held_by, place_among, data_among}
use Rattle.access.proofs.Named.{Named, named}

pub handle-place : (h at : ℕ) (bs : List Block) → place_of (is h) at bs ≡ place_among (by_handle h) at bs
unfolding place_of place_among
handle-place h at [] = refl
handle-place h at (cell (free n) ∷ bs) = handle-place h (at + n) bs
handle-place h at (fixed d ∷ bs) = handle-place h (at + (fixed_header + length d)) bs
handle-place h at (cell (held e) ∷ bs) = ap (cond (is h e) (at + header_of e)) (handle-place h (at + item_size e) bs)

pub name-place : (n at : ℕ) (bs : List Block) → place_of (has_name n) at bs ≡ place_among (by_name n) at bs
unfolding place_of place_among
name-place n at [] = refl
name-place n at (cell (free k) ∷ bs) = name-place n (at + k) bs
name-place n at (fixed d ∷ bs) = name-place n (at + (fixed_header + length d)) bs
name-place n at (cell (held e) ∷ bs) = ap (cond (has_name n e) (at + header_of e)) (name-place n (at + item_size e) bs)

pub handle-data : (h at : ℕ) (bs : List Block) → data_of h bs ≡ data_among (by_handle h) at bs
unfolding data_of data_among
handle-data h at [] = refl
handle-data h at (cell (free n) ∷ bs) = handle-data h (at + n) bs
handle-data h at (fixed d ∷ bs) = handle-data h (at + (fixed_header + length d)) bs
handle-data h at (cell (held e) ∷ bs) = ap (cond (is h e) e.bytes) (handle-data h (at + item_size e) bs)

pub record Mine (h at : ℕ) (bs : List Block) : Type 0 where
  pub before : List Block
  pub mine : Item
  pub after : List Block
  pub parts : bs ≡ before ++ (cell (held mine) ∷ after)
  pub its : is h mine ≡ true
  pub place : place_of (is h) at bs ≡ at + sizes before + header_of mine
  pub holds : data_of h bs ≡ mine.bytes

pub mine : (h at : ℕ) (bs : List Block) → (place_of (is h) at bs ≡ 0 → ⊥) → Mine h at bs
mine h at bs l = go (named (by_handle h) at bs (λ e. l (handle-place h at bs ∙ e)))
  where
    go : Named (by_handle h) at bs → Mine h at bs
    go r = held_by_lem r.block r.is r.hit r.place r.holds
      where
        held_by_lem : (b : Block) → bs ≡ r.before ++ (b ∷ r.after) → names (by_handle h) (at + sizes r.before) b ≡ true → place_among (by_handle h) at bs ≡ at + sizes r.before + header_of_block b
            → data_among (by_handle h) at bs ≡ held_by b → Mine h at bs
        held_by_lem (cell (free n)) p e k d = absurd (false≢true e)
        held_by_lem (fixed x) p e k d = absurd (false≢true e)
        held_by_lem (cell (held i)) p e k d =
            record { before = r.before; mine = i; after = r.after; parts = p; its = e; place = handle-place h at bs ∙ k; holds = handle-data h at bs ∙ d }
