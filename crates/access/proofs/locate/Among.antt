-- The named block among blocks: as the walk finds it, and as it is found in the bays.
use mathlib.Core.Path.{◌≡◌, refl, ap, ◌∙◌, sym}
use mathlib.Core.Bool.{Bool, true, false, cond, ◌&&◌}
use mathlib.Core.Option.{Option, none, some}
use mathlib.Core.List.{List, [], ◌∷◌}
use Prim.Native.Nat.{ℕ, ◌+◌, ◌-◌}
use native.Mathlib.Omega.{arith}
use lib.ListN.{length}
use lib.Dec.{eqb}
use borrow.Author.Tests.{ne_eqb}
use Rattle.block_type.specs.Limits.{fixed_header, fixed_code}
use Rattle.structure.specs.Structure.{Block, fixed, size, cell, code}
use Rattle.calls.specs.Calls.{Target, by_handle, by_pointer, by_name}
use Rattle.calls.specs.Bays.{Bays, last, more, over, or_else, find_s, find_f}
use Rattle.kinds.specs.Kinds.{Item, item_size, is, has_name, header_of}
use Rattle.kinds.proofs.KindLaws.{facts, not-fixed}
use Rattle.calls.specs.State.{get, Fixed, pointer, content}
use Rattle.bay.specs.Bay.{items, Cell, free, held}
use Rattle.zone.specs.Group.{in_front, group}
use Rattle.access.specs.Named.{place_among, data_among}

-- ---- by pointer, one block

module _ (p at : ℕ) (bs : List Block) where
  pub pointer-place : (b : Block) → place_among (by_pointer p) at (b ∷ bs) ≡ cond (eqb (code b) fixed_code && eqb p (at + fixed_header)) (at + fixed_header) (place_among (by_pointer p) (at + size b) bs)
  unfolding place_among
  pointer-place (cell (free n)) = refl
  pointer-place (fixed d) = refl
  pointer-place (cell (held e)) = sym (ap (λ (t : Bool). cond (t && eqb p (at + fixed_header)) (at + fixed_header) (place_among (by_pointer p) (at + item_size e) bs)) (not-fixed e))

  pub pointer-data : (b : Block) → length (data_among (by_pointer p) at (b ∷ bs)) ≡ cond (eqb (code b) fixed_code && eqb p (at + fixed_header)) (size b - fixed_header) (length (data_among (by_pointer p) (at + size b) bs))
  unfolding data_among
  pointer-data (cell (free n)) = refl
  pointer-data (fixed d) = go (eqb p (at + fixed_header))
    where
      go : (t : Bool) → length (cond t d (data_among (by_pointer p) (at + (fixed_header + length d)) bs)) ≡ cond t (fixed_header + length d - fixed_header) (length (data_among (by_pointer p) (at + (fixed_header + length d)) bs))
      go true = omega arith
      go false = refl
  pointer-data (cell (held e)) = sym (ap (λ (t : Bool). cond (t && eqb p (at + fixed_header)) (item_size e - fixed_header) (length (data_among (by_pointer p) (at + item_size e) bs))) (not-fixed e))

-- ---- in the bays

abbrev pub or_none : ℕ → List ℕ → Option (List ℕ)
or_none k d = cond (eqb k 0) none (some d)

abbrev in-bays : Target → Bays (List Cell) Fixed → Option (List ℕ)
in-bays t s = content items t s

front-free : (t : Target) (n : ℕ) (s : Bays (List Cell) Fixed) → in-bays t (in_front (free n) s) ≡ in-bays t s
front-free (by_handle h) n (last b) = refl
front-free (by_handle h) n (more b x s) = refl
front-free (by_name i) n (last b) = refl
front-free (by_name i) n (more b x s) = refl
front-free (by_pointer p) n (last b) = refl
front-free (by_pointer p) n (more b x s) = refl

-- t is a handle or a name, and ok the test of it
front-held : (ok : Item → Bool) (e : Item) (s : Bays (List Cell) Fixed)
    → over (λ (e : Item). e.bytes) (find_s (λ (b : List Cell). get ok (items b)) (in_front (held e) s)) ≡ cond (ok e) (some e.bytes) (over (λ (e : Item). e.bytes) (find_s (λ (b : List Cell). get ok (items b)) s))
front-held ok e (last b) = go (ok e)
  where
    go : (t : Bool) → over (λ (e : Item). e.bytes) (cond t (some e) (get ok (items b))) ≡ cond t (some e.bytes) (over (λ (e : Item). e.bytes) (get ok (items b)))
    go true = refl
    go false = refl
front-held ok e (more b x s) = go (ok e)
  where
    go : (t : Bool) → over (λ (e : Item). e.bytes) (or_else (cond t (some e) (get ok (items b))) (find_s (λ (b : List Cell). get ok (items b)) s)) ≡ cond t (some e.bytes) (over (λ (e : Item). e.bytes) (or_else (get ok (items b)) (find_s (λ (b : List Cell). get ok (items b)) s)))
    go true = refl
    go false = refl

front-pointer : (p : ℕ) (e : Item) (s : Bays (List Cell) Fixed) → in-bays (by_pointer p) (in_front (held e) s) ≡ in-bays (by_pointer p) s
front-pointer p e (last b) = refl
front-pointer p e (more b x s) = refl

-- one step: named here, or later
here : (t : Bool) (k j : ℕ) (d e : List ℕ) → (k ≡ 0 → ⊥) → cond t (some d) (or_none j e) ≡ or_none (cond t k j) (cond t d e)
here true k j d e l = rw (ne_eqb k 0 l)
here false k j d e l = refl

-- the data of the named block are what the calls find in the bays
pub content-among : (t : Target) (at : ℕ) (bs : List Block) → content items t (group at bs) ≡ or_none (place_among t at bs) (data_among t at bs)
unfolding place_among data_among
content-among (by_handle h) at [] = refl
content-among (by_pointer p) at [] = refl
content-among (by_name i) at [] = refl
content-among (by_name i) at (cell (free n) ∷ bs) = front-free (by_name i) n (group (at + n) bs) ∙ content-among (by_name i) (at + n) bs
content-among (by_name i) at (fixed d ∷ bs) = content-among (by_name i) (at + (fixed_header + length d)) bs
content-among (by_name i) at (cell (held it) ∷ bs) = front-held (has_name i) it (group (at + item_size it) bs)
    ∙ ap (cond (has_name i it) (some it.bytes)) (content-among (by_name i) (at + item_size it) bs) ∙ here (has_name i it) (at + header_of it) _ it.bytes _ (λ e. omega (arith, (facts it).low))
content-among (by_handle h) at (cell (free n) ∷ bs) = front-free (by_handle h) n (group (at + n) bs) ∙ content-among (by_handle h) (at + n) bs
content-among (by_pointer p) at (cell (free n) ∷ bs) = front-free (by_pointer p) n (group (at + n) bs) ∙ content-among (by_pointer p) (at + n) bs
content-among (by_handle h) at (fixed d ∷ bs) = content-among (by_handle h) (at + (fixed_header + length d)) bs
content-among (by_pointer p) at (fixed d ∷ bs) = found (eqb p (at + fixed_header)) ∙ ap (cond (eqb p (at + fixed_header)) (some d)) (content-among (by_pointer p) (at + (fixed_header + length d)) bs)
    ∙ here (eqb p (at + fixed_header)) (at + fixed_header) _ d _ (λ e. omega arith)
  where
    found : (t : Bool) → over (λ (x : Fixed). x.bytes) (cond t (some (record { place = at; bytes = d })) (find_f (λ (x : Fixed). eqb p (pointer x)) (group (at + (fixed_header + length d)) bs)))
        ≡ cond t (some d) (content items (by_pointer p) (group (at + (fixed_header + length d)) bs))
    found true = refl
    found false = refl
content-among (by_handle h) at (cell (held it) ∷ bs) = front-held (is h) it (group (at + item_size it) bs)
    ∙ ap (cond (is h it) (some it.bytes)) (content-among (by_handle h) (at + item_size it) bs) ∙ here (is h it) (at + header_of it) _ it.bytes _ (λ e. omega (arith, (facts it).low))
content-among (by_pointer p) at (cell (held it) ∷ bs) = front-pointer p it (group (at + item_size it) bs) ∙ content-among (by_pointer p) (at + item_size it) bs
