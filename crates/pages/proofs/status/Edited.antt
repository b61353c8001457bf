-- A page's status changed: in the bays, and among the blocks, where a name names one page.
use Rattle.std.proofs.Common.{◌≡◌, ℕ, ◌+◌, Bool, true, false, cond, List, [], ◌∷◌, ◌++◌, map, length, refl, ap, ◌∙◌, ap₂, arith, eq-eqb}
use mathlib.Core.List.{map-append}
use Rattle.block_type.specs.Limits.{fixed_header}
use Rattle.format.specs.Occurs.{occurs}
use Rattle.format.proofs.Count.{occurs-append}
use Rattle.kinds.specs.Kinds.{Status, Item, page, has_name, names_of, on_status}
use Rattle.kinds.proofs.KindLaws.{name-owner}
use Rattle.calls.specs.Bays.{Bays, last, more, map_s}
use Rattle.calls.specs.State.{Fixed, alter}
use Rattle.bay.specs.Bay.{Cell, free, held, cell_size, edit}
use Rattle.structure.specs.Structure.{Block, cell, fixed, Structure, start, names_in}
use Rattle.zone.specs.Group.{in_front, group, flatten}
use Rattle.pages.specs.status.Status.{restatus}
use Rattle.pages.proofs.status.Paged.{Paged}

module _ (ok : Item → Bool) (f : Item → Item) where
  abbrev one : Block → Block
  one (cell (free k)) = cell (free k)
  one (cell (held e)) = cell (held (alter ok f e))
  one (fixed d) = fixed d

  front : (c : Cell) (s : Bays (List Cell) Fixed) → flatten (map_s (edit ok f) (in_front c s)) ≡ one (cell c) ∷ flatten (map_s (edit ok f) s)
  front (free k) (last b) = refl
  front (free k) (more b x s) = refl
  front (held e) (last b) = refl
  front (held e) (more b x s) = refl

  flat-edit : (at : ℕ) (bs : List Block) → flatten (map_s (edit ok f) (group at bs)) ≡ map one bs
  flat-edit at [] = refl
  flat-edit at (cell c ∷ bs) = front c (group (at + cell_size c) bs) ∙ ap (one (cell c) ∷◌) (flat-edit (at + cell_size c) bs)
  flat-edit at (fixed d ∷ bs) = ap (fixed d ∷◌) (flat-edit (at + (fixed_header + length d)) bs)

module _ (n : ℕ) (f : Item → Item) where
  -- blocks without the page
  same : (bs : List Block) → occurs n (names_in bs) ≡ 0 → map (one (has_name n) f) bs ≡ bs
  unfolding names_in
  same [] q = refl
  same (cell (free k) ∷ bs) q = ap (cell (free k) ∷◌) (same bs q)
  same (fixed d ∷ bs) q = ap (fixed d ∷◌) (same bs q)
  same (cell (held e) ∷ bs) q =
      let m = occurs-append n (names_of e) (names_in bs) in
      ap₂ (λ (x : Block) (xs : List Block). x ∷ xs) (unnamed (has_name n e) (omega (arith, name-owner n e))) (same bs (omega arith))
    where
      unnamed : (t : Bool) → ◌≡◌ {A = ℕ} (cond t 1 0) 0 → ◌≡◌ {A = Block} (cell (held (cond t (f e) e))) (cell (held e))
      unnamed true z = absurd (omega arith)
      unnamed false z = refl

-- only the page changes
pub one-restatus : (n : ℕ) (g : Status → Status) (s : Structure) (p : Paged n s) → (restatus n g s).blocks ≡ p.before ++ (cell (held (page n (g p.status) p.bytes)) ∷ p.after)
one-restatus n g s p =
    let f = one (has_name n) (on_status g) in
    let old : Item = page n p.status p.bytes in
    let k : has_name n old ≡ true = eq-eqb n n refl in
    let here : f (cell (held old)) ≡ cell (held (page n (g p.status) p.bytes)) = rw k in
    flat-edit (has_name n) (on_status g) (start s) s.blocks
    ∙ ap (map f) p.is
    ∙ map-append f p.before (cell (held old) ∷ p.after)
    ∙ ap₂ ◌++◌ (same n (on_status g) p.before p.not-before) (ap₂ (λ (x : Block) (xs : List Block). x ∷ xs) here (same n (on_status g) p.after p.not_after))
