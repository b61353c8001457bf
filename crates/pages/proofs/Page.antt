-- A page is found in the bays where it has a place among the blocks, and its data are the same; where it has none, the calls are refused with 13.
use Rattle.std.proofs.Common.{◌≡◌, ℕ, ◌+◌, ◌≤◌, Bool, true, false, cond, List, [], ◌∷◌, ◌++◌, length, refl, ap, ◌∙◌, add-zero, add_assoc, arith, ne_eqb}
use mathlib.Core.Option.{Option, none, some}
use Rattle.format.specs.Occurs.{occurs}
use Rattle.format.proofs.Count.{occurs-append}
use Rattle.kinds.specs.Kinds.{Item, has_name, names_of, header_of, item_size}
use Rattle.kinds.proofs.KindLaws.{name-owner}
use Rattle.bay.specs.Bay.{Cell, free, held, items}
use Rattle.calls.specs.Calls.{by_name}
use Rattle.calls.specs.Bays.{Bays, over}
use Rattle.calls.specs.State.{Fixed, content}
use Rattle.calls.specs.Table.{cause, is_none, first, order}
use Rattle.structure.specs.Structure.{Block, cell, fixed, Structure, size, sizes, start, decode_zone, names_in}
use Rattle.structure.proofs.Append.{names-append}
use Rattle.zone.specs.Group.{group}
use Rattle.zone.proofs.Once.{block_by}
use Rattle.access.specs.Named.{place_among, data_among}
use Rattle.access.specs.locate.Locate.{target_place}
use Rattle.access.proofs.locate.Among.{or_none, content-among}

-- ---- among blocks: what stands before the page is passed

place-passed : (n at : ℕ) (a b : List Block) → occurs n (names_in a) ≡ 0 → place_among (by_name n) at (a ++ b) ≡ place_among (by_name n) (at + sizes a) b
unfolding place_among names_in sizes
place-passed n at [] b q = rw (add-zero at)
place-passed n at (cell (free k) ∷ a) b q = place-passed n (at + k) a b q ∙ ap (λ (j : ℕ). place_among (by_name n) j b) (add_assoc at k (sizes a))
place-passed n at (fixed d ∷ a) b q = place-passed n (at + size (fixed d)) a b q ∙ ap (λ (j : ℕ). place_among (by_name n) j b) (add_assoc at (size (fixed d)) (sizes a))
place-passed n at (cell (held e) ∷ a) b q =
    let m = occurs-append n (names_of e) (names_in a) in
    let k : has_name n e ≡ false = unnamed (has_name n e) refl (omega (arith, name-owner n e)) in
    rw k (place-passed n (at + item_size e) a b (omega arith) ∙ ap (λ (j : ℕ). place_among (by_name n) j b) (add_assoc at (item_size e) (sizes a)))
  where
    unnamed : (t : Bool) → has_name n e ≡ t → ◌≡◌ {A = ℕ} (cond t 1 0) 0 → has_name n e ≡ false
    unnamed true k z = absurd (omega arith)
    unnamed false k z = k

-- the page's own name
names-own : (n : ℕ) (e : Item) (bs : List Block) → has_name n e ≡ true → occurs n (names_in (cell (held e) ∷ bs)) ≡ 1 + occurs n (names_in bs)
unfolding names_in
names-own n e bs q = occurs-append n (names_of e) (names_in bs) ∙ ap (◌+ occurs n (names_in bs)) (name-owner n e) ∙ (rw q)

-- ---- where it stands between the blocks a and b

module _ (n : ℕ) (a : List Block) (e : Item) (b : List Block) (its : has_name n e ≡ true) where
  -- a name that names one page is no other's
  pub name-alone : occurs n (names_in (a ++ (cell (held e) ∷ b))) ≤ 1 → (occurs n (names_in a) ≡ 0) × (occurs n (names_in b) ≡ 0)
  name-alone l =
      let all : occurs n (names_in (a ++ (cell (held e) ∷ b))) ≡ occurs n (names_in a) + (1 + occurs n (names_in b)) =
      ap (occurs n) (names-append a (cell (held e) ∷ b)) ∙ occurs-append n (names_in a) (names_in (cell (held e) ∷ b)) ∙ ap (occurs n (names_in a) +◌) (names-own n e b its) in
      (omega arith, omega arith)

  pub its-place : (at : ℕ) → occurs n (names_in a) ≡ 0 → place_among (by_name n) at (a ++ (cell (held e) ∷ b)) ≡ at + sizes a + header_of e
  unfolding place_among
  its-place at q = place-passed n at a (cell (held e) ∷ b) q ∙ (rw its)

-- ---- in the bays

module _ (n : ℕ) (d : Structure) where
  abbrev bays : Bays (List Cell) Fixed
  bays = group (start d) d.blocks

  pub page-live : (place_among (by_name n) (start d) d.blocks ≡ 0 → ⊥)
      → (e : Item) × (block_by (has_name n) (group (start d) d.blocks) ≡ some e) × (e.bytes ≡ data_among (by_name n) (start d) d.blocks)
  page-live ne = go (block_by (has_name n) bays) refl (content-among (by_name n) (start d) d.blocks ∙ (rw (ne_eqb (place_among (by_name n) (start d) d.blocks) 0 ne)))
    where
      go : (o : Option Item) → block_by (has_name n) bays ≡ o → over (λ (e : Item). e.bytes) o ≡ some (data_among (by_name n) (start d) d.blocks)
          → (e : Item) × (block_by (has_name n) bays ≡ some e) × (e.bytes ≡ data_among (by_name n) (start d) d.blocks)
      go none q r = let x : ◌≡◌ {A = ℕ} 0 1 = cc in absurd (omega arith)
      go (some i) q r = (i, q, cc)

-- ---- the refusal

module _ (z : List ℕ) (n : ℕ) where
  abbrev d : Structure
  d = decode_zone z

  -- whether it is there, as the table asks
  abbrev pub page_absent : Bool
  page_absent = is_none (over length (content items (by_name n) (group (start d) d.blocks)))

  by_place : (k : ℕ) → place_among (by_name n) (start d) d.blocks ≡ k → page_absent ≡ is_none (over length (or_none k (data_among (by_name n) (start d) d.blocks)))
  by_place k e =
      ap (λ (o : Option (List ℕ)). is_none (over length o))
      (content-among (by_name n) (start d) d.blocks ∙ ap (λ (j : ℕ). or_none j (data_among (by_name n) (start d) d.blocks)) e)

  pub page-absent : target_place (by_name n) z ≡ 0 → page_absent ≡ true
  unfolding target_place
  page-absent e = by_place 0 e

  pub page-present : (target_place (by_name n) z ≡ 0 → ⊥) → page_absent ≡ false
  unfolding target_place
  page-present ne = by_place _ refl ∙ (rw (ne_eqb (place_among (by_name n) (start d) d.blocks) 0 ne))

  abbrev number : Bool → ℕ
  number t = first order (cause 1 false ∷ cause 13 t ∷ [])

  pub number-gone : target_place (by_name n) z ≡ 0 → number page_absent ≡ 13
  number-gone e = ap number (page-absent e)

  pub number-live : (target_place (by_name n) z ≡ 0 → ⊥) → number page_absent ≡ 0
  number-live ne = ap number (page-present ne)
