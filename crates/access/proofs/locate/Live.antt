-- A handle is found in the bays where it has a place among the blocks, and its data are the same.
use mathlib.Core.Path.{◌≡◌, refl, ap₂, sym, ◌∙◌}
use mathlib.Core.Option.{Option, none, some}
use mathlib.Core.List.{List}
use Prim.Native.Nat.{ℕ}
use native.Mathlib.Omega.{arith}
use borrow.Author.Tests.{ne_eqb}
use Rattle.structure.specs.Structure.{Structure, start, place_of}
use Rattle.access.specs.Edit.{data_of}
use Rattle.kinds.specs.Kinds.{Item, is}
use Rattle.calls.specs.Calls.{by_handle}
use Rattle.calls.specs.Bays.{Bays, over}
use Rattle.calls.specs.State.{Fixed}
use Rattle.bay.specs.Bay.{Cell}
use Rattle.zone.specs.Group.{group}
use Rattle.zone.proofs.Once.{block_of}
use Rattle.access.proofs.Among.{handle-place, handle-data}
use Rattle.access.proofs.locate.Among.{or_none, content-among}

module _ (h : ℕ) (d : Structure) where
  abbrev bays : Bays (List Cell) Fixed
  bays = group (start d) d.blocks

  content-is : over (λ (e : Item). e.bytes) (block_of h bays) ≡ or_none (place_of (is h) (start d) d.blocks) (data_of h d.blocks)
  content-is = content-among (by_handle h) (start d) d.blocks ∙ ap₂ or_none (sym (handle-place h (start d) d.blocks)) (sym (handle-data h (start d) d.blocks))

  pub place-gone : place_of (is h) (start d) d.blocks ≡ 0 → block_of h (group (start d) d.blocks) ≡ none
  place-gone e = go (block_of h bays) refl (content-is ∙ (rw e))
    where
      go : (o : Option Item) → block_of h bays ≡ o → over (λ (e : Item). e.bytes) o ≡ none → block_of h bays ≡ none
      go none q r = q
      go (some i) q r = let x : ◌≡◌ {A = ℕ} 0 1 = cc in absurd (omega arith)

  pub place-live : (place_of (is h) (start d) d.blocks ≡ 0 → ⊥) → (e : Item) × (block_of h (group (start d) d.blocks) ≡ some e) × (e.bytes ≡ data_of h d.blocks)
  place-live ne = go (block_of h bays) refl (content-is ∙ (rw (ne_eqb (place_of (is h) (start d) d.blocks) 0 ne)))
    where
      go : (o : Option Item) → block_of h bays ≡ o → over (λ (e : Item). e.bytes) o ≡ some (data_of h d.blocks) → (e : Item) × (block_of h bays ≡ some e) × (e.bytes ≡ data_of h d.blocks)
      go none q r = let x : ◌≡◌ {A = ℕ} 0 1 = cc in absurd (omega arith)
      go (some i) q r = (i, q, cc)
