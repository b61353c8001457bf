-- The call on bays: the fixed block of a pointer stands between two bays, which are joined.
use mathlib.Core.Path.{◌≡◌, refl, ap, ◌∙◌, subst}
use mathlib.Core.Bool.{Bool, true, false, cond}
use mathlib.Core.Option.{Option, none, some}
use mathlib.Core.List.{List, [], ◌∷◌, map}
use Prim.Native.Nat.{ℕ, ◌+◌}
use native.Mathlib.Omega.{arith}
use lib.ListN.{length}
use lib.Dec.{eqb}
use borrow.Author.Tests.{eqb-true, ne_eqb}
use Rattle.block_type.specs.Limits.{fixed_header}
use Rattle.bay.specs.Bay.{Cell, items, bay_size}
use Rattle.structure.specs.Structure.{cell, fixed, sizes, start, decode_zone}
use Rattle.structure.proofs.Append.{sizes-append}
use Rattle.settle.proofs.Cells.{all-sizes}
use Rattle.calls.specs.Calls.{told, by_pointer, free_pointer}
use Rattle.calls.specs.Bays.{Bays, last, more, over, find_f}
use Rattle.calls.specs.State.{Fixed, fsize, pointer, content}
use Rattle.calls.specs.Table.{cause, is_none, first, order}
use Rattle.zone.specs.Group.{group, flatten}
use Rattle.zone.specs.Work.{pointer_freed}
use Rattle.zone.proofs.Places.{Tiled, tile-last, tile-more}
use Rattle.calls.specs.declared.Refusal.TheVariants.{PointerNotFixed}
use Rattle.call_laws.specs.Frame.{Does}
use Rattle.call_laws.specs.Refused.{Refuses}
use Rattle.access.specs.locate.Locate.{target_place}
use Rattle.access.specs.Named.{place_among, data_among}
use Rattle.access.proofs.locate.Among.{content-among}
use Rattle.free_block.specs.Around.{Around}
use Rattle.free_block.proofs.Around.{around_here, around-same, around-later}
use Rattle.free.specs.pointer.Ready.{freed}

abbrev find : ℕ → Bays (List Cell) Fixed → Option Fixed
find p s = find_f (λ (x : Fixed). eqb p (pointer x)) s

-- the fixed block x that the pointer p names among the bays s, of which the first begins at q
pub record Named (p q : ℕ) (s : Bays (List Cell) Fixed) (x : Fixed) : Type 0 where
  pub around : Around (flatten s) (flatten (pointer_freed p s)) (fixed x.bytes)
  pub place : p ≡ q + (sizes around.pre + bay_size around.low) + fixed_header

-- x is the first fixed block: the bays beside it are joined
named_here : (p q : ℕ) (b : List Cell) (x : Fixed) (s : Bays (List Cell) Fixed) → q + bay_size b ≡ x.place → eqb p (pointer x) ≡ true → Named p q (more b x s) x
unfolding sizes
named_here p q b x (last c) e k = record { around = around-same refl (rw k) (around_here b c (fixed x.bytes) [] refl); place = omega (arith, eqb-true p (pointer x) k) }
named_here p q b x (more c y s) e k = record { around = around-same refl (rw k) (around_here b c (fixed x.bytes) (fixed y.bytes ∷ flatten s) refl); place = omega (arith, eqb-true p (pointer x) k) }

named-later : (p q : ℕ) (b : List Cell) (x y : Fixed) (s : Bays (List Cell) Fixed) → q + bay_size b ≡ x.place → eqb p (pointer x) ≡ false → Named p (x.place + fsize x) s y → Named p q (more b x s) y
unfolding sizes
named-later p q b x y s e k n = record {
  around = around-same refl (rw k) (around-later b x.bytes n.around);
  place = omega (arith, n.place, sizes-append (map cell b) (fixed x.bytes ∷ n.around.pre), all-sizes b);
}

pub named : (p : ℕ) (y : Fixed) {q end : ℕ} {s : Bays (List Cell) Fixed} → Tiled q s end → find p s ≡ some y → Named p q s y
named p y (tile-last e) f = let x : ◌≡◌ {A = ℕ} 0 1 = cc in absurd (omega arith)
named p y {q} (tile-more {b = b} {x = x} {s = s} e t) f = go (eqb p (pointer x)) refl f (λ f. named p y t f)
  where
    go : (u : Bool) → eqb p (pointer x) ≡ u → cond u (some x) (find p s) ≡ some y → (find p s ≡ some y → Named p (x.place + fsize x) s y) → Named p q (more b x s) y
    go true k f r = let j : x ≡ y = cc in subst (Named p q (more b x s)) j (named_here p q b x s e k)
    go false k f r = named-later p q b x y s e k (r f)

-- ---- the call

module _ (z : List ℕ) (p : ℕ) where
  abbrev bays : Bays (List Cell) Fixed
  bays = group (start (decode_zone z)) (decode_zone z).blocks

  -- the refusal, by the data that are found
  abbrev number : Option (List ℕ) → ℕ
  number o = first order (cause 1 false ∷ cause 7 (is_none (over length o)) ∷ [])

  content-none : target_place (by_pointer p) z ≡ 0 → content items (by_pointer p) bays ≡ none
  unfolding target_place
  content-none e = content-among (by_pointer p) (start (decode_zone z)) (decode_zone z).blocks ∙ (rw e)

  pub no_block : target_place (by_pointer p) z ≡ 0 → Refuses (free_pointer p) z PointerNotFixed
  no_block e = record { number_is = λ buf. ap number (content-none e); beside_is = λ buf. refl }

  module _ (live : target_place (by_pointer p) z ≡ 0 → ⊥) where
    content-is : content items (by_pointer p) bays ≡ some (data_among (by_pointer p) (start (decode_zone z)) (decode_zone z).blocks)
    unfolding target_place
    content-is = content-among (by_pointer p) (start (decode_zone z)) (decode_zone z).blocks ∙ (rw (ne_eqb (place_among (by_pointer p) (start (decode_zone z)) (decode_zone z).blocks) 0 live))

    pub found : (x : Fixed) × (find_f (λ (x : Fixed). eqb p (pointer x)) (group (start (decode_zone z)) (decode_zone z).blocks) ≡ some x)
    found = go (find p bays) refl content-is
      where
        go : (o : Option Fixed) → find p bays ≡ o → over (λ (x : Fixed). x.bytes) o ≡ some (data_among (by_pointer p) (start (decode_zone z)) (decode_zone z).blocks) → (x : Fixed) × (find p bays ≡ some x)
        go none e q = let y : ◌≡◌ {A = ℕ} 0 1 = cc in absurd (omega arith)
        go (some x) e q = (x, e)

    pub frees : (buf : ℕ) → Does (free_pointer p) buf z (told 0 0) (freed p (decode_zone z))
    frees buf = record { passed = ap number content-is; answer = refl; line = refl }
