-- The lowest bay whose sum reaches a need, as the search answers it: whether there is one, and its place among a zone's bays.
use mathlib.Core.Path.{◌≡◌, refl, sym, ap, ◌∙◌}
use mathlib.Core.Bool.{Bool, true, false, cond, ◌||◌}
use mathlib.Core.List.{List, []}
use Prim.Native.Nat.{ℕ, ◌+◌, ◌≤◌}
use native.Mathlib.Omega.{arith}
use lib.Dec.{leb}
use lib.ListN.{length}
use borrow.Author.Tests.{leb-true, leb-false}
use Rattle.format.specs.WellFormed.{first_field}
use Rattle.format.proofs.Bool.{not-both}
use Rattle.structure.specs.Structure.{sizes, decode_zone}
use Rattle.structure.specs.IsZone.{IsZone}
use Rattle.structure.proofs.Table.{start_is}
use Rattle.structure.proofs.IsZone.{whole_of}
use Rattle.calls.specs.Bays.{Bays, last, more, max_s}
use Rattle.calls.specs.State.{Fixed, fsize}
use Rattle.calls.proofs.Reach.{leb-max}
use Rattle.bay.specs.Bay.{Cell, bay_size, bay_sum}
use Rattle.bay.proofs.Each.{cond-one}
use Rattle.zone.proofs.Places.{Tiled}
use Rattle.bays.specs.Places.{bays_of, bays_at}
use Rattle.bays.specs.Slot.{Slot, slot_end, slot_fixed, slot_behind, plug, blocks_before, Under}
use Rattle.bays.proofs.At.{no-sizes, tiled-place, tiled-rest}
use Rattle.bays.proofs.Slots.{behind-sizes}
use Rattle.bays.proofs.Zone.{zone-bays}
use Rattle.room.specs.place.Hole.{hole_for}
use Rattle.room.specs.place.Room.{SiteN, site_n, no_site, site_at, low_site, LowestRoom}
use Rattle.room.proofs.place.RoomLaws.{room-is}

-- ---- whether there is one

-- what is told of a bay is its start and its end, whatever is chosen
same-told : {A : Type 0} (f : SiteN → A) (need p : ℕ) (b : List Cell) (v : A) → ((at n : ℕ) (t : Bool) → f (site_n true p (p + bay_size b) at n t) ≡ v) → f (site_at need p b) ≡ v
same-told f need p b v e = cond-one f (hole_for need p b).found (e _ _ false) (e _ _ true)

pub low-is : (need p : ℕ) (s : Bays (List Cell) Fixed) → (low_site need p s).found ≡ leb need (max_s bay_sum s)
low-is need p (last b) = go (leb need (bay_sum b))
  where
    go : (t : Bool) → (cond t (site_at need p b) no_site).found ≡ t
    go true = same-told (λ (r : SiteN). r.found) need p b true (λ at n t. refl)
    go false = refl
low-is need p (more b x s) = go (leb need (bay_sum b)) ∙ ap (leb need (bay_sum b) ||◌) (low-is need (x.place + fsize x) s) ∙ leb-max need (bay_sum b) (max_s bay_sum s)
  where
    go : (t : Bool) → (cond t (site_at need p b) (low_site need (x.place + fsize x) s)).found ≡ t || (low_site need (x.place + fsize x) s).found
    go true = same-told (λ (r : SiteN). r.found) need p b true (λ at n t. refl)
    go false = refl

-- ---- its place; the first bay begins at p

record Among (need p : ℕ) (u : Bays (List Cell) Fixed) (r : SiteN) : Type 0 where
  slot : Slot
  bay : List Cell
  bays : u ≡ plug slot bay
  under : Under need slot
  enough : need ≤ bay_sum bay
  start_is : r.start ≡ p + sizes (blocks_before slot)
  is-site : r ≡ site_at need r.start bay

first : (need p : ℕ) (r : SiteN) (k : Slot) (b : List Cell) (u : Bays (List Cell) Fixed) → u ≡ plug k b → Under need k → blocks_before k ≡ [] → leb need (bay_sum b) ≡ true → r ≡ site_at need p b → Among need p u r
first need p r k b u q m z v e =
    let l : r.start ≡ p = ap (λ (s : SiteN). s.start) e ∙ same-told (λ (s : SiteN). s.start) need p b p (λ at n t. refl) in
    record {
      slot = k;
      bay = b;
      bays = q;
      under = m;
      enough = leb-true need (bay_sum b) v;
      start_is = omega (arith, l, ap sizes z, no-sizes);
      is-site = e ∙ ap (λ (o : ℕ). site_at need o b) (sym l);
    }

among : (need end : ℕ) (r : SiteN) → r.found ≡ true → (u : Bays (List Cell) Fixed) (p : ℕ) → Tiled p u end → r ≡ low_site need p u → Among need p u r
among need end r y (last b) p t q = go (leb need (bay_sum b)) refl q
  where
    go : (u : Bool) → leb need (bay_sum b) ≡ u → r ≡ cond u (site_at need p b) no_site → Among need p (last b) r
    go true v e = first need p r slot_end b (last b) refl tt refl v e
    go false v e = absurd (not-both y (ap (λ (s : SiteN). s.found) e))
among need end r y (more b x s) p t q = go (leb need (bay_sum b)) refl q (among need end r y s (x.place + fsize x) (tiled-rest t))
  where
    go : (u : Bool) → leb need (bay_sum b) ≡ u → r ≡ cond u (site_at need p b) (low_site need (x.place + fsize x) s) → (r ≡ low_site need (x.place + fsize x) s → Among need (x.place + fsize x) s r) → Among need p (more b x s) r
    go true v e ih = first need p r (slot_fixed x s) b (more b x s) refl tt refl v e
    go false v e ih =
        let w = ih e in
        record {
          slot = slot_behind b x w.slot;
          bay = w.bay;
          bays = ap (λ (u : Bays (List Cell) Fixed). more b x u) w.bays;
          under = (leb-false need (bay_sum b) v, w.under);
          enough = w.enough;
          start_is = omega (arith, w.start_is, tiled-place t, behind-sizes b x w.slot);
          is-site = w.is-site;
        }

-- ---- in a zone, whose blocks begin at o

module _ (z : List ℕ) (i : IsZone z) (o : ℕ) (eo : o ≡ first_field z) (need : ℕ) (f : Bool) (a e at n : ℕ) (t : Bool) (q : site_n f a e at n t ≡ low_site need o (bays_at z o)) where
  -- whether the sum of a bay reaches the need
  pub low-reach : leb need (max_s bay_sum (bays_of (decode_zone z))) ≡ f
  low-reach =
      ap (λ (b : Bays (List Cell) Fixed). leb need (max_s bay_sum b)) (sym (zone-bays z i o eo).bays) ∙ sym (low-is need o (bays_at z o)) ∙ ap (λ (r : SiteN). r.found) (sym q)

  pub low-room : f ≡ true → LowestRoom z need a e at n t
  low-room y =
      let zb = zone-bays z i o eo in
      let w = among need (length z) (site_n f a e at n t) y (bays_at z o) o zb.tiled q in
      record {
        slot = w.slot;
        bay = w.bay;
        bays = sym zb.bays ∙ w.bays;
        under = w.under;
        enough = w.enough;
        start_is = w.start_is ∙ ap (λ (p : ℕ). p + sizes (blocks_before w.slot)) (eo ∙ sym (start_is z (whole_of z i)));
        end_is = ap (λ (r : SiteN). r.end) w.is-site ∙ same-told (λ (r : SiteN). r.end) need a w.bay (a + bay_size w.bay) (λ at n t. refl);
        room = λ j en. room-is j w.bay need a e at n f t en w.enough w.is-site;
      }
