-- The move in the bytes of a zone, to a free block that is there and to one that compacting makes.
use mathlib.Core.Path.{◌≡◌, refl, sym, ap, ap₂, ◌∙◌, subst}
use mathlib.Core.Bool.{Bool, true, false, cond}
use mathlib.Core.Option.{some}
use mathlib.Core.List.{List, ◌∷◌, ◌++◌, map}
use Prim.Native.Nat.{ℕ, ◌+◌, ◌<◌, ◌≤◌}
use native.Mathlib.Omega.{arith}
use mir.Val.{Fits}
use mir.Syntax.{w8}
use lib.ListN.{length, get_or}
use borrow.Author.Tests.{le-leb}
use Rattle.block_type.specs.Limits.{reloc_header}
use Rattle.bigendian.specs.BigEndian.{Bytes}
use Rattle.format.specs.WellFormed.{first_field}
use Rattle.kinds.specs.Kinds.{Item, item, item_size, is}
use Rattle.calls.specs.Bays.{Bays, map_s}
use Rattle.calls.specs.State.{Fixed, sized, own_sum}
use Rattle.bay.specs.Bay.{Cell, free, bay_sum, items, compact_bay, fill, put, release}
use Rattle.bay.specs.Counted.{count, live}
use Rattle.bay.proofs.Laws.{tidy-size, tidy-items}
use Rattle.bay.proofs.Resize.{length-sized}
use Rattle.bay.proofs.Sound.{Sound}
use Rattle.bay.proofs.Free.{release-none}
use Rattle.structure.specs.Structure.{cell, Structure, start, len, encode, decode_zone}
use Rattle.structure.specs.Valid.{Valid}
use Rattle.structure.proofs.Table.{Whole, encode-zone, start_is}
use Rattle.structure.proofs.Sound.{valid-zone}
use Rattle.access.specs.Edit.{place_in, data_in}
use Rattle.access.proofs.Checked.{bytes_of}
use Rattle.zone.specs.PickBays.{AllS}
use Rattle.zone.specs.Group.{group, flatten}
use Rattle.zone.specs.Work.{place_low}
use Rattle.zone.specs.Call.{in_bays}
use Rattle.zone.proofs.Places.{Tiled}
use Rattle.zone.proofs.GroupLaws.{flatten-group, group-flatten}
use Rattle.zone.proofs.Grouped.{whole-bays, single-live}
use Rattle.zone.proofs.Keep as Keep
use Rattle.zone.proofs.Once.{block_of}
use Rattle.bays.specs.Places.{bays_of, bays_at}
use Rattle.bays.proofs.Zone.{zone-bays}
use Rattle.slide.specs.ZoneBay.{bay_cells, ZoneBay, settled}
use Rattle.settle.proofs.Bay.{bay-at}
use Rattle.settle.proofs.Compact.{compact-settled}
use Rattle.settle.proofs.Tidy.{bay-valid, bay-start}
use Rattle.access.proofs.locate.Live.{place-live}
use Rattle.room.specs.place.Prepared.{prepared}
use Rattle.room.specs.place.Room.{Room}
use Rattle.bays.specs.Slot.{Slot, plug, others, blocks_before, blocks_after, Under}
use Rattle.resize.specs.relocate.Relocate.{relocated, item_of, Carry, CarryIn, carry_in, Carried, Relocate, RelocateIn, relocate_of}
use Rattle.bays.proofs.Slots.{plug-at, plug-flat, plug-map, plug-all, plug-lowest, plug-tiled, plug-find}
use Rattle.resize.proofs.relocate.Found.{its-data}
use Rattle.resize.proofs.relocate.Choice.{without, under-freed}
use Rattle.structure.specs.IsZone.{IsZone}
use Rattle.structure.proofs.IsZone.{whole_of, zone-of, back-of}

module _ (z : List ℕ) (h b a from to at n : ℕ) (t : Bool) (y : RelocateIn z h b a from to at n t) where
  abbrev x : Relocate z h b a from to at n t
  x = relocate_of y

  abbrev s : Structure
  s = decode_zone z

  abbrev k : Slot
  k = x.lowest.slot

  abbrev bay : List Cell
  bay = x.lowest.bay

  w : Whole z
  w = whole_of z x.grows.zone

  v : Valid s
  v = valid-zone z w

  is-z : encode s ≡ z
  is-z = encode-zone z w

  wb : Keep.Whole (in_bays (len s) s)
  wb = whole-bays (len s) s v (omega arith)

  found : (e : Item) × (block_of h (bays_of (decode_zone z)) ≡ some e) × (e.bytes ≡ data_in z h)
  unfolding place_in data_in
  found = place-live h s x.grows.live

  abbrev e : Item
  e = found.0

  in-slot : block_of h (plug k bay) ≡ some e
  in-slot = ap (block_of h) (sym x.lowest.bays) ∙ found.1

  once : live h (plug k bay) ≤ 1
  once = subst (λ (u : Bays (List Cell) Fixed). live h u ≤ 1) x.lowest.bays (single-live (in_bays (len s) s) wb h)

  lacking : own_sum items bay_sum h (plug k bay) + length e.bytes < a
  lacking = omega (arith, x.lacking, ap (own_sum items bay_sum h) x.lowest.bays, ap length found.2, x.grows.is_b)

  none_in : count (is h) (items bay) ≡ 0
  none_in = without h a e k bay once x.lowest.enough in-slot lacking

  sound-bay : Sound bay
  sound-bay = plug-all Sound k bay (subst (AllS Sound) x.lowest.bays wb.sound)

  blocks-are : s.blocks ≡ flatten (plug k bay)
  blocks-are = sym (flatten-group (start s) s.blocks) ∙ ap (λ (u : Bays (List Cell) Fixed). flatten u) x.lowest.bays

  -- ---- what is left is what the call on bays leaves

  abbrev new : Item
  new = item_of z h a

  size_is : item_size new ≡ reloc_header + a
  size_is = ap (reloc_header +◌) (length-sized a (data_in z h))

  room : Room new bay from at n t
  room = x.lowest.room new size_is

  put-there : place_low new (map_s (release (is h)) (bays_of (decode_zone z))) ≡ plug (others (release (is h)) k) (fill new room.hole)
  put-there =
      ap (λ (u : Bays (List Cell) Fixed). place_low new (map_s (release (is h)) u)) x.lowest.bays
      ∙ ap (place_low new) (plug-map (release (is h)) k bay ∙ ap (plug (others (release (is h)) k)) (release-none (is h) sound-bay none_in))
      ∙ plug-lowest (item_size new) (put new) (others (release (is h)) k) bay (subst (λ (j : ℕ). Under j (others (release (is h)) k)) (sym size_is) (under-freed h a e k bay once in-slot lacking x.lowest.under))
      (le-leb (item_size new) (bay_sum bay) (omega (arith, size_is, x.lowest.enough)))
      ∙ ap (plug (others (release (is h)) k)) room.filled

  left : encode (record { clock = s.clock; chain = s.chain; blocks = flatten (plug (others (release (is h)) k) (fill new room.hole)) }) ≡ encode (relocated h a (decode_zone z))
  unfolding data_in
  left = ap (λ (u : Bays (List Cell) Fixed). encode (record { clock = s.clock; chain = s.chain; blocks = flatten u })) (sym put-there)

  fits : reloc_header + a ≤ room.hole.size
  fits = omega (arith, size_is, room.fits)

  abbrev Is : Bool → Type 0
  Is u = cond u (compact_bay bay) bay ≡ room.hole.before ++ (free room.hole.size ∷ room.hole.after)

  -- ---- in the bay as it is

  module _ (f : t ≡ false) where
    there : Carry z h b a at n
    there = record {
      grows = x.grows;
      slot = k;
      bay = bay;
      bays = x.lowest.bays;
      without = none_in;
      hole = room.hole;
      is = subst Is f room.is;
      fits = fits;
      at_is = omega (arith, room.place, x.lowest.start_is);
      size_is = room.size;
    }

    pub carry-there : CarryIn z h b a at n
    carry-there = carry_in there

    pub done-there : (u : List ℕ) → Carried z h b a at n u → u ≡ encode (relocated h a (decode_zone z))
    unfolding there
    done-there u c = c.left there ∙ left

  -- ---- after compacting it

  parts : s.blocks ≡ blocks_before k ++ (map cell bay ++ blocks_after k)
  parts = blocks-are ∙ plug-flat k bay

  there-bay : ZoneBay z from to × (bay_cells z from to ≡ bay)
  there-bay = bay-at s v (blocks_before k) (blocks_after k) bay parts z from to is-z x.lowest.start_is x.lowest.end_is

  pub ask-bay : ZoneBay z from to
  ask-bay = there-bay.0

  cells-here : bay_cells z from to ≡ bay
  cells-here = there-bay.1

  abbrev s₁ : Structure
  s₁ = record { clock = s.clock; chain = s.chain; blocks = blocks_before k ++ (map cell (compact_bay bay) ++ blocks_after k) }

  v₁ : Valid s₁
  v₁ = bay-valid s v (blocks_before k) (blocks_after k) bay (plug-at compact_bay k bay) blocks-are

  start₁ : start s₁ ≡ start s
  start₁ = bay-start s v (blocks_before k) (blocks_after k) bay (plug-at compact_bay k bay) blocks-are

  tiled : Tiled (start s) (plug k bay) (length z)
  tiled =
      let q = zone-bays z x.grows.zone (first_field z) refl in
      subst (λ (u : Bays (List Cell) Fixed). Tiled (start s) u (length z)) (q.bays ∙ x.lowest.bays) (subst (λ (p : ℕ). Tiled p (bays_at z (first_field z)) (length z)) (sym (start_is z w)) q.tiled)

  bays₁ : group (start s₁) s₁.blocks ≡ plug k (compact_bay bay)
  bays₁ = ap₂ group start₁ (sym (plug-flat k (compact_bay bay))) ∙ group-flatten (plug-tiled k bay (compact_bay bay) (tidy-size bay) tiled)

  module _ (f : t ≡ true) (z₁ : List ℕ) (e₁ : z₁ ≡ settled z from (compact_bay (bay_cells z from to))) where
    bytes₁ : z₁ ≡ encode s₁
    bytes₁ =
        e₁ ∙ ap₂ (λ (l : List ℕ) (cs : List Cell). settled l from (compact_bay cs)) (sym is-z) cells-here
        ∙ ap (λ (o : ℕ). settled (encode s) o (compact_bay bay)) x.lowest.start_is
        ∙ compact-settled s v (blocks_before k) (blocks_after k) bay parts

    back : decode_zone z₁ ≡ s₁
    back = ap decode_zone bytes₁ ∙ back-of s₁ v₁

    bays-z₁ : bays_of (decode_zone z₁) ≡ plug k (compact_bay bay)
    bays-z₁ = ap (λ (u : Structure). group (start u) u.blocks) back ∙ bays₁

    data₁ : (place_in z₁ h ≡ 0 → ⊥) × (data_in z₁ h ≡ e.bytes)
    data₁ = its-data z₁ h e (ap (block_of h) bays-z₁ ∙ plug-find h k bay (compact_bay bay) (tidy-items bay) ∙ in-slot)

    same-data : data_in z₁ h ≡ data_in z h
    same-data = data₁.1 ∙ found.2

    module _ (g : (i : ℕ) → Fits w8 (get_or z₁ i 0)) where
      made : Carry z₁ h b a at n
      made = record {
        grows = record {
          zone = subst IsZone (sym bytes₁) (zone-of s₁ v₁ (subst Bytes bytes₁ (bytes_of z₁ g)));
          live = data₁.0;
          is_b = x.grows.is_b ∙ ap length (sym same-data);
          more = x.grows.more;
          size = x.grows.size;
        };
        slot = k;
        bay = compact_bay bay;
        bays = bays-z₁;
        without = ap (count (is h)) (tidy-items bay) ∙ none_in;
        hole = room.hole;
        is = subst Is f room.is;
        fits = fits;
        at_is = omega (arith, room.place, x.lowest.start_is, start₁, ap (λ (u : Structure). start u) back);
        size_is = room.size;
      }

      pub carry-made : CarryIn z₁ h b a at n
      carry-made = carry_in made

      pub done-made : (u : List ℕ) → Carried z₁ h b a at n u → u ≡ encode (relocated h a (decode_zone z))
      unfolding made
      done-made u c =
          c.left made
          ∙ ap₂ (λ (r : Structure) (d : List ℕ). encode (record { clock = r.clock; chain = r.chain; blocks = flatten (plug (others (release (is h)) k) (fill (item h (sized a d)) room.hole)) })) back same-data
          ∙ left

  -- ---- in the bay that is ready for it

  module _ (z₁ : List ℕ) (e₁ : z₁ ≡ prepared t from to z) (g : (i : ℕ) → Fits w8 (get_or z₁ i 0)) where
    pub carry-ready : CarryIn z₁ h b a at n
    carry-ready = go t refl
      where
        go : (u : Bool) → t ≡ u → CarryIn z₁ h b a at n
        go true f = carry-made f z₁ (e₁ ∙ ap (λ (u : Bool). prepared u from to z) f) g
        go false f = rw (e₁ ∙ ap (λ (u : Bool). prepared u from to z) f) (carry-there f)

    pub done-ready : (u : List ℕ) → Carried z₁ h b a at n u → u ≡ encode (relocated h a (decode_zone z))
    done-ready u c = go t refl
      where
        go : (v : Bool) → t ≡ v → u ≡ encode (relocated h a (decode_zone z))
        go true f = done-made f z₁ (e₁ ∙ ap (λ (v : Bool). prepared v from to z) f) g u c
        go false f = done-there f u (rw (e₁ ∙ ap (λ (v : Bool). prepared v from to z) f) at c)
