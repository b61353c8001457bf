-- A block that is to go to another bay, in the bytes of a zone: where it stands, and that the writes may be done.
use mathlib.Core.Path.{◌≡◌, sym, ap, ◌∙◌, subst}
use mathlib.Core.Option.{some}
use mathlib.Core.List.{List, [], ◌∷◌}
use mathlib.Core.Bool.{true}
use Prim.Native.Nat.{ℕ, ◌+◌, ◌-◌, ◌<◌, ◌≤◌}
use native.Mathlib.Omega.{arith}
use lib.ListN.{length}
use Rattle.block_type.specs.Limits.{reloc_header, zone_header, master_size, argument_range}
use Rattle.kinds.specs.Kinds.{Item, header_of, item_size, is}
use Rattle.kinds.proofs.KindLaws.{is-header}
use Rattle.calls.specs.Bays.{Bays, map_s, find_s}
use Rattle.calls.specs.State.{get, Fixed}
use Rattle.bay.specs.Bay.{Cell, free, held, bay_size, gap, items, release}
use Rattle.bay.specs.Counted.{live}
use Rattle.bay.specs.Sound.{bytes_of, Sound1}
use Rattle.bay.specs.Ends.{end_free, start_free}
use Rattle.bay.proofs.Laws.{bsize-append}
use Rattle.bay.proofs.Sound.{Sound}
use Rattle.bay.proofs.Free.{release-none}
use Rattle.structure.specs.Structure.{cell, Structure, sizes, count, start, len, decode_zone}
use Rattle.structure.specs.Valid.{Valid}
use Rattle.structure.proofs.Round.{offset-is}
use Rattle.structure.proofs.Table.{Whole, encode-zone}
use Rattle.structure.proofs.Sound.{valid-zone}
use Rattle.access.specs.Edit.{place_in, data_in}
use Rattle.zone.specs.PickBays.{AllS}
use Rattle.zone.specs.Group.{flatten}
use Rattle.zone.specs.Call.{in_bays}
use Rattle.zone.proofs.GroupLaws.{flatten-group}
use Rattle.zone.proofs.Grouped.{whole-bays, single-live}
use Rattle.zone.proofs.Keep as Keep
use Rattle.free_block.specs.Around.{Around, Freeing}
use Rattle.free_block.specs.Extends.{Extends}
use Rattle.free_block.proofs.Extends.{end-in}
use Rattle.slide.specs.declared.blank.Extent.{Extent}
use Rattle.resize.specs.declared.relocate.Old.{Old}
use Rattle.free_block.proofs.Around.{around-same}
use Rattle.free_block.proofs.Parts as Parts
use Rattle.free_block.proofs.Found as Found
use Rattle.free_block.proofs.Between.{freeing-between}
use Rattle.free_block.proofs.Bytes.{master-in}
use Rattle.free_block.specs.Freed.{freed}
use Rattle.bays.specs.Places.{bays_of}
use Rattle.access.proofs.locate.Live.{place-live}
use Rattle.room.specs.place.Fit.{blank, Fit}
use Rattle.room.proofs.place.Cut.{blank-size}
use Rattle.room.proofs.place.InBay.{room-fit}
use Rattle.bays.specs.Slot.{Slot, plug, others, blocks_before, blocks_after}
use Rattle.resize.specs.relocate.Move.{Apart, below, above, MoveAt}
use Rattle.resize.specs.relocate.Relocate.{LiveIn, live_in, OldPlace, Carry, CarryIn, carry_of}
use Rattle.bays.proofs.Slots.{plug-flat, plug-map, plug-all}
use Rattle.resize.proofs.relocate.Beside.{end_low, low_end, high_end_of, Beside, beside}
use Rattle.free_block.proofs.Itself.{its-place}
use Rattle.resize.proofs.relocate.Moved.{handles}
use Rattle.resize.proofs.relocate.Data.{new-long}
use Rattle.structure.specs.IsZone.{IsZone}
use Rattle.structure.proofs.IsZone.{whole_of}

module _ (z : List ℕ) (h b a at n : ℕ) (y : CarryIn z h b a at n) where
  abbrev x : Carry z h b a at n
  x = carry_of y

  pub carry-zone : IsZone z
  carry-zone = x.grows.zone

  abbrev k : Slot
  k = x.slot

  abbrev s : Structure
  s = decode_zone z

  pub w : Whole z
  w = whole_of z carry-zone

  pub v : Valid s
  v = valid-zone z w

  wb : Keep.Whole (in_bays (len (decode_zone z)) (decode_zone z))
  wb = whole-bays (len s) s v (omega arith)

  -- ---- the block

  pub found : (e : Item) × (find_s (λ (c : List Cell). get (is h) (items c)) (bays_of (decode_zone z)) ≡ some e) × (e.bytes ≡ data_in z h)
  unfolding place_in data_in
  found = place-live h s x.grows.live

  abbrev pub block : Item
  block = found.0

  pub data_is : block.bytes ≡ data_in z h
  data_is = found.2

  sounds : AllS Sound (plug k x.bay)
  sounds = subst (AllS Sound) x.bays wb.sound

  sound-bay : Sound x.bay
  sound-bay = plug-all Sound k x.bay sounds

  once : live h (plug k x.bay) ≤ 1
  once = subst (λ (u : Bays (List Cell) Fixed). live h u ≤ 1) x.bays (single-live (in_bays (len s) s) wb h)

  pub side : Beside h block k x.bay
  side = beside h block k x.bay sound-bay sounds once x.without (ap (λ (u : Bays (List Cell) Fixed). find_s (λ (c : List Cell). get (is h) (items c)) u) (sym x.bays) ∙ found.1)

  pub freed-bays : map_s (release (is h)) (bays_of (decode_zone z)) ≡ plug (others (release (is h)) x.slot) x.bay
  freed-bays = ap (map_s (release (is h))) x.bays ∙ plug-map (release (is h)) k x.bay ∙ ap (plug (others (release (is h)) k)) (release-none (is h) sound-bay x.without)

  pub blocks-are : s.blocks ≡ flatten (plug k x.bay)
  blocks-are = sym (flatten-group (start s) s.blocks) ∙ ap (λ (u : Bays (List Cell) Fixed). flatten u) x.bays

  abbrev pub around : Around (decode_zone z).blocks (freed h (decode_zone z)).blocks (cell (held block))
  around = around-same blocks-are (ap (λ (u : Bays (List Cell) Fixed). flatten u) freed-bays) side.around

  pub its : is h block ≡ true
  its = side.its

  head : header_of block ≡ reloc_header
  head = is-header h block its

  pub b-is : b ≡ length block.bytes
  b-is = x.grows.is_b ∙ ap length (sym data_is)

  pub master : (zone_header ≤ h) × (h + master_size ≤ start (decode_zone z))
  master = let q = offset-is h zone_header (count s) (master-in s v around h (handles s v around h its)) in (q.0, q.1)

  word : h < argument_range
  word = omega (arith, master.1, v.short)

  pub carry-live : LiveIn z h b
  carry-live = live_in carry-zone word x.grows.live x.grows.is_b

  -- ---- the new place

  abbrev need : ℕ
  need = reloc_header + a

  pub fit : Fit z at n (reloc_header + a) h
  fit =
      subst (λ (i : ℕ). Fit z at i need h) (sym x.size_is) (subst (λ (i : ℕ). Fit z i x.hole.size need h) (sym x.at_is)
      (subst (λ (l : List ℕ). Fit l (start s + sizes (blocks_before k) + bay_size x.hole.before) x.hole.size need h) (encode-zone z w)
      (room-fit s v (blocks_before k) (blocks_after k) x.bay (blocks-are ∙ plug-flat k x.bay) x.hole x.is h need master.1 x.grows.size x.fits)))

  ok : Sound1 (held (blank need h))
  ok = let q = blank-size need h x.grows.size.low in (rw q x.grows.size.four, omega (arith, q, x.grows.size.high), omega (arith, master.1, v.few))

  long : length (bytes_of (held (blank need h) ∷ gap (n - need) [])) ≡ n
  long =
      let q = blank-size need h x.grows.size.low in
      subst (λ (j : ℕ). length (bytes_of (held (blank need h) ∷ gap (n - j) [])) ≡ n) q (new-long (blank need h) n ok (omega (arith, q, fit.fits)) fit.four_n (omega (arith, fit.inside, fit.short)))

  -- ---- the old place

  module _ (old : ℕ) (eo : old ≡ place_in z h) where
    place_is : old ≡ start s + (sizes around.pre + bay_size around.low) + header_of block
    unfolding place_in
    place_is = eo ∙ its-place s v around h its

    carry-low : reloc_header ≤ old
    carry-low = omega (arith, head, place_is)

    abbrev low : ℕ
    low = old - reloc_header

    low-is : low ≡ start s + (sizes around.pre + bay_size around.low)
    low-is = omega (arith, head, place_is)

    high_is : old + b ≡ low + item_size block
    high_is = omega (arith, head, b-is, carry-low)

    high-in : old + b ≤ length z
    high-in = end-in z low (old + b) (Found.around-in z carry-zone (freed h s).blocks (cell (held block)) around low low-is (old + b) high_is)

    module _ (e : Extent) (q : Extends z low (old + b) e) where
      freeing : Freeing z (freed h s).blocks (cell (held block)) e.from low (old + b) e.to
      freeing = Found.around-freeing z carry-zone (freed h s).blocks (cell (held block)) around low low-is (old + b) high_is e q

      from_is : e.from + end_free around.low ≡ low
      from_is = Found.around-from z carry-zone (freed h s).blocks (cell (held block)) around low low-is (old + b) high_is e q

      to_is : e.to ≡ old + b + start_free around.high
      to_is = Found.around-to z carry-zone (freed h s).blocks (cell (held block)) around low low-is (old + b) high_is e q

      pub from_place : e.from ≡ start s + sizes (Parts.before s v around)
      from_place = omega (arith, from_is, low-is, Parts.before-sizes s v around)

      pub to-place : e.to ≡ e.from + Parts.amount s v around
      to-place = omega (arith, from_is, to_is, high_is)

      pub apart : Apart e.from e.to at x.hole.size
      apart = go side.apart
        where
          bay-is : bay_size x.bay ≡ bay_size x.hole.before + (x.hole.size + bay_size x.hole.after)
          bay-is = ap bay_size x.is ∙ bsize-append x.hole.before (free x.hole.size ∷ x.hole.after)

          go : Apart (low_end side.around) (high_end_of (item_size block) side.around) (sizes (blocks_before k)) (bay_size x.bay) → Apart e.from e.to at x.hole.size
          go (below l) = below (omega (arith, x.at_is, to_is, high_is, low-is))
          go (above l) = above (omega (arith, x.at_is, bay-is, from_is, low-is, end_low side.around.low))

      pub at_old : MoveAt z h old b at n (reloc_header + a) e.from e.to
      at_old = record {
        fit = fit;
        long = long;
        data_inside = high-in;
        small = omega (arith, x.grows.more);
        apart = go apart;
        place = omega (arith, from_is, to_is, high_is, Parts.block-low s v around);
        place_inside = (freeing-between z _ _ e.from low (old + b) e.to freeing).fits;
      }
        where
          go : Apart e.from e.to at x.hole.size → Apart old (old + b) at n
          go (below l) = below (omega (arith, to_is))
          go (above l) = above (omega (arith, x.size_is, from_is, carry-low))

pub carry-at : (z : List ℕ) (h b a at n : ℕ) → CarryIn z h b a at n → (o : Old) → OldPlace z h b o → MoveAt z h o.place b at n (reloc_header + a) o.extent.from o.extent.to
carry-at z h b a at n y o p = at_old z h b a at n y o.place p.place_is o.extent p.extends
