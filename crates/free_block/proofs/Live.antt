-- The block of a live handle in the bytes of a zone: where it lies among the blocks, its size, and the zone without it.
use mathlib.Core.Path.{◌≡◌, refl, sym, ap, ◌∙◌}
use mathlib.Core.Bool.{true, false}
use mathlib.Core.Option.{Option}
use mathlib.Core.List.{List, [], ◌∷◌}
use Prim.Native.Nat.{ℕ, ◌+◌, ◌-◌, ◌≤◌}
use native.Mathlib.Omega.{arith}
use mir.Val.{Fits}
use mir.Syntax.{w64}
use lib.ListN.{length}
use Rattle.block_type.specs.Limits.{reloc_header}
use Rattle.kinds.specs.Kinds.{Item, header_of, is}
use Rattle.kinds.proofs.KindLaws.{is-header}
use Rattle.bay.specs.Bay.{held, bay_size}
use Rattle.calls.specs.Calls.{free_handle}
use Rattle.calls.specs.Bays.{over}
use Rattle.calls.specs.Table.{cause, is_none, first, order, refusal_of}
use Rattle.structure.specs.Structure.{cell, Structure, sizes, start, len, decode_zone}
use Rattle.structure.specs.Valid.{Valid}
use Rattle.structure.proofs.Sound.{valid-zone}
use Rattle.access.specs.Edit.{place_in, data_in, data_of}
use Rattle.zone.specs.Group.{group}
use Rattle.zone.specs.Work.{facts, work}
use Rattle.zone.specs.Call.{in_bays}
use Rattle.zone.proofs.GroupLaws.{flatten-group}
use Rattle.zone.proofs.Grouped.{whole-bays, work-whole, single-live}
use Rattle.zone.proofs.Keep.{valid-line}
use Rattle.access.proofs.locate.Live.{place-live}
use Rattle.free_block.specs.Around.{Around, Freeing}
use Rattle.free_block.specs.Freed.{freed}
use Rattle.free_block.specs.Extends.{BlockIn, Extends}
use Rattle.free_block.proofs.Around.{around-same}
use Rattle.free_block.proofs.Own.{own_block}
use Rattle.free_block.proofs.Itself.{its-place}
use Rattle.free_block.proofs.Extends.{held-low, held-word, held-in, held-freeing}
use Rattle.slide.specs.declared.blank.Extent.{Extent}
use Rattle.structure.specs.IsZone.{IsZone}
use Rattle.structure.proofs.IsZone.{whole_of}

module _ (z : List ℕ) (i : IsZone z) (h : ℕ) (live : place_in z h ≡ 0 → ⊥) where
  abbrev s : Structure
  s = decode_zone z

  v : Valid s
  v = valid-zone z (whole_of z i)

  pub found : (e : Item) × Around s.blocks (freed h s).blocks (cell (held e)) × (is h e ≡ true) × (e.bytes ≡ data_of h s.blocks)
  unfolding place_in
  found =
      let p = place-live h s live in
      let b = whole-bays (len s) s v (omega arith) in
      let o = own_block (is h) p.0 (group (start s) s.blocks) b.sound (single-live (in_bays (len s) s) b h) p.1 in
      (p.0, around-same (sym (flatten-group (start s) s.blocks)) refl o.0, o.1, p.2)

  abbrev pub block : Item
  block = found.0

  abbrev pub around : Around s.blocks (freed h s).blocks (cell (held block))
  around = found.1

  pub its : is h block ≡ true
  its = found.2

  place_is : place_in z h ≡ start s + (sizes around.pre + bay_size around.low) + header_of block
  unfolding place_in
  place_is = its-place s v around h its

  data_is : length (data_in z h) ≡ length block.bytes
  unfolding data_in
  data_is = ap length (sym found.3)

  -- nothing refuses to free it, and the structure without it is valid
  pub free-passed : (buf : ℕ) → refusal_of (free_handle h) (facts true (in_bays buf (decode_zone z))) ≡ 0
  unfolding place_in
  free-passed buf = ap (λ (o : Option Item). first order (cause 1 false ∷ cause 6 (is_none (over length (over (λ (e : Item). e.bytes) o))) ∷ [])) (place-live h s live).1

  pub freed-valid : Valid (freed h (decode_zone z))
  freed-valid =
      valid-line (work (free_handle h) (in_bays (len s) s)).next (work-whole (free_handle h) (in_bays (len s) s) tt (whole-bays (len s) s v (omega arith)) (free-passed (len s)))

-- ---- its extent

module _ (z : List ℕ) (i : IsZone z) (h place : ℕ) (e : place ≡ place_in z h) (ne : place ≡ 0 → ⊥) where
  pub live-is : place_in z h ≡ 0 → ⊥
  live-is q = ne (e ∙ q)

  abbrev b : Item
  b = block z i h live-is

  abbrev a : Around (decode_zone z).blocks (freed h (decode_zone z)).blocks (cell (held b))
  a = around z i h live-is

  head : header_of b ≡ reloc_header
  head = is-header h b (its z i h live-is)

  at_is : place ≡ start (decode_zone z) + (sizes a.pre + bay_size a.low) + header_of b
  at_is = e ∙ place_is z i h live-is

  pub data-low : reloc_header ≤ place
  data-low = held-low z i (freed h (decode_zone z)).blocks b a reloc_header place (length b.bytes) head at_is refl

  module _ (n : ℕ) (en : n ≡ length (data_in z h)) where
    long : n ≡ length b.bytes
    long = en ∙ data_is z i h live-is

    pub end-word : Fits w64 (place + n)
    end-word = held-word z i (freed h (decode_zone z)).blocks b a reloc_header place n head at_is long

    pub block-in : BlockIn z (place - reloc_header) (place + n)
    block-in = held-in z i (freed h (decode_zone z)).blocks b a reloc_header place n head at_is long

    pub freeing-in : (x : Extent) → Extends z (place - reloc_header) (place + n) x → Freeing z (freed h (decode_zone z)).blocks (cell (held b)) x.from x.at x.end x.to
    freeing-in x q = held-freeing z i (freed h (decode_zone z)).blocks b a reloc_header place n head at_is long x q
