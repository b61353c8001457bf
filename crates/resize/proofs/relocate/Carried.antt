-- The block is in its new place: the bytes are those of the structure with it there.
use mathlib.Core.Path.{◌≡◌, refl, sym, ap, ap₂, ◌∙◌, subst}
use mathlib.Core.List.{List, [], ◌∷◌, ◌++◌, map}
use Prim.Native.Nat.{ℕ, ◌+◌, ◌-◌, ◌%◌}
use native.Mathlib.Omega.{arith}
use lib.ListN.{length}
use Rattle.block_type.specs.Limits.{reloc_header}
use Rattle.bigendian.specs.BigEndian.{to_be, slice, overwrite}
use Rattle.kinds.specs.Kinds.{Item, item_size, header_of, is}
use Rattle.calls.specs.Bays.{Bays}
use Rattle.calls.specs.State.{Fixed}
use Rattle.bay.specs.Bay.{held, gap, fill, bay_size, release}
use Rattle.bay.specs.Sound.{bytes_of, Sound1}
use Rattle.bay.proofs.Laws.{release-size}
use Rattle.bay.proofs.Resize.{length-sized}
use Rattle.structure.specs.Structure.{Block, cell, Structure, sizes, start, encode_block, encode, decode_zone}
use Rattle.structure.specs.Valid.{Valid}
use Rattle.structure.proofs.Table.{encode-zone}
use Rattle.access.specs.Edit.{place_in, data_in}
use Rattle.zone.specs.Group.{flatten}
use Rattle.free_block.specs.Extends.{Extends}
use Rattle.slide.specs.declared.blank.Extent.{Extent}
use Rattle.resize.specs.declared.relocate.Old.{Old}
use Rattle.free_block.specs.Freed.{freed}
use Rattle.free_block.proofs.Live.{freed-valid}
use Rattle.bay.specs.Bay as Bay
use Rattle.bays.specs.Slot.{Slot, others, blocks_before, blocks_after}
use Rattle.resize.specs.relocate.Move.{moved_bytes}
use Rattle.resize.specs.relocate.Relocate.{item_of, OldPlace, Carry, carry_in, carried_to, Carried}
use Rattle.bays.proofs.Slots.{plug-flat, others-sizes}
use Rattle.free_block.proofs.Itself.{its-place, its-data}
use Rattle.resize.proofs.relocate.Moved.{moved}
use Rattle.resize.proofs.relocate.Data.{new-long, new-data}
use Rattle.resize.proofs.relocate.Carrying.{w, v, block, data_is, around, its, b-is, master, freed-bays, fit, from_place, to-place, apart}

module _ (z : List ℕ) (h b a at n : ℕ) (x : Carry z h b a at n) where
  abbrev s : Structure
  s = decode_zone z

  abbrev e : Item
  e = item_of z h a

  abbrev k' : Slot
  k' = others (release (is h)) x.slot

  is-z : encode s ≡ z
  is-z = encode-zone z (w z h b a at n (carry_in x))

  -- the structure without the block is valid
  valid-freed : Valid (freed h (decode_zone z))
  valid-freed = freed-valid z x.grows.zone h x.grows.live

  freed-parts : (freed h s).blocks ≡ blocks_before k' ++ (map cell x.bay ++ blocks_after k')
  freed-parts = ap (λ (u : Bays (List Bay.Cell) Fixed). flatten u) (freed-bays z h b a at n (carry_in x)) ∙ plug-flat k' x.bay

  size_is : item_size e ≡ reloc_header + a
  size_is = ap (reloc_header +◌) (length-sized a (data_in z h))

  ok : Sound1 (held e)
  ok = (rw size_is x.grows.size.four, omega (arith, size_is, x.grows.size.high), omega (arith, (master z h b a at n (carry_in x)).1, (v z h b a at n (carry_in x)).few))

  long : length (bytes_of (held e ∷ gap (x.hole.size - item_size e) [])) ≡ x.hole.size
  long =
      let f = fit z h b a at n (carry_in x) in
      new-long e x.hole.size ok (omega (arith, size_is, x.fits)) (subst (λ (j : ℕ). j % 4 ≡ 0) x.size_is f.four_n) (omega (arith, f.inside, f.short, x.size_is))

  place-new : at ≡ start s + sizes (blocks_before k') + bay_size x.hole.before
  place-new = omega (arith, x.at_is, others-sizes (release (is h)) (release-size (is h)) x.slot)

  module _ (old : ℕ) (eo : old ≡ place_in z h) (o : Extent) (q : Extends z (old - reloc_header) (old + b) o) where
    abbrev from : ℕ
    from = o.from

    abbrev to : ℕ
    to = o.to

    data-here : slice z old b ≡ data_in z h
    unfolding place_in
    data-here =
        let vv = v z h b a at n (carry_in x) in
        let ar = around z h b a at n (carry_in x) in
        let i = its z h b a at n (carry_in x) in
        ap₂ (slice z) (eo ∙ its-place s vv ar h i) (b-is z h b a at n (carry_in x))
        ∙ ap (λ (y : List ℕ). slice y (start s + (sizes ar.pre + bay_size ar.low) + header_of (block z h b a at n (carry_in x))) (length (block z h b a at n (carry_in x)).bytes)) (sym is-z)
        ∙ its-data s vv ar h i ∙ data_is z h b a at n (carry_in x)

    done : (y : List ℕ) → y ≡ moved_bytes z h from to at n (reloc_header + a) (slice z old b) → y ≡ encode (carried_to z h b a at n x)
    done y ey =
        let f = fit z h b a at n (carry_in x) in
        let d = data_in z h in
        let m = to_be 4 (at + reloc_header) in
        let u = encode_block (cell (Bay.free (to - from))) in
        let j : n - (reloc_header + a) ≡ x.hole.size - item_size e = omega (arith, size_is, x.size_is) in
        ey
        ∙ ap (λ (l : List ℕ). moved_bytes z h from to at n (reloc_header + a) l) data-here
        ∙ ap (λ (t : List ℕ). overwrite (overwrite t h m) from u) (new-data z d at h a (n - (reloc_header + a)) (omega (arith, x.grows.more, x.grows.is_b)) (omega (arith, f.inside)))
        ∙ ap₂ (λ (t : List ℕ) (i : ℕ). overwrite (overwrite (overwrite t at (bytes_of (held e ∷ gap i []))) h m) from u) (sym is-z) j
        ∙ moved s (v z h b a at n (carry_in x)) (around z h b a at n (carry_in x)) h (its z h b a at n (carry_in x)) valid-freed (blocks_before k') (blocks_after k') x.bay freed-parts x.hole x.is e refl refl ok (omega (arith, size_is, x.fits)) long
        at from to place-new (from_place z h b a at n (carry_in x) old eo o q) (to-place z h b a at n (carry_in x) old eo o q) (apart z h b a at n (carry_in x) old eo o q)
        ∙ ap (λ (bs : List Block). encode (record { clock = s.clock; chain = s.chain; blocks = bs })) (sym (plug-flat k' (fill e x.hole)))

pub carry-done : (z : List ℕ) (h b a at n : ℕ) (o : Old) → OldPlace z h b o → (y : List ℕ) → y ≡ moved_bytes z h o.extent.from o.extent.to at n (reloc_header + a) (slice z o.place b) → Carried z h b a at n y
carry-done z h b a at n o p y ey = record { left = λ x. done z h b a at n x o.place p.place_is o.extent p.extends y ey }
