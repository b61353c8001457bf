-- The new block in its place: what the writes need, and that they leave the bytes of the structure that the call on bays leaves.
use mathlib.Core.Path.{◌≡◌, sym, ap, ◌∙◌}
use mathlib.Core.Bool.{Bool}
use mathlib.Core.List.{List, [], ◌∷◌}
use Prim.Native.Nat.{ℕ, ◌+◌, ◌-◌, ◌≤◌}
use native.Mathlib.Omega.{arith}
use Rattle.block_type.specs.Limits.{longest_zone, zone_header, master_size, chain_at}
use Rattle.bigendian.specs.BigEndian.{to_be, overwrite}
use Rattle.structure.specs.Structure.{start, encode, decode_zone}
use Rattle.structure.specs.Valid.{Valid}
use Rattle.structure.proofs.Table.{Whole, start_is}
use Rattle.structure.proofs.Sound.{valid-zone}
use Rattle.structure.proofs.IsZone.{whole_of}
use Rattle.kinds.specs.Kinds.{item_size}
use Rattle.calls.specs.State.{top, rest}
use Rattle.bay.specs.Bay.{held, gap}
use Rattle.bay.specs.Sound.{Sound1}
use Rattle.slide.specs.ZoneBay.{ZoneBay, settled}
use Rattle.room.specs.place.Fit.{blank, Fit}
use Rattle.room.proofs.place.Cut.{blank-size}
use Rattle.room.proofs.place.Placed.{head-low}
use Rattle.room.specs.place.Prepared.{prepared}
use Rattle.room.proofs.place.Prepared as Prepared
use Rattle.room.proofs.place.InZone as InZone
use Rattle.room.proofs.place.InZone.{with_block}
use Rattle.allocate.specs.relocatable.Ready.{allocated, RoomIn, GoingIn}

module _ {z : List ℕ} {need h a e at n : ℕ} {t : Bool} (x : RoomIn z need h a e at n t) where
  pub whole : Whole z
  whole = whole_of z x.zone

  pub valid : Valid (decode_zone z)
  valid = valid-zone z whole

  pub master : (zone_header ≤ h) × (h + master_size ≤ start (decode_zone z))
  master = head-low (decode_zone z) valid h x.ks x.is_chain

module _ (z : List ℕ) (need h next a e at n : ℕ) (t : Bool) (x : GoingIn z need h next a e at n t) where
  abbrev b : RoomIn z need h a e at n t
  b = x.room_in

  si : item_size (blank need h) ≡ need
  si = blank-size need h b.size.low

  ok : Sound1 (held (blank need h))
  ok = (rw si b.size.four, omega (arith, si, b.size.high), omega (arith, (master b).1, (valid b).few))

  pub ask-bay : ZoneBay z a e
  ask-bay = InZone.its-bay z need a e at n t b.zone b.lowest (blank need h) si

  pub ask-head : zone_header ≤ h
  ask-head = (master b).0

  pub below_end : h + master_size ≤ longest_zone
  below_end = let w = whole b in omega (arith, (master b).1, start_is z w, w.within, w.limit, w.all)

  -- in the bay that is ready for it
  module _ (z₁ : List ℕ) (e₁ : z₁ ≡ prepared t a e z) where
    pub fits : Fit z₁ at n need h
    fits = Prepared.fit z need a e at n t b.zone b.lowest (blank need h) si z₁ e₁ h (master b).1 b.size

    -- the chain's head is taken
    pub done : (y : List ℕ) → y ≡ settled (overwrite z₁ chain_at (to_be 2 next)) at (held (blank need h) ∷ gap (n - need) []) → y ≡ encode (allocated need (decode_zone z))
    done y ey =
        ey ∙ Prepared.linked z need a e at n t b.zone b.lowest (blank need h) si z₁ e₁ b.ks b.is_chain ok next x.is_next
        ∙ ap (λ (ls : List ℕ). encode (with_block (blank need (top ls)) (rest ls) (decode_zone z))) (sym b.is_chain)
