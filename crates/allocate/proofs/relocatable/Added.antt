-- The new block after masters have been added: the zone is one again, and has room for it.
use mathlib.Core.Path.{◌≡◌, sym, ap, ap₂, ◌∙◌, subst}
use mathlib.Core.Bool.{true}
use mathlib.Core.List.{List}
use Prim.Native.Nat.{ℕ, ◌+◌, ◌<◌, ◌≤◌}
use native.Mathlib.Omega.{arith}
use mir.Val.{Fits}
use mir.Syntax.{w8}
use lib.Dec.{leb}
use lib.ListN.{length, get_or, drop}
use borrow.Author.Tests.{le-leb}
use Rattle.bigendian.specs.BigEndian.{Bytes}
use Rattle.block_type.specs.Limits.{first_block, longest_zone, added_masters, added_bytes}
use Rattle.format.specs.WellFormed.{first_field}
use Rattle.structure.specs.Structure.{Structure, start, len, encode, decode_zone}
use Rattle.structure.specs.Valid.{Valid}
use Rattle.structure.specs.IsZone.{IsZone}
use Rattle.structure.proofs.Sound.{valid-zone}
use Rattle.structure.proofs.Table.{start_is}
use Rattle.structure.proofs.IsZone.{whole_of, zone-of, back-of}
use Rattle.calls.specs.Bays.{Bays, on_first, first_s, max_s}
use Rattle.calls.specs.State.{Fixed, handles_from, rest}
use Rattle.calls.proofs.FirstBay.{less-first}
use Rattle.bay.specs.Bay.{Cell, bay_sum, packed_less}
use Rattle.bay.proofs.Laws.{less-sum}
use Rattle.zone.specs.Work.{Zone, more_masters}
use Rattle.zone.specs.Call.{in_bays}
use Rattle.zone.proofs.Keep.{Whole, valid-line, bays-line}
use Rattle.zone.proofs.Grouped.{whole-bays}
use Rattle.zone.proofs.MoreMasters.{more-whole}
use Rattle.access.specs.row.Row.{Row}
use Rattle.access.proofs.Checked.{bytes_of}
use Rattle.access.proofs.row.Zone.{zone-row, zone-start, zone-short}
use Rattle.bays.specs.Places.{bays_of, bays_at}
use Rattle.room.specs.place.Room.{low_site}
use Rattle.room.specs.place.Found.{site_found}
use Rattle.room.specs.declared.place.Site.{Site}
use Rattle.room.proofs.place.Found.{reached, found, found-some}
use Rattle.std.specs.Prelude.{Option, Some, is_some}
use Rattle.masters.specs.Grown.{grown_in}
use Rattle.masters.proofs.Grown.{count-bays, grown-start}
use Rattle.allocate.specs.growth.Grows.{GrowsIn}
use Rattle.allocate.specs.relocatable.Ready.{allocated, RoomAt}

module _ (z : List ℕ) (need first end : ℕ) (x : GrowsIn z need first end) where
  abbrev s : Structure
  s = decode_zone z

  abbrev s₁ : Structure
  s₁ = grown_in s

  -- the zone before, and with the masters
  abbrev u : Zone
  u = in_bays (len s) s

  v : Valid s
  v = valid-zone z (whole_of z x.growing.zone)

  whole₁ : Whole (more_masters u)
  whole₁ =
      more-whole u (whole-bays (len s) s v (omega arith)) x.growing.none
      (record { few = omega (arith, count-bays s, x.growing.few); room = x.growing.enough })

  v₁ : Valid s₁
  v₁ = valid-line (more_masters u) whole₁

  pub bays₁ : bays_of s₁ ≡ on_first (packed_less added_bytes) (bays_of s)
  bays₁ = ap (λ (w : Zone). w.bays) (bays-line (more_masters u) whole₁)

  enough : leb need (max_s bay_sum (bays_of s₁)) ≡ true
  enough =
      ap (λ (b : Bays (List Cell) Fixed). leb need (max_s bay_sum b)) bays₁
      ∙ ap (leb need) (less-first bay_sum added_bytes (packed_less added_bytes) (bays_of s) (less-sum added_bytes (first_s (bays_of s))))
      ∙ le-leb need _ x.enough

  pub added-need : 0 < need
  added-need = omega (arith, x.size.low)

  module _ (z₁ : List ℕ) (e₁ : z₁ ≡ encode (grown_in (decode_zone z))) (g : (i : ℕ) → Fits w8 (get_or z₁ i 0)) where
    zone₁ : IsZone z₁
    zone₁ = subst IsZone (sym e₁) (zone-of s₁ v₁ (subst Bytes e₁ (bytes_of z₁ g)))

    back₁ : decode_zone z₁ ≡ s₁
    back₁ = ap decode_zone e₁ ∙ back-of s₁ v₁

    first₁ : first + added_bytes ≡ first_field z₁
    first₁ = sym (grown-start z first end x.growing) ∙ ap start (sym back₁) ∙ start_is z₁ (whole_of z₁ zone₁)

    pub added-row : Row (drop (first + added_bytes) z₁)
    added-row = zone-row z₁ zone₁ (first + added_bytes) first₁

    pub added-start : first + added_bytes ≤ length z₁
    added-start = zone-start z₁ zone₁ (first + added_bytes) first₁

    pub added-short : length z₁ ≤ longest_zone
    added-short = zone-short z₁ zone₁ (first + added_bytes) first₁

    module _ (r : Option Site) (q : site_found r ≡ low_site need (first + added_bytes) (bays_at z₁ (first + added_bytes))) where
      pub added-some : is_some r ≡ true
      added-some =
          sym (found-some r) ∙ sym (reached z₁ zone₁ (first + added_bytes) first₁ need r q) ∙ ap (λ (w : Structure). leb need (max_s bay_sum (bays_of w))) back₁ ∙ enough

      pub added-room : (p : Site) → r ≡ Some p → RoomAt z₁ need first p
      added-room p e =
          record {
            zone = zone₁;
            ks = rest (handles_from first added_masters);
            is_chain = ap (λ (w : Structure). w.chain) back₁ ∙ ap (λ (o : ℕ). handles_from o added_masters) (ap first_block (count-bays s) ∙ sym x.growing.first_is);
            size = x.size;
            lowest = found z₁ zone₁ (first + added_bytes) first₁ need r q p e;
          }

    pub added-done : (y : List ℕ) (need' : ℕ) → need' ≡ need → y ≡ encode (allocated need' (decode_zone z₁)) → y ≡ encode (allocated need (grown_in (decode_zone z)))
    added-done y need' n q = q ∙ ap₂ (λ (k : ℕ) (w : Structure). encode (allocated k w)) n back₁
