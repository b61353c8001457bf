-- The plan where there is no room right behind the block: in its own bay, or in the lowest bay that reaches the need.
use mathlib.Core.Path.{◌≡◌, refl, ap, ap₂}
use mathlib.Core.Bool.{Bool, true, not, ◌&&◌}
use mathlib.Core.List.{List}
use Prim.Native.Nat.{ℕ, ◌+◌, ◌-◌, ◌<◌, ◌≤◌}
use native.Mathlib.Omega.{arith}
use borrow.Author.Tests.{lt-leb}
use lib.ListN.{length}
use Rattle.block_type.specs.Limits.{reloc_header}
use Rattle.structure.specs.Structure.{decode_zone}
use Rattle.structure.specs.IsZone.{IsZone}
use Rattle.format.specs.WellFormed.{first_field}
use Rattle.access.specs.Edit.{data_in}
use Rattle.calls.specs.Bays.{max_s}
use Rattle.calls.specs.State.{own_sum}
use Rattle.calls.specs.Table.{below}
use Rattle.bay.specs.Bay.{bay_sum, items}
use Rattle.bays.specs.Places.{bays_of, bays_at, bay_of, own_bay}
use Rattle.resize.proofs.reshape.Plan.{own-sum, laid_of, laid-reached}
use Rattle.room.specs.place.Room.{SiteN, no_site, low_site}
use Rattle.room.specs.place.Found.{site_of}
use Rattle.room.proofs.place.LowestRoom.{low-reach, low-room}
use Rattle.calls.specs.declared.Refusal.TheVariants.{NoSpace}
use Rattle.bays.specs.declared.Bay.{Bay}
use Rattle.room.specs.declared.place.Site.{Site}
use Rattle.resize.specs.relocate.Relocate.{Grows, relocate_in}
use Rattle.resize.specs.Ready.{no_room, Lacking, Chosen, Lacks}
use Rattle.resize.specs.declared.Resizing.{Resizing}
use Rattle.resize.specs.declared.Way.TheVariants.{OwnBay, OtherBay}

module _ (z : List ℕ) (i : IsZone z) (first at : ℕ) (r : Resizing) (x : Lacking z at r) where
  abbrev h : ℕ
  h = r.handle

  abbrev b : ℕ
  b = r.old_len

  abbrev a : ℕ
  a = r.new_len

  module _ (ef : first ≡ first_field z) (o : Bay) (q : bay_of o ≡ own_bay (at - reloc_header) first (bays_at z first)) where
    own_is : o.sum ≡ own_sum items bay_sum h (bays_of (decode_zone z))
    own_is = own-sum z h at b x.behind x.known first (at - reloc_header) ef refl true o.start o.end o.sum o.tail q

    pub own-way : r.new_len - r.old_len ≤ o.sum → Chosen z r (OwnBay o)
    own-way l =
        let y = laid_of z h at b x.behind x.known first (at - reloc_header) ef refl true o.start o.end o.sum o.tail q a x.four x.high x.more l in
        record { room = ap (λ (u : Bool). not u && below (max_s bay_sum (bays_of (decode_zone z))) (reloc_header + a)) (laid-reached z h o.start o.end o.sum b a y); goes = y }

    module _ (l : o.sum < r.new_len - r.old_len) where
      -- by whether a bay reaches the need
      no_room_lem : (w : SiteN) → w ≡ low_site (reloc_header + a) first (bays_at z first) → no_room z h a ≡ not w.found
      no_room_lem w m =
          ap₂ (λ (u v : Bool). not u && not v) (lt-leb (a - length (data_in z h)) (own_sum items bay_sum h (bays_of (decode_zone z))) (omega (arith, own_is, x.is_b)))
          (low-reach z i first ef (reloc_header + a) w.found w.start w.end w.at w.size w.tidy m)

      pub other-none : no_site ≡ low_site (reloc_header + r.new_len) first (bays_at z first) → Lacks z r NoSpace
      other-none m = record { none = no_room_lem no_site m; refusal_is = refl }

      grows : Grows z h b a
      grows = record {
        zone = i;
        live = x.live;
        is_b = x.is_b;
        more = omega (arith, x.more);
        size = record { low = omega arith; high = omega (arith, x.high); four = omega (arith, x.four) };
      }

      pub other-way : (w : Site) → site_of w ≡ low_site (reloc_header + r.new_len) first (bays_at z first) → Chosen z r (OtherBay w)
      other-way w m =
          record {
            room = no_room_lem (site_of w) m;
            goes = relocate_in (record { grows = grows; lowest = low-room z i first ef (reloc_header + a) true w.start w.end w.hole.at w.hole.size w.tidy m refl; lacking = omega (arith, own_is, x.more) });
          }
