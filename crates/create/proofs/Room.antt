-- Room for a page: where the site was found no page goes; else, once the pages that go are gone, the zone is one again and a bay of it has room.
use mathlib.Core.Path.{◌≡◌, refl, sym, ap, ◌∙◌, subst}
use mathlib.Core.Bool.{true, false, false≢true}
use mathlib.Core.List.{List}
use Prim.Native.Nat.{ℕ, ◌<◌}
use native.Mathlib.Omega.{arith}
use mir.Val.{Fits}
use mir.Syntax.{w8}
use borrow.Author.Tests.{le-leb}
use lib.ListN.{length, get_or}
use Rattle.block_type.specs.Limits.{clock_at}
use Rattle.bigendian.specs.BigEndian.{Bytes}
use Rattle.format.specs.WellFormed.{first_field}
use Rattle.kinds.specs.Kinds.{Key, of_handle, of_name, key_is, Item, is}
use Rattle.bay.specs.Bay.{release}
use Rattle.calls.specs.Bays.{map_s}
use Rattle.calls.specs.State.{with_bays}
use Rattle.structure.specs.Structure.{Block, Structure, start, encode, decode_zone}
use Rattle.structure.specs.Valid.{Valid}
use Rattle.structure.specs.IsZone.{IsZone}
use Rattle.structure.proofs.Sound.{valid-zone}
use Rattle.structure.proofs.Table.{encode-zone, len_is}
use Rattle.structure.proofs.IsZone.{whole_of, zone-of, back-of}
use Rattle.zone.specs.Group.{flatten}
use Rattle.zone.specs.Work.{Zone}
use Rattle.zone.proofs.GroupLaws.{flatten-group}
use Rattle.zone.proofs.PageRelease.{map_s-none}
use Rattle.zone.proofs.Keep.{Whole, valid-line, bays-line}
use Rattle.zone.proofs.Grouped.{whole-bays, clear_whole}
use Rattle.access.proofs.Checked.{bytes_of}
use Rattle.bays.specs.Places.{bays_of, bays_at}
use Rattle.room.specs.place.Room.{low_site}
use Rattle.room.specs.place.Found.{site_found}
use Rattle.room.specs.declared.place.Site.{Site}
use Rattle.room.proofs.place.Found.{reached, found, found-some}
use Rattle.std.specs.Prelude.{Option, Some, is_some}
use Rattle.turn.specs.Rank.{key_below, goes}
use Rattle.turn.specs.Turn.{bayed}
use Rattle.turn.proofs.Law.{none-goes}
use Rattle.clear.specs.Cleared.{cleared}
use Rattle.create.specs.Created.{Searched, SiteFor, limit_in, RoomFor}
use Rattle.create.specs.declared.CreatePlan.{CreatePlan}
use Rattle.create.specs.declared.CreatePlan.TheVariants.{AtSite, AfterPages}

-- ---- the search

pub site-searched : (z : List ℕ) (need first : ℕ) → IsZone z → first ≡ first_field z → (r : Option Site) → site_found r ≡ low_site need first (bays_at z first) → Searched z need r
site-searched z need first i ef r q = record { reach = reached z i first ef need r q ∙ found-some r; lowest = found z i first ef need r q }

-- ---- pages go

-- no block with a handle does
no-handle : (ck t h : ℕ) (e : Item) → is h e ≡ true → goes ck t e ≡ false
no-handle ck t h e q = go e.key q
  where
    go : (k : Key) → key_is h k ≡ true → key_below ck t k ≡ false
    go (of_handle j) q = refl
    go (of_name n s) q = absurd (false≢true q)

module _ (z : List ℕ) (i : IsZone z) where
  abbrev s : Structure
  s = decode_zone z

  valid-in : Valid (decode_zone z)
  valid-in = valid-zone z (whole_of z i)

  pub whole_in : Whole (bayed z)
  whole_in = let w = whole_of z i in whole-bays (length z) s valid-in (omega (arith, len_is z w, w.all))

  -- with the limit 0 none does
  none-gone : z ≡ encode (cleared (decode_zone z).clock 0 (decode_zone z))
  none-gone =
      let e : s.blocks ≡ (cleared s.clock 0 s).blocks = sym (flatten-group (start s) s.blocks) ∙ ap flatten (sym (map_s-none (goes s.clock 0) (none-goes s.clock) (bays_of s) whole_in.sound)) in
      sym (encode-zone z (whole_of z i)) ∙ ap (λ (bs : List Block). encode (record { clock = s.clock; chain = s.chain; blocks = bs })) e

  -- by the clock's byte
  pub gone-by : (ck t : ℕ) → ck ≡ get_or z clock_at 0 → (y : List ℕ) → y ≡ encode (cleared ck t (decode_zone z)) → y ≡ encode (cleared (decode_zone z).clock t (decode_zone z))
  unfolding decode_zone
  gone-by ck t e y ey = ey ∙ ap (λ (k : ℕ). encode (cleared k t (decode_zone z))) e

  module _ (limit : ℕ) where
    abbrev s₁ : Structure
    s₁ = cleared s.clock limit s

    -- the zone that is left, in bays
    abbrev left_bays : Zone
    left_bays = with_bays (map_s (release (goes (decode_zone z).clock limit)) (bays_of (decode_zone z))) (bayed z)

    whole₁ : Whole left_bays
    whole₁ = clear_whole (bayed z) whole_in (goes s.clock limit) (no-handle s.clock limit)

    v₁ : Valid s₁
    v₁ = valid-line left_bays whole₁

    pub bays-left : bays_of (cleared (decode_zone z).clock limit (decode_zone z)) ≡ map_s (release (goes (decode_zone z).clock limit)) (bays_of (decode_zone z))
    bays-left = ap (λ (w : Zone). w.bays) (bays-line left_bays whole₁)

    module _ (z₁ : List ℕ) (e₁ : z₁ ≡ encode (cleared (decode_zone z).clock limit (decode_zone z))) where
      pub left_is : decode_zone z₁ ≡ cleared (decode_zone z).clock limit (decode_zone z)
      left_is = ap decode_zone e₁ ∙ back-of s₁ v₁

      left-zone : ((j : ℕ) → Fits w8 (get_or z₁ j 0)) → IsZone z₁
      left-zone g = subst IsZone (sym e₁) (zone-of s₁ v₁ (subst Bytes e₁ (bytes_of z₁ g)))

-- ---- the site

module _ (z : List ℕ) (need : ℕ) (p : CreatePlan) (x : RoomFor z need p) where
  pub room-some : 0 < need
  room-some = omega (arith, x.page.header)

  module _ (r : Site) (e : p ≡ AtSite r) where
    pub none-went : z ≡ encode (cleared (decode_zone z).clock (limit_in p) (decode_zone z))
    none-went = rw e (none-gone z x.zone)

    pub site-there : SiteFor z need r
    site-there = record { zone = x.zone; page = x.page; lowest = rw e at x.there }

  module _ (t : ℕ) (e : p ≡ AfterPages t) (z₁ : List ℕ) (e₁ : z₁ ≡ encode (cleared (decode_zone z).clock t (decode_zone z))) (g : (j : ℕ) → Fits w8 (get_or z₁ j 0)) where
    pub pages-went : z₁ ≡ encode (cleared (decode_zone z).clock (limit_in p) (decode_zone z))
    pages-went = rw e e₁

    pub zone-left : IsZone z₁
    zone-left = left-zone z x.zone t z₁ e₁ g

    module _ (r : Option Site) (q : Searched z₁ need r) where
      pub site-some : is_some r ≡ true
      site-some =
          let l = left_is z x.zone t z₁ e₁ in
          let m = rw e at x.enough in
          sym q.reach ∙ le-leb need _ (rw l m)

      pub site_left : (s : Site) → r ≡ Some s → SiteFor z₁ need s
      site_left s k = record { zone = zone-left; page = x.page; lowest = q.lowest s k }
