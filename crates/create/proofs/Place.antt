-- The new page in its place: what the writes need, and that they leave the zone with the page and the next clock.
use mathlib.Core.Path.{◌≡◌, refl, ap, ◌∙◌}
use mathlib.Core.List.{List, [], ◌∷◌}
use Prim.Native.Nat.{ℕ, ◌+◌, ◌-◌, ◌<◌, ◌≤◌}
use native.Mathlib.Omega.{arith}
use mir.Val.{Fits}
use mir.Syntax.{w32, w64}
use lib.ListN.{length, set}
use Rattle.block_type.specs.Limits.{longest_zone, page_header, stamp_range, argument_range, clock_at}
use Rattle.bigendian.specs.BigEndian.{overwrite}
use Rattle.format.specs.WellFormed.{clock_field}
use Rattle.kinds.specs.Kinds.{Item, item_size}
use Rattle.bay.specs.Bay.{held, gap}
use Rattle.bay.specs.Sound.{bytes_of, Sound1}
use Rattle.calls.specs.Pages.{tick}
use Rattle.structure.specs.Structure.{encode, decode_zone}
use Rattle.slide.specs.ZoneBay.{ZoneBay}
use Rattle.access.proofs.Checked.{zone-clock}
use Rattle.room.specs.place.Fit.{blank_page, Fit}
use Rattle.room.specs.place.Room.{LowestRoom, Stands}
use Rattle.room.specs.declared.place.Site.{Site}
use Rattle.room.proofs.place.Cut.{page-size}
use Rattle.room.specs.place.Prepared.{prepared}
use Rattle.room.proofs.place.Prepared as Prepared
use Rattle.room.proofs.place.InZone as InZone
use Rattle.room.proofs.place.InZone.{with_block}
use Rattle.pages.proofs.status.Restatus.{reclocked}
use Rattle.pages.proofs.status.There.{set-clock}
use Rattle.create.specs.Created.{created, SiteFor}

-- ---- the writes

pub carve-done : (z z₁ : List ℕ) (at stamp : ℕ) (new : List ℕ) → clock_at < length z → length z₁ ≡ length z → z₁ ≡ overwrite z at new → set z₁ clock_at stamp ≡ overwrite (overwrite z at new) clock_at (stamp ∷ [])
carve-done z z₁ at stamp new l k e = set-clock z₁ stamp (omega arith) ∙ ap (λ (y : List ℕ). overwrite y clock_at (stamp ∷ [])) e

-- ---- at the site

module _ {z : List ℕ} {need : ℕ} {r : Site} (x : SiteFor z need r) where
  abbrev lowest : LowestRoom z need r.start r.end r.hole.at r.hole.size r.tidy
  lowest = x.lowest

  pub site-header : page_header ≤ need
  site-header = x.page.header

  pub site-clock : clock_at < length z
  site-clock = zone-clock z x.zone

  pub site-clock-left : (w : List ℕ) → length w ≡ length z → clock_at < length w
  site-clock-left w k = omega (arith, site-clock)

  size_is : (name stamp : ℕ) → item_size (blank_page need name stamp) ≡ need
  size_is name stamp = page-size need name stamp site-header

  sound : (name stamp : ℕ) → name < argument_range → stamp < stamp_range → Sound1 (held (blank_page need name stamp))
  sound name stamp ln ls = let si = size_is name stamp in (rw si x.page.size.four, omega (arith, si, x.page.size.high), (ln, ls))

  -- any page of need bytes serves for the place
  abbrev any : Item
  any = blank_page need 0 0

  pub place-bay : ZoneBay z r.start r.end
  place-bay = InZone.its-bay z need r.start r.end r.hole.at r.hole.size r.tidy x.zone lowest any (size_is 0 0)

  -- the place that is ready for it
  pub site-fits : (z₁ : List ℕ) → z₁ ≡ prepared r.tidy r.start r.end z → Fit z₁ r.hole.at r.hole.size need 0
  site-fits z₁ e₁ = Prepared.fit z need r.start r.end r.hole.at r.hole.size r.tidy x.zone lowest any (size_is 0 0) z₁ e₁ 0 (omega arith) x.page.size

  -- ---- where it stands then

  in-bay : r.hole.at + page_header ≤ longest_zone
  in-bay =
      omega (arith, InZone.its-end z need r.start r.end r.hole.at r.hole.size r.tidy x.zone lowest any (size_is 0 0), site-header, place-bay.inside, place-bay.short)

  pub place-fits : Fits w64 (r.hole.at + page_header)
  place-fits = record { fits = omega (arith, in-bay) }

  pub place-word : Fits w32 (r.hole.at + page_header)
  place-word = record { fits = omega (arith, in-bay) }

  pub page-stands : (name : ℕ) → Fits w32 name → Stands (blank_page need name (tick (decode_zone z).clock)) (created need name (decode_zone z)) (r.hole.at + page_header)
  page-stands name f =
      let st = tick (decode_zone z).clock in
      let w = InZone.stands z need r.start r.end r.hole.at r.hole.size r.tidy x.zone lowest (blank_page need name st) (size_is name st) (decode_zone z).chain refl (sound name st (omega (arith, f.fits)) (omega arith)) in
      record { front = w.front; back = w.back; is = w.is; place_is = w.place_is }

  -- ---- the bytes

  module _ (stamp : ℕ) (es : stamp ≡ tick (clock_field z)) (name : ℕ) (fw : Fits w32 name) where
    abbrev i : Item
    i = blank_page need name stamp

    ok : Sound1 (held i)
    ok = sound name stamp (omega (arith, fw.fits)) (omega (arith, es))

    -- the clock behind the page
    clock-done : overwrite (encode (with_block i (decode_zone z).chain (decode_zone z))) clock_at (stamp ∷ []) ≡ encode (created need name (decode_zone z))
    unfolding decode_zone
    clock-done =
        reclocked stamp (with_block i (decode_zone z).chain (decode_zone z))
        ∙ ap (λ (k : ℕ). encode (record { clock = k; chain = (decode_zone z).chain; blocks = (with_block (blank_page need name k) (decode_zone z).chain (decode_zone z)).blocks })) es

    pub done : (z₁ : List ℕ) → z₁ ≡ prepared r.tidy r.start r.end z → (w : List ℕ) → w ≡ overwrite (overwrite z₁ r.hole.at (bytes_of (held (blank_page need name stamp) ∷ gap (r.hole.size - need) []))) clock_at (stamp ∷ [])
        → w ≡ encode (created need name (decode_zone z))
    done z₁ e₁ w ew =
        ew ∙ ap (λ (v : List ℕ). overwrite v clock_at (stamp ∷ [])) (Prepared.bare z need r.start r.end r.hole.at r.hole.size r.tidy x.zone lowest i (size_is name stamp) z₁ e₁ refl refl ok)
        ∙ clock-done
