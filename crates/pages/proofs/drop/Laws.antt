-- The laws that the call's proofs cite.
use Rattle.std.proofs.Common.{◌≡◌, ℕ, ◌+◌, ◌-◌, List, [], ◌∷◌, ◌++◌, length, get_or, take, drop, sym, refl, ◌∙◌, append-nil, arith, w8, w32, Fits}
use Rattle.bigendian.specs.BigEndian.{overwrite}
use Rattle.block_type.specs.Limits.{page_header}
use Rattle.kinds.specs.Kinds.{masters_of}
use Rattle.kinds.proofs.KindLaws.{name-page}
use Rattle.bay.specs.Bay.{free, held}
use Rattle.structure.specs.Structure.{decode_zone, encode_block, cell, handles_of}
use Rattle.structure.specs.IsZone.{IsZone}
use Rattle.calls.specs.Calls.{told, by_name, on_page, drop_page}
use Rattle.zone.specs.Call.{result_of, call}
use Rattle.access.specs.locate.Locate.{target_place, target_data}
use Rattle.slide.specs.blank.Between.{Between}
use Rattle.free_block.specs.Extends.{Extends}
use Rattle.free_block.proofs.Between.{freeing-between, freeing-plain}
use Rattle.calls.specs.declared.Refusal.TheVariants.{NameAbsent}
use Rattle.access.specs.locate.Found.{NoSpan}
use Rattle.access.specs.Checked.{Opened}
use Rattle.access.specs.declared.opened.Zone.{Zone}
use Rattle.call_laws.specs.Frame.{Does}
use Rattle.call_laws.specs.Refused.{Refuses}
use Rattle.call_laws.proofs.Refused.{zone-opened}
use Rattle.pages.specs.drop.Ready.{dropped, ReadyIn, Ready}
use Rattle.slide.specs.declared.blank.Extent.{Extent}
use Rattle.pages.proofs.Page.{number-gone, number-live}
use Rattle.pages.proofs.drop.Live.{page, its, live-is, freeing-in}

-- ---- the plan

no-page : (z : List ℕ) (n : ℕ) → target_place (by_name n) z ≡ 0 → Refuses (on_page n drop_page) z NameAbsent
no-page z n e = record { number_is = λ buf. number-gone z n e; beside_is = λ buf. refl }

pub in-13 : (z : List ℕ) (n : ℕ) → NoSpan z (by_name n) → Refuses (on_page n drop_page) z NameAbsent
in-13 z n x = no-page z n x.place_is

pub in-0 : (z : List ℕ) (i : IsZone z) (n place : ℕ) → place ≡ target_place (by_name n) z → (place ≡ 0 → ⊥) → (k : ℕ) → k ≡ length (target_data (by_name n) z)
    → (x : Extent) → Extends z (place - page_header) (place + k) x → ReadyIn z n x.from x.at x.end x.to
in-0 z i n place e ne k ek x q =
    let l = live-is z i n place e ne in
    record { live = l; page = page z i n l; its = its z i n l; freeing = freeing-in z i n place e ne k ek x q }

-- ---- the call

drops : (z : List ℕ) (n : ℕ) → (target_place (by_name n) z ≡ 0 → ⊥) → (buf : ℕ) → Does (on_page n drop_page) buf z (told 0 0) (dropped n (decode_zone z))
drops z n ne buf = record { passed = number-live z n ne; answer = refl; line = refl }

module _ (s : List ℕ) (z : Zone) (o : Opened s z) (n : ℕ) (p : Extent) (r : Ready z.bytes.now n p) where
  pub call-between : Between (take (length z.bytes.now) s) p.from p.at p.end p.to
  call-between = rw o.there (freeing-between z.bytes.now _ _ p.from p.at p.end p.to r.freeing)

  -- a page has no master
  none : handles_of (cell (held r.page) ∷ []) ≡ []
  unfolding handles_of
  none = append-nil (masters_of r.page) ∙ name-page n r.page r.its

  pub call-out : (y : List ℕ) → ((i : ℕ) → Fits w8 (get_or s i 0)) → Fits w32 n → y ≡ overwrite (take (length z.bytes.now) s) p.from (encode_block (cell (free (p.to - p.from))))
      → result_of (told 0 0) (y ++ drop (length z.bytes.now) s) ≡ call (on_page n drop_page) s
  call-out y g f e =
      zone-opened (on_page n drop_page) s z o g (drops z.bytes.now n r.live (length s)) (omega (arith, f.fits)) refl y
      (freeing-plain z.bytes.now _ _ p.from p.at p.end p.to r.freeing none y (rw o.there at e))
