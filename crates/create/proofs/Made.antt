-- The zone after a create: once pages are gone and the new page is placed, it is the one that the work on bays leaves.
use mathlib.Core.Path.{◌≡◌, refl, sym, ap, ap₂, ◌∙◌, subst}
use mathlib.Core.Bool.{true, false}
use mathlib.Core.List.{List, ◌++◌}
use Prim.Native.Nat.{ℕ, ◌+◌, ◌-◌, ◌≤◌}
use native.Mathlib.Omega.{arith}
use mir.Val.{Fits}
use mir.Syntax.{w8, w32}
use borrow.Author.Tests.{eq-eqb, leb-true, not-false}
use lib.Dec.{leb}
use lib.ListN.{length, get_or, take, drop, replicate}
use Rattle.block_type.specs.Limits.{page_header, page_need, up4, first_block}
use Rattle.format.specs.Occurs.{occurs}
use Rattle.kinds.specs.Kinds.{has_name, page}
use Rattle.bay.specs.Bay.{Cell, items, bay_sum}
use Rattle.calls.specs.Calls.{by_name, on_page, create_page, told}
use Rattle.calls.specs.Bays.{Bays, max_s}
use Rattle.calls.specs.State.{Fixed, master_count}
use Rattle.calls.specs.Pages.{tick, new_page}
use Rattle.calls.specs.Table.{below}
use Rattle.calls.proofs.First.{or_left}
use Rattle.structure.specs.Structure.{Block, Structure, start, count, place_of, encode, decode_zone, names_in}
use Rattle.structure.specs.Valid.{Valid}
use Rattle.zone.specs.Group.{flatten}
use Rattle.zone.specs.Work.{Zone, make_room, place_low, data_offset}
use Rattle.zone.specs.Call.{in_line, result_of, call}
use Rattle.zone.proofs.Keep.{Whole, valid-line, many-strip}
use Rattle.zone.proofs.Grouped.{work-whole}
use Rattle.zone.proofs.Dropping.{room-made}
use Rattle.zone.proofs.Passed.{passed}
use Rattle.access.specs.Named.{place_among}
use Rattle.access.proofs.Among.{name-place}
use Rattle.bays.specs.Places.{bays_of}
use Rattle.room.specs.place.Fit.{blank_page}
use Rattle.room.specs.place.Room.{Stands}
use Rattle.turn.specs.Turn.{bayed}
use Rattle.clear.specs.Cleared.{cleared}
use Rattle.access.specs.Checked.{Opened}
use Rattle.access.specs.declared.opened.Zone.{Zone as ZoneType}
use Rattle.call_laws.specs.Frame.{Does}
use Rattle.call_laws.proofs.Refused.{zone-opened}
use Rattle.create.specs.declared.CreatePlan.{CreatePlan}
use Rattle.pages.proofs.Page.{name-alone, its-place}
use Rattle.create.specs.Created.{created, made, limit_in, RoomFor, Ready}
use Rattle.create.proofs.Room.{whole_in, bays-left, left_is}

module _ (z : List ℕ) (n c : ℕ) (p : CreatePlan) (x : Ready z n c p) where
  abbrev limit : ℕ
  limit = limit_in p

  abbrev s : Structure
  s = decode_zone z

  abbrev u : Zone
  u = bayed z

  abbrev need : ℕ
  need = page_need c

  abbrev s₁ : Structure
  s₁ = cleared s.clock limit s

  whole-u : Whole u
  whole-u = whole_in z x.zone

  -- what is left is what the work goes on with
  bays₁ : bays_of s₁ ≡ (make_room need u).bays
  bays₁ = bays-left z x.zone limit ∙ sym x.gone

  -- enough is free then
  enough : need ≤ max_s bay_sum (bays_of s₁)
  enough =
      let q : below (max_s bay_sum (make_room need u).bays) need ≡ false = room-made need u whole-u.apart.apart (or_left _ _ (passed (on_page n (create_page c)) u (x.passed (length z)) 5 refl)) in
      leb-true need (max_s bay_sum (bays_of s₁)) (ap (λ (b : Bays (List Cell) Fixed). leb need (max_s bay_sum b)) bays₁ ∙ not-false _ q)

  pub room_for : (k : ℕ) → k ≡ page_need c → RoomFor z k p
  room_for k e = record {
    zone = x.zone;
    page = record { size = record { low = omega (arith, x.small); high = omega (arith, x.small); four = omega arith }; header = omega arith };
    there = rw e x.there;
    enough = rw e enough;
  }

  -- what the work leaves
  abbrev left : Zone
  left = made n c z

  whole₂ : Whole left
  whole₂ = work-whole (on_page n (create_page c)) u x.name whole-u (x.passed (length z))

  v₂ : Valid (in_line left)
  v₂ = valid-line left whole₂

  -- the page by its bytes and by its data
  same-page : (st : ℕ) → blank_page need n st ≡ new_page n st c
  same-page st = let q : need - page_header ≡ up4 c = omega arith in ap (λ (k : ℕ). page n (record { dirty = false; lock = false; stamp = st }) (replicate k 0)) q

  created-is : created need n s₁ ≡ in_line left
  created-is =
      (λ j. record { clock = tick s.clock; chain = s.chain; blocks = flatten (place_low (same-page (tick s.clock) j) (bays₁ j)) })

  -- ---- the bytes

  module _ (z₁ : List ℕ) (e₁ : z₁ ≡ encode (cleared (decode_zone z).clock (limit_in p) (decode_zone z))) where
    back₁ : decode_zone z₁ ≡ s₁
    back₁ = left_is z x.zone limit z₁ e₁

    module _ (k : ℕ) (ek : k ≡ page_need c) (z₂ : List ℕ) (e₂ : z₂ ≡ encode (created k n (decode_zone z₁))) where
      pub made_bytes : z₂ ≡ encode (in_line (made n c z))
      made_bytes = e₂ ∙ ap₂ (λ (k : ℕ) (d : Structure). encode (created k n d)) ek back₁ ∙ ap encode created-is

      -- the page's name is no other's, so that it is found where it stands
      pub made-place : (place : ℕ) → Stands (blank_page k n (tick (decode_zone z₁).clock)) (created k n (decode_zone z₁)) place → place ≡ data_offset n (made n c z)
      made-place place y =
          let d = in_line left in
          let i = blank_page k n (tick (decode_zone z₁).clock) in
          let its : has_name n i ≡ true = eq-eqb n n refl in
          let there : created k n (decode_zone z₁) ≡ d = ap₂ (λ (k : ℕ) (d : Structure). created k n d) ek back₁ ∙ created-is in
          let q = name-alone n y.front i y.back its (subst (λ (b : List Block). occurs n (names_in b) ≤ 1) y.is ((subst Valid (sym there) v₂).apart n)) in
          let m : count d ≡ master_count items left = ap (◌+ length left.chain) (many-strip left.bays) in
          y.place_is ∙ sym (its-place n y.front i y.back its (start (created k n (decode_zone z₁))) q.0) ∙ ap (place_among (by_name n) (start (created k n (decode_zone z₁)))) (sym y.is)
          ∙ ap (λ (w : Structure). place_among (by_name n) (start w) w.blocks) there
          ∙ sym (name-place n (start d) d.blocks) ∙ ap (λ (j : ℕ). place_of (has_name n) (first_block j) (flatten left.bays)) m

-- ---- the call

module _ (s : List ℕ) (z : ZoneType) (o : Opened s z) (n c : ℕ) (p : CreatePlan) (r : Ready z.bytes.now n c p) where
  -- the plan may be carried out in the buffer's bytes
  pub create-ready : Ready (take (length z.bytes.now) s) n c p
  create-ready = rw o.there r

  does : (place : ℕ) → place ≡ data_offset n (made n c z.bytes.now) → Does (on_page n (create_page c)) (length s) z.bytes.now (told 0 place) (in_line (made n c z.bytes.now))
  does place e = record { passed = r.passed (length s); answer = ap (told 0) (sym e); line = refl }

  pub create-out : (place : ℕ) (y : List ℕ) → ((i : ℕ) → Fits w8 (get_or s i 0)) → Fits w32 n → place ≡ data_offset n (made n c (take (length z.bytes.now) s)) → y ≡ encode (in_line (made n c (take (length z.bytes.now) s)))
      → result_of (told 0 place) (y ++ drop (length z.bytes.now) s) ≡ call (on_page n (create_page c)) s
  create-out place y g f e ey = zone-opened (on_page n (create_page c)) s z o g (does place (rw o.there at e)) (omega (arith, f.fits)) refl y (rw o.there at ey)
