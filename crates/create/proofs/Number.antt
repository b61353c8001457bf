-- The plan: which cause refuses a create, with the value beside it, or which pages go.
use mathlib.Core.Path.{◌≡◌, refl, sym, ap, ◌∙◌}
use mathlib.Core.Bool.{Bool, true, false, cond, not, false≢true}
use mathlib.Core.List.{List}
use Prim.Native.Nat.{ℕ, ◌+◌, ◌<◌, ◌≤◌}
use native.Mathlib.Omega.{arith}
use mir.Val.{Fits}
use mir.Syntax.{w32}
use lib.Dec.{leb}
use borrow.Author.Tests.{le-leb, lt-leb, leb-true, leb-false}
use Rattle.block_type.specs.Limits.{page_header, page_limit, page_need}
use Rattle.structure.specs.Structure.{decode_zone}
use Rattle.structure.specs.IsZone.{IsZone}
use Rattle.calls.specs.Bays.{max_s}
use Rattle.calls.specs.Calls.{Call, by_name, on_page, create_page}
use Rattle.calls.specs.Table.{is_none, refusal_of, refusal_value}
use Rattle.calls.proofs.Order.{create-number}
use Rattle.bay.specs.Bay.{bay_sum}
use Rattle.zone.specs.Work.{facts}
use Rattle.access.specs.locate.Locate.{target_place}
use Rattle.bays.specs.Places.{bays_of}
use Rattle.room.specs.declared.place.Site.{Site}
use Rattle.std.specs.Prelude.{Option, Some, None, is_some, Result, Ok, Err, IfErr}
use Rattle.std.specs.Result.{IsErrAnd}
use Rattle.calls.specs.Refusals.{code_of, beside_of}
use Rattle.calls.specs.declared.Refusal.{Refusal}
use Rattle.calls.specs.declared.Refusal.TheVariants.{TooLarge, NamePresent}
use Rattle.call_laws.specs.Frame.{zone_at}
use Rattle.call_laws.specs.Refused.{Refuses}
use Rattle.create.specs.declared.CreatePlan.{CreatePlan}
use Rattle.turn.specs.Turn.{turn_number, turn_name, bayed, InTurn}
use Rattle.turn.proofs.search.Found.{turn-free}
use Rattle.pages.proofs.Page.{page-absent, page-present}
use Rattle.zone_check.specs.Sought.{unless_zero, page_in}
use Rattle.access.proofs.locate.Sought.{page-none-place, page-place}
use Rattle.create.specs.Created.{Searched, Ready}
use Rattle.create.specs.declared.CreatePlan.TheVariants.{AtSite, AfterPages}

abbrev its : ℕ → ℕ → Call
its n c = on_page n (create_page c)

module _ (z : List ℕ) (n c : ℕ) (i : IsZone z) (page : Option ℕ) (e : page ≡ unless_zero (page_in n z)) where
  absent : is_some page ≡ false → target_place (by_name n) z ≡ 0
  absent q = sym (page-none-place z i n page e (none page q))
    where
      none : (o : Option ℕ) → is_some o ≡ false → o ≡ None
      none None q = refl
      none (Some x) q = absurd (false≢true (sym q))

  present : is_some page ≡ true → target_place (by_name n) z ≡ 0 → ⊥
  present q k = go page refl q
    where
      go : (o : Option ℕ) → page ≡ o → is_some o ≡ true → ⊥
      go None m q = false≢true q
      go (Some at) m q = let l : at + page_header ≡ 0 = page-place z i n page e at m ∙ k in omega (arith, l)

  pub in-11 : (t : Bool) → t ≡ is_some page → t ≡ true → Refuses (its n c) z NamePresent
  in-11 t et q =
      record { number_is = λ buf. create-number n c (facts true (zone_at buf z)) refl ∙ (rw (page-present z n (present (sym et ∙ q)))); beside_is = λ buf. refl }

  pub in-3 : (t : Bool) → t ≡ is_some page → t ≡ false → page_limit < c → Refuses (its n c) z TooLarge
  in-3 t et q l =
      record { number_is = λ buf. create-number n c (facts true (zone_at buf z)) refl ∙ (rw (page-absent z n (absent (sym et ∙ q)), lt-leb c page_limit l)); beside_is = λ buf. refl }

  module _ (u : Bool) (eu : u ≡ is_some page) (gone : u ≡ false) (l : c ≤ page_limit) (need : ℕ) (en : need ≡ page_need c) (r : Option Site) (q : Searched z need r) where
    module _ (number name limit : ℕ) (t : InTurn z need number name limit) where
      -- 5, 12 or none
      number_is : (buf : ℕ) → refusal_of (its n c) (facts true (zone_at buf z)) ≡ number
      number_is buf =
          create-number n c (facts true (zone_at buf z)) refl ∙ (rw (page-absent z n (absent (sym eu ∙ gone)), le-leb c page_limit l))
          ∙ turned (leb (page_need c) (facts true (bayed z)).largest_emptied) (is_none ((facts true (bayed z)).stop (page_need c)))
          ∙ sym (t.number_is ∙ ap (λ (k : ℕ). turn_number k (facts true (bayed z))) en)
        where
          turned : (e s : Bool) → ◌≡◌ {A = ℕ} (cond e (cond s 0 12) 5) (cond (not e) 5 (cond (not s) 12 0))
          turned true true = refl
          turned true false = refl
          turned false s = refl

      beside_is : (buf : ℕ) → refusal_value number (its n c) (facts true (zone_at buf z)) ≡ name
      beside_is buf = sym (t.name_is ∙ ap (λ (k : ℕ). turn_name number k (facts true (bayed z))) en)

    -- there is room
    pub in-room : (p : Site) → r ≡ Some p → Fits w32 n → Ready z n c (AtSite p)
    in-room p h f =
        let t = turn-free z need i (leb-true need _ (q.reach ∙ ap is_some h)) in
        record { zone = i; name = omega (arith, f.fits); small = l; passed = number_is 0 0 0 t; gone = rw en at (t.gone refl); there = rw en at (q.lowest p h) }

    -- there is none
    module _ (h : r ≡ None) where
      pub no_room_lem : max_s bay_sum (bays_of (decode_zone z)) < need
      no_room_lem = leb-false need _ (q.reach ∙ ap is_some h)

      pub in-turn : (limit : ℕ) → InTurn z need 0 0 limit → Fits w32 n → Ready z n c (AfterPages limit)
      in-turn limit t f = record { zone = i; name = omega (arith, f.fits); small = l; passed = number_is 0 0 limit t; gone = rw en at (t.gone refl); there = tt }

      pub out-of-turn : (x : Result CreatePlan Refusal) (d : Refusal) → IsErrAnd x (λ y. y ≡ d) → InTurn z need (code_of d) (beside_of d) 0 → IfErr x (Refuses (its n c) z)
      out-of-turn (Ok p) d k t = absurd k
      out-of-turn (Err y) d k t = let o : y ≡ d = k in rw o (record { number_is = number_is (code_of d) (beside_of d) 0 t; beside_is = beside_is (code_of d) (beside_of d) 0 t })
