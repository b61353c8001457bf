-- The plan and the call.
use mathlib.Core.Path.{◌≡◌, refl, sym, ap, ap₂, ◌∙◌}
use mathlib.Core.List.{List, [], ◌∷◌, ◌++◌}
use mathlib.Core.Bool.{Bool, true, false, cond, not}
use Prim.Native.Nat.{ℕ, ◌+◌, ◌-◌, ◌<◌, ◌≤◌}
use native.Mathlib.Omega.{arith}
use borrow.Author.Tests.{le-leb, lt-leb}
use lib.Dec.{leb}
use lib.ListN.{length, get_or, take, drop}
use mir.Val.{Fits}
use mir.Syntax.{w8, w32}
use Rattle.block_type.specs.Limits.{fixed_header, fixed_need, fixed_limit}
use Rattle.format.specs.WellFormed.{first_field}
use Rattle.structure.specs.Structure.{Structure, start, len, decode_zone, encode}
use Rattle.calls.specs.Calls.{told, allocate_fixed}
use Rattle.calls.specs.Bays.{max_s}
use Rattle.calls.specs.State.{Fixed, pointer}
use Rattle.calls.specs.Table.{cause, first, order, refusal_of}
use Rattle.bay.specs.Bay.{bay_sum, take_high}
use Rattle.zone.specs.Work.{facts}
use Rattle.zone.specs.Call.{result_of, call}
use Rattle.bays.specs.Places.{BayN, bay_of, bay_found, bays_at, high_bay, bays_of}
use Rattle.bays.specs.declared.Bay.{Bay}
use Rattle.std.specs.Prelude.{Option, Some, None}
use Rattle.bays.proofs.High.{high_is, high-found}
use Rattle.room.proofs.bay_end.Found.{zone-tiled, zone-high}
use Rattle.calls.specs.declared.Refusal.TheVariants.{TooLarge, NoSpace}
use Rattle.access.specs.Checked.{Opened}
use Rattle.access.specs.declared.opened.Zone.{Zone}
use Rattle.call_laws.specs.Frame.{zone_at, Does}
use Rattle.call_laws.specs.Refused.{Refuses}
use Rattle.call_laws.proofs.Refused.{zone-opened}
use Rattle.allocate.specs.fixed.Placed.{room, placed}
use Rattle.allocate.specs.fixed.Ready.{SiteOf, Ready}
use Rattle.allocate.specs.declared.fixed.Plan.{Plan}
use Rattle.allocate.proofs.fixed.Placed.{ask-sub, ask-end}
use Rattle.structure.specs.IsZone.{IsZone}

-- ---- the refusals

-- by whether c is small, and whether a bay reaches the need
number_of : (z : List ℕ) (c : ℕ) (t u : Bool) → leb c fixed_limit ≡ t → leb (fixed_need c) (max_s bay_sum (bays_of (decode_zone z))) ≡ u
    → (buf : ℕ) → refusal_of (allocate_fixed c) (facts true (zone_at buf z)) ≡ cond t (cond u 0 5) 3
number_of z c t u et eu buf = ap₂ (λ (a b : Bool). first order (cause 1 false ∷ cause 3 (not a) ∷ cause 5 (not b) ∷ [])) et eu ∙ go t u
  where
    go : (t u : Bool) → first order (cause 1 false ∷ cause 3 (not t) ∷ cause 5 (not u) ∷ []) ≡ cond t (cond u 0 5) 3
    go true true = refl
    go true false = refl
    go false u = refl

pub in-3 : (z : List ℕ) (c : ℕ) → fixed_limit < c → Refuses (allocate_fixed c) z TooLarge
in-3 z c l = record { number_is = number_of z c false _ (lt-leb c fixed_limit l) refl; beside_is = λ buf. refl }

-- ---- the bay

module _ (z : List ℕ) (i : IsZone z) (first : ℕ) (ef : first ≡ first_field z) (c need : ℕ) (l : c ≤ fixed_limit) (en : need ≡ fixed_need c)
    (o : Option Bay) (q : bay_found o ≡ high_bay need first (bays_at z first)) where
  abbrev d : Structure
  d = decode_zone z

  numbers : bay_found o ≡ high_bay need (start d) (bays_of (decode_zone z))
  numbers = zone-high z i first ef need _ q

  reach : (t : Bool) → (bay_found o).found ≡ t → leb (fixed_need c) (max_s bay_sum (bays_of (decode_zone z))) ≡ t
  reach t x = ap (λ (n : ℕ). leb n (max_s bay_sum (bays_of (decode_zone z)))) (sym en) ∙ sym (high_is need (start d) (bays_of (decode_zone z))) ∙ sym (ap (λ (n : BayN). n.found) numbers) ∙ x

  pub in-0 : (b : Bay) → o ≡ Some b → Ready z c (record { need = need; bay = b })
  in-0 b t =
      let e : bay_of b ≡ high_bay need (start d) (bays_of (decode_zone z)) = ap bay_found (sym t) ∙ numbers in
      record {
        need_is = en;
        passed = number_of z c true true (le-leb c fixed_limit l) (reach true (ap (λ (x : Option Bay). (bay_found x).found) t));
        site = record { zone = i; found = high-found need (len d) (take_high need) true b.start b.end b.sum b.tail refl (bays_of (decode_zone z)) (start d) (zone-tiled z i first ef) e; low = omega arith; four = omega arith; high = omega arith };
      }

  pub in-5 : o ≡ None → Refuses (allocate_fixed c) z NoSpace
  in-5 x = record { number_is = number_of z c true false (le-leb c fixed_limit l) (reach false (ap (λ (x : Option Bay). (bay_found x).found) x)); beside_is = λ buf. refl }

-- ---- the call

module _ (z : List ℕ) (c : ℕ) (p : Plan) (r : Ready z c p) where
  pub call-sub : p.need ≤ p.bay.end
  call-sub = ask-sub z p.need p.bay.start p.bay.end p.bay.sum p.bay.tail r.site

  pub call-word : Fits w32 (p.bay.end - p.need + fixed_header)
  call-word = record { fits = omega (arith, ask-end z p.need p.bay.start p.bay.end p.bay.sum p.bay.tail r.site) }

  does : (buf : ℕ) → Does (allocate_fixed c) buf z (told 0 (p.bay.end - p.need + fixed_header)) (placed p.need (decode_zone z))
  does buf = record {
    passed = r.passed buf;
    answer = ap (λ (n : ℕ). told 0 (pointer (room n (decode_zone z)).0)) (sym r.need_is) ∙ ap (λ (x : Fixed). told 0 (pointer x)) r.site.found.block;
    line = ap (λ (n : ℕ). placed n (decode_zone z)) (sym r.need_is);
  }

module _ (s : List ℕ) (z : Zone) (o : Opened s z) where
  -- the place is made in the buffer's bytes
  pub call-place : (c : ℕ) (p : Plan) → Ready z.bytes.now c p → SiteOf (take (length z.bytes.now) s) p
  call-place c p r = rw o.there r.site

  pub call-end : (c : ℕ) (p : Plan) → Ready z.bytes.now c p → (y : List ℕ) → ((i : ℕ) → Fits w8 (get_or s i 0)) → y ≡ encode (placed p.need (decode_zone (take (length z.bytes.now) s)))
      → result_of (told 0 (p.bay.end - p.need + fixed_header)) (y ++ drop (length z.bytes.now) s) ≡ call (allocate_fixed c) s
  call-end c p r y g q = zone-opened (allocate_fixed c) s z o g (does z.bytes.now c p r (length s)) tt refl y (rw o.there at q)
