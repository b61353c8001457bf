-- The plan in a zone: which cause refuses the call, or the lowest bay whose sum reaches the need, or the growth.
use mathlib.Core.Path.{◌≡◌, refl, sym, ap, ◌∙◌}
use mathlib.Core.Bool.{Bool, true, cond}
use mathlib.Core.List.{List, [], ◌∷◌}
use Prim.Native.Nat.{ℕ, ◌<◌, ◌≤◌}
use native.Mathlib.Omega.{arith}
use lib.Dec.{leb}
use Rattle.block_type.specs.Limits.{reloc_limit, reloc_need}
use Rattle.format.specs.WellFormed.{first_field, chain_field}
use Rattle.structure.specs.Structure.{head_of, decode_zone}
use Rattle.structure.proofs.Table.{head-is}
use Rattle.calls.specs.Calls.{allocate_relocatable}
use Rattle.calls.specs.Bays.{max_s}
use Rattle.calls.specs.Table.{refusal_of}
use Rattle.calls.proofs.Order.{large-number, free-number}
use Rattle.bay.specs.Bay.{bay_sum}
use Rattle.zone.specs.Work.{facts}
use Rattle.bays.specs.Places.{bays_of, bays_at}
use Rattle.room.specs.place.Room.{low_site}
use Rattle.room.specs.place.Found.{site_found}
use Rattle.room.specs.declared.place.Site.{Site}
use Rattle.room.proofs.place.Found.{reached, found}
use Rattle.std.specs.Prelude.{Option, Some, None}
use Rattle.calls.specs.declared.Refusal.TheVariants.{TooLarge, NoSpace}
use Rattle.call_laws.specs.Frame.{zone_at}
use Rattle.call_laws.specs.Refused.{Refuses}
use Rattle.allocate.specs.relocatable.Ready.{RoomAt, Going, Ready}
use Rattle.allocate.specs.declared.relocatable.Spot.{Spot}
use Rattle.allocate.specs.declared.relocatable.Plan.TheVariants.{InBay}
use Rattle.structure.specs.IsZone.{IsZone}
use Rattle.structure.proofs.IsZone.{whole_of}

pub in-3 : (z : List ℕ) (c : ℕ) → reloc_limit < c → Refuses (allocate_relocatable c) z TooLarge
in-3 z c l = record { number_is = λ buf. large-number c (facts true (zone_at buf z)) refl l; beside_is = λ buf. refl }

-- ---- the bay

module _ (z : List ℕ) (c : ℕ) (l : c ≤ reloc_limit) (i : IsZone z) (k : ℕ) (ek : k ≡ chain_field z) (k0 : k ≡ 0 → ⊥) (first : ℕ) (ef : first ≡ first_field z) where
  linked : (ks : List ℕ) × ((decode_zone z).chain ≡ k ∷ ks)
  linked = go (decode_zone z).chain refl
    where
      go : (ls : List ℕ) → (decode_zone z).chain ≡ ls → (ks : List ℕ) × ((decode_zone z).chain ≡ k ∷ ks)
      go [] q = absurd (k0 (ek ∙ sym (head-is z (whole_of z i)) ∙ ap head_of q))
      go (g ∷ ls) q = (ls, q ∙ ap (λ (m : ℕ). m ∷ ls) (sym (ek ∙ sym (head-is z (whole_of z i)) ∙ ap head_of q)))

  module _ (need : ℕ) (en : need ≡ reloc_need c) (r : Option Site) (q : site_found r ≡ low_site need first (bays_at z first)) where
    reach : leb (reloc_need c) (max_s bay_sum (bays_of (decode_zone z))) ≡ (site_found r).found
    reach = ap (λ (m : ℕ). leb m (max_s bay_sum (bays_of (decode_zone z)))) (sym en) ∙ reached z i first ef need r q

    -- the number, by whether a bay is found
    told : {u : Bool} → (site_found r).found ≡ u → (buf : ℕ) → refusal_of (allocate_relocatable c) (facts true (zone_at buf z)) ≡ cond u 0 5
    told y buf = free-number c k linked.0 (facts true (zone_at buf z)) refl linked.1 l ∙ ap (λ (u : Bool). cond u 0 5) (reach ∙ y)

    pub room-here : (p : Site) → r ≡ Some p → RoomAt z need k p
    room-here p y = record {
      zone = i;
      ks = linked.0;
      is_chain = linked.1;
      size = record { low = omega arith; high = omega arith; four = omega arith };
      lowest = found z i first ef need r q p y;
    }

    pub in-5 : r ≡ None → Refuses (allocate_relocatable c) z NoSpace
    in-5 y = record { number_is = told (ap (λ (o : Option Site). (site_found o).found) y); beside_is = λ buf. refl }

    pub in-0 : (x : Site) → r ≡ Some x → (p : Spot) → p.need ≡ need → Going z p → Ready z c (InBay p)
    in-0 x y p eq g = record { is_need = eq ∙ en; passed = told (ap (λ (o : Option Site). (site_found o).found) y); goes = g }
