-- The plan of a growth: what is read of the first bay and of the bays behind it are the facts that the table asks for.
use mathlib.Core.Path.{◌≡◌, refl, sym, ap, ◌∙◌}
use mathlib.Core.Bool.{Bool, true, false, cond, ◌&&◌, ◌||◌}
use mathlib.Core.List.{List, [], ◌∷◌}
use Prim.Native.Nat.{ℕ, suc, ◌+◌, ◌-◌, ◌<◌, ◌≤◌, max}
use native.Mathlib.Omega.{arith}
use lib.Dec.{leb}
use lib.ListN.{length}
use borrow.Author.Tests.{le-leb, lt-leb, leb-true}
use Rattle.block_type.specs.Limits.{reloc_limit, reloc_need, most_masters, added_masters, added_bytes, first_at, masters_at}
use Rattle.bigendian.specs.BigEndian.{from_be, slice}
use Rattle.format.specs.WellFormed.{first_field, chain_field}
use Rattle.structure.specs.Structure.{Structure, count, decode_zone, head_of}
use Rattle.structure.specs.IsZone.{IsZone}
use Rattle.structure.proofs.Table.{count-is, start_is, head-is}
use Rattle.structure.proofs.Sound.{valid-zone}
use Rattle.structure.proofs.IsZone.{whole_of}
use Rattle.calls.specs.Bays.{Bays, first_s, max_s, max_less}
use Rattle.calls.specs.State.{Fixed}
use Rattle.calls.specs.Calls.{Call, allocate_relocatable}
use Rattle.calls.specs.Table.{refusal_of}
use Rattle.calls.proofs.Order.{empty_number, empty-number}
use Rattle.zone.specs.Work.{facts}
use Rattle.calls.proofs.Reach.{leb-max}
use Rattle.bay.specs.Bay.{Cell, bay_size, bay_sum}
use Rattle.bays.specs.Places.{bays_of, bays_at}
use Rattle.bays.specs.Read.{Cut, at_end, at_fixed, Read, Begins, next_in}
use Rattle.bays.proofs.Zone.{zone-bays}
use Rattle.room.specs.place.Room.{SiteN, low_site}
use Rattle.room.specs.place.Found.{site_found}
use Rattle.room.specs.declared.place.Site.{Site}
use Rattle.std.specs.Prelude.{Option, Some, None, is_some}
use Rattle.room.proofs.place.LowestRoom.{low-is}
use Rattle.room.proofs.place.Found.{found-some}
use Rattle.room.proofs.place.Placed.{head-low}
use Rattle.masters.specs.Grown.{front_of}
use Rattle.masters.proofs.Grown.{count-bays}
use Rattle.calls.specs.declared.Refusal.TheVariants.{NoFreeHandle, NoSpace}
use Rattle.call_laws.specs.Frame.{zone_at}
use Rattle.call_laws.specs.Refused.{Refuses}
use Rattle.allocate.specs.growth.Grows.{room_from, left_in, GrowsIn, ReadyIn}

-- ---- whether a sum reaches the need

module _ (z : List ℕ) (left need : ℕ) (o : Option ℕ) where
  pub room-left : need ≤ left → true ≡ room_from z left (next_in z o) need
  room-left l = sym (rw (le-leb need left l))

  pub room-none : left < need → o ≡ None → false ≡ room_from z left (next_in z o) need
  room-none l e = rw e (sym (rw (lt-leb need left l, lt-leb (suc (length z)) (length z) (omega arith))))

  pub room-found : left < need → (next : ℕ) → o ≡ Some next → Begins z o → (r : Option Site) → site_found r ≡ low_site need next (bays_at z next) → is_some r ≡ room_from z left (next_in z o) need
  room-found l next e b r q =
      let k = (rw e at b).1 in
      rw e (sym (found-some r) ∙ ap (λ (r : SiteN). r.found) q ∙ low-is need next (bays_at z next) ∙ sym (rw (lt-leb need left l, le-leb next (length z) k)))

-- ---- the first bay

module _ (z : List ℕ) (i : IsZone z) (first : ℕ) (ef : first ≡ first_field z) (end sum tail next : ℕ) (r : Read z first end sum tail next) where
  abbrev s : Structure
  s = decode_zone z

  bays-are : bays_at z first ≡ bays_of s
  bays-are = (zone-bays z i first ef).bays

  front-is : r.bay ≡ front_of s
  front-is = go r.between.cut
    where
      go : Cut z first next r.bay → r.bay ≡ front_of s
      go (at_end q _ _) = sym (ap first_s (sym bays-are ∙ q))
      go (at_fixed x q _ _ _) = sym (ap first_s (sym bays-are ∙ q))

  pub sum-front : sum ≡ bay_sum (front_of s)
  sum-front = r.sum_is ∙ ap bay_sum front-is

  pub room-is : (need : ℕ) → room_from z (sum - added_bytes) next need ≡ leb need (left_in s)
  room-is need = go r.between.cut
    where
      or-none : (t : Bool) → t || false ≡ t
      or-none true = refl
      or-none false = refl

      go : Cut z first next r.bay → room_from z (sum - added_bytes) next need ≡ leb need (left_in s)
      go (at_end q _ n) =
          ap (λ (u : Bool). leb need (sum - added_bytes) || (u && leb need (max_s bay_sum (bays_at z next)))) (lt-leb next (length z) (omega arith))
          ∙ or-none (leb need (sum - added_bytes))
          ∙ ap (λ (k : ℕ). leb need (k - added_bytes)) r.sum_is
          ∙ ap (λ (u : Bays (List Cell) Fixed). leb need (max_less bay_sum added_bytes u)) (sym q ∙ bays-are)
      go (at_fixed x q _ _ n) =
          ap (λ (u : Bool). leb need (sum - added_bytes) || (u && leb need (max_s bay_sum (bays_at z next)))) (le-leb next (length z) n)
          ∙ leb-max need (sum - added_bytes) (max_s bay_sum (bays_at z next))
          ∙ ap (λ (k : ℕ). leb need (max (k - added_bytes) (max_s bay_sum (bays_at z next)))) r.sum_is
          ∙ ap (λ (u : Bays (List Cell) Fixed). leb need (max_less bay_sum added_bytes u)) (sym q ∙ bays-are)

-- ---- the plan

-- a chain that begins with 0 is empty: no master lies there
pub no-chain : (z : List ℕ) → IsZone z → chain_field z ≡ 0 → (decode_zone z).chain ≡ []
no-chain z i ec = go (decode_zone z).chain refl
  where
    go : (ls : List ℕ) → (decode_zone z).chain ≡ ls → (decode_zone z).chain ≡ []
    go [] q = q
    go (g ∷ ls) q = let x : ⊥ = omega (arith, (head-low (decode_zone z) (valid-zone z (whole_of z i)) g ls q).0, head-is z (whole_of z i), ap head_of q, ec) in absurd x

module _ (z : List ℕ) (i : IsZone z) (c : ℕ) (l : c ≤ reloc_limit) (need : ℕ) (en : need ≡ reloc_need c) (ec : chain_field z ≡ 0) where
  abbrev st : Structure
  st = decode_zone z

  abbrev call : Call
  call = allocate_relocatable c

  -- the number, by the three tests
  number_of : {t u w : Bool} → leb (count st + added_masters) most_masters ≡ t → leb added_bytes (bay_sum (front_of st)) ≡ u → leb (reloc_need c) (left_in st) ≡ w
      → (buf : ℕ) → refusal_of (allocate_relocatable c) (facts true (zone_at buf z)) ≡ cond (t && u) (cond w 0 5) 4
  number_of p q r buf =
      empty-number c (facts true (zone_at buf z)) refl (no-chain z i ec) l
      ∙ ap (λ (m : ℕ). empty_number c m (bay_sum (front_of st)) (left_in st)) (count-bays st)
      ∙ (λ j. cond (p j && q j) (cond (r j) 0 5) 4)

  module _ (m : ℕ) (em : m ≡ from_be (slice z masters_at 4)) where
    count-m : count st ≡ m
    count-m = count-is z (whole_of z i) ∙ sym em

    -- too many masters
    pub grows-many : most_masters < m + added_masters → Refuses call z NoFreeHandle
    grows-many k = record { number_is = number_of (lt-leb (count st + added_masters) most_masters (omega (arith, count-m))) refl refl; beside_is = λ buf. refl }

    module _ (few : m + added_masters ≤ most_masters) (first : ℕ) (ef : first ≡ from_be (slice z first_at 4)) (end sum tail next : ℕ) (r : Read z first end sum tail next) where
      some : leb (count st + added_masters) most_masters ≡ true
      some = le-leb (count st + added_masters) most_masters (omega (arith, count-m))

      front-sum : sum ≡ bay_sum (front_of st)
      front-sum = sum-front z i first ef end sum tail next r

      -- too few free bytes
      pub grows_none : sum < added_bytes → Refuses call z NoFreeHandle
      grows_none k = record { number_is = number_of some (lt-leb added_bytes (bay_sum (front_of st)) (omega (arith, front-sum))) refl; beside_is = λ buf. refl }

      module _ (h : added_bytes ≤ sum) where
        enough : leb added_bytes (bay_sum (front_of st)) ≡ true
        enough = le-leb added_bytes (bay_sum (front_of st)) (omega (arith, front-sum))

        reach : (t : Bool) → t ≡ room_from z (sum - added_bytes) next need → leb (reloc_need c) (left_in st) ≡ t
        reach t et = ap (λ (k : ℕ). leb k (left_in st)) (sym en) ∙ sym (room-is z i first ef end sum tail next r need) ∙ sym et

        pub grows-no : (t : Bool) → t ≡ room_from z (sum - added_bytes) next need → t ≡ false → Refuses call z NoSpace
        grows-no t et f = record { number_is = number_of some enough (reach t et ∙ f); beside_is = λ buf. refl }

        pub grows-yes : (t : Bool) → t ≡ room_from z (sum - added_bytes) next need → t ≡ true → ReadyIn z c need (GrowsIn z need first end)
        grows-yes t et y = record {
          is_need = en;
          passed = number_of some enough (reach t et ∙ y);
          goes = record {
            growing = record {
              zone = i;
              none = no-chain z i ec;
              few = omega (arith, count-m);
              first_is = ef ∙ sym (start_is z (whole_of z i));
              end_is = r.between.end_is ∙ ap (λ (b : List Cell). first + bay_size b) (front-is z i first ef end sum tail next r);
              enough = omega (arith, front-sum);
            };
            size = record { low = omega arith; high = omega arith; four = omega arith };
            enough = leb-true need (left_in st) (ap (λ (k : ℕ). leb k (left_in st)) en ∙ reach t et ∙ y);
          };
        }
