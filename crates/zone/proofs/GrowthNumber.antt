-- The refusal number of an allocation that finds the chain empty, by the header and by the free bytes that a walk meets.
use mathlib.Core.Path.{◌≡◌, refl, ap, ap₂, sym, ◌∙◌}
use mathlib.Core.Bool.{Bool, true, false, cond}
use mathlib.Core.List.{List}
use Prim.Native.Nat.{ℕ, zero, suc, ◌-◌, ◌≤◌, max}
use native.Mathlib.Omega.{arith}
use lib.Dec.{leb}
use borrow.Author.Tests.{leb-true, leb-false}
use Rattle.bigendian.specs.BigEndian.{Bytes}
use Rattle.block_type.specs.Limits.{reloc_limit, added_bytes}
use Rattle.format.specs.WellFormed.{masters_field, chain_field, well_formed}
use Rattle.calls.specs.Calls.{allocate_relocatable, Answer}
use Rattle.calls.specs.Bays.{Bays, last, more, max_s, max_less, first_s}
use Rattle.calls.specs.State.{Fixed}
use Rattle.calls.specs.Table.{refusal_of}
use Rattle.calls.proofs.Order.{empty_number, empty-number, large-number}
use Rattle.bay.specs.Bay.{Cell, bay_sum}
use Rattle.zone.specs.Work.{Zone, facts}
use Rattle.zone.specs.Call.{Result, zone_in}
use Rattle.zone.specs.Promise.{Promise}
use Rattle.zone.specs.Claim.{free_in}
use Rattle.zone.specs.Growth.{first_of, largest_of, sums_after, number_with}
use Rattle.zone.proofs.Keep.{Whole}
use Rattle.zone.proofs.Run.{Stored, call-worked, call-refused, well-whole, well-stored}
use Rattle.zone.proofs.Fields.{masters-read, none_free}
use Rattle.zone.proofs.MetBlocks.{sums_s, free_walk}

-- ---- the sums of the bays, as a list and as they are

first-sum : (s : Bays (List Cell) Fixed) → first_of (sums_s bay_sum s) ≡ bay_sum (first_s s)
first-sum (last b) = refl
first-sum (more b x s) = refl

pub largest-sum : (s : Bays (List Cell) Fixed) → largest_of (sums_s bay_sum s) ≡ max_s bay_sum s
largest-sum (last b) = omega arith
largest-sum (more b x s) = ap (max (bay_sum b)) (largest-sum s)

largest-after : (s : Bays (List Cell) Fixed) → largest_of (sums_after (sums_s bay_sum s)) ≡ max_less bay_sum added_bytes s
largest-after (last b) = omega arith
largest-after (more b x s) = ap (max (bay_sum b - added_bytes)) (largest-sum s)

-- ---- the number

-- an allocation tells its number
told : (c : ℕ) (bs after : List ℕ) (a : Answer) (z : Zone) → Whole z → Stored bs z → Promise (allocate_relocatable c) bs a after → a.number ≡ refusal_of (allocate_relocatable c) (facts true z)
told c bs after a z w s p = go (refusal_of (allocate_relocatable c) (facts true z)) refl
  where
    go : (n : ℕ) → refusal_of (allocate_relocatable c) (facts true z) ≡ n → a.number ≡ n
    go zero e = ap (λ (r : Result). r.answer.number) (p ∙ call-worked bs z w s (allocate_relocatable c) e)
    go (suc n) e = ap (λ (r : Result). r.answer.number) (p ∙ call-refused bs z w s (allocate_relocatable c) n e)

pub number : (c : ℕ) (bs after : List ℕ) (a : Answer) → Bytes bs → Promise (allocate_relocatable c) bs a after → well_formed bs ≡ true → chain_field bs ≡ 0
    → a.number ≡ number_with c bs
number c bs after a y p h f = told c bs after a (zone_in bs) w s p ∙ go (leb c reloc_limit) refl
  where
    w : Whole (zone_in bs)
    w = well-whole bs y h

    s : Stored bs (zone_in bs)
    s = well-stored bs y h

    small : c ≤ reloc_limit → refusal_of (allocate_relocatable c) (facts true (zone_in bs)) ≡ empty_number c (masters_field bs) (first_of (free_in bs)) (largest_of (sums_after (free_in bs)))
    small l =
        let u : Bays (List Cell) Fixed = (zone_in bs).bays in
        empty-number c (facts true (zone_in bs)) refl (none_free bs (zone_in bs) w s f) l
        ∙ ap (λ (m : ℕ). empty_number c m (bay_sum (first_s u)) (max_less bay_sum added_bytes u)) (sym (masters-read bs (zone_in bs) w s))
        ∙ ap₂ (empty_number c (masters_field bs)) (sym (first-sum u)) (sym (largest-after u))
        ∙ ap (λ (ns : List ℕ). empty_number c (masters_field bs) (first_of ns) (largest_of (sums_after ns))) (sym (free_walk bs (zone_in bs) w s))

    go : (t : Bool) → leb c reloc_limit ≡ t
        → refusal_of (allocate_relocatable c) (facts true (zone_in bs)) ≡ cond t (empty_number c (masters_field bs) (first_of (free_in bs)) (largest_of (sums_after (free_in bs)))) 3
    go true e = small (leb-true c reloc_limit e)
    go false e = large-number c (facts true (zone_in bs)) refl (leb-false c reloc_limit e)
