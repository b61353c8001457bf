-- More masters: what `specs/Growth` says holds; here, that any other call leaves their number.
use mathlib.Core.Path.{◌≡◌, refl, ap, ◌∙◌}
use mathlib.Core.Bool.{Bool, true, false, cond}
use mathlib.Core.List.{List}
use Prim.Native.Nat.{ℕ}
use lib.Dec.{eqb}
use Rattle.bigendian.specs.BigEndian.{Bytes}
use Rattle.format.specs.WellFormed.{masters_field, chain_field, well_formed}
use Rattle.structure.specs.Structure.{decode, head_of}
use Rattle.calls.specs.Calls.{Call, allocate_relocatable, Answer, beside, Given, told}
use Rattle.bay.proofs.Each.{cond-one}
use Rattle.zone.specs.Work.{Zone, work}
use Rattle.zone.specs.Call.{Result, zone_in, result_of, outcome, number_of, call}
use Rattle.zone.specs.Promise.{Promise}
use Rattle.zone.specs.Growth.{GrowthSays}
use Rattle.zone.proofs.Keep.{Whole}
use Rattle.zone.proofs.Run.{Stored, well-whole, well-stored}
use Rattle.zone.proofs.Fields.{chain-read}
use Rattle.zone.proofs.Chain.{next-masters}
use Rattle.zone.proofs.GrowthNumber.{number}
use Rattle.zone.proofs.Grew.{grew}

-- bytes that are no zone stay
ill-stays : (c : Call) (bs : List ℕ) → well_formed bs ≡ false → (call c bs).bytes ≡ bs
ill-stays c bs i =
    cond-one (λ (r : Result). r.bytes) (eqb (number_of c bs) 0)
    (ap (λ (t : Bool). (cond t (outcome bs (decode bs) (work c (zone_in bs))) (result_of (told 0 0) bs)).bytes) i)
    refl

stays : (c : Call) (bs after : List ℕ) (a : Answer) → Bytes bs → Given (beside c) → Promise c bs a after
    → ((k : ℕ) → c ≡ allocate_relocatable k → chain_field bs ≡ 0 → a.number ≡ 0 → ⊥) → masters_field after ≡ masters_field bs
stays c bs after a y b p f = go (well_formed bs) refl
  where
    go : (t : Bool) → well_formed bs ≡ t → masters_field after ≡ masters_field bs
    go true i =
        let z : Zone = zone_in bs in
        let w : Whole z = well-whole bs y i in
        let s : Stored bs z = well-stored bs y i in
        next-masters c z b w s p (λ k q o d. f k q (chain-read bs z w s ∙ ap head_of o) d)
    go false i = ap masters_field (ap (λ (r : Result). r.bytes) p ∙ ill-stays c bs i)

pub growth-says : GrowthSays
growth-says = record { number = number; grew = grew; stays = stays }
