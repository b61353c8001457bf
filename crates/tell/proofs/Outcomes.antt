-- What the answers of sum, length and check say.
use mathlib.Core.Path.{◌≡◌, refl, ap, ap₂, sym, ◌∙◌}
use mathlib.Core.Bool.{Bool, true, false, cond}
use mathlib.Core.List.{List, [], ◌∷◌}
use Prim.Native.Nat.{ℕ, zero, suc, ◌+◌, ◌%◌, ◌≤◌, max}
use native.Mathlib.Omega.{arith}
use lib.Dec.{eqb-suc-zero}
use lib.ListN.{length}
use Rattle.block_type.specs.Limits.{most_masters}
use Rattle.bigendian.specs.BigEndian.{Bytes}
use Rattle.format.specs.WellFormed.{well_formed}
use Rattle.structure.specs.Structure.{decode, start}
use Rattle.calls.specs.Bays.{Bays, last, more, sum_s, max_s}
use Rattle.zone.specs.Call.{zone_in, in_line, number_of, replacing, call_with, result_of, call}
use Rattle.calls.specs.State.{Fixed}
use Rattle.zone.specs.Promise.{Promise}
use Rattle.zone.proofs.Run.{same_bytes, well-whole, well-stored}
use Rattle.zone.specs.Claim.{free_in}
use Rattle.zone.proofs.MetBlocks.{sums_s, free_walk}
use Rattle.zone.specs.Group.{group}
use Rattle.zone.specs.Work.{Zone, work}
use Rattle.bay.specs.Bay.{bay_sum}
use Rattle.calls.specs.Calls.{Call, Answer, sums, length_of, check}
use Rattle.access.proofs.Checked.{fields-of, length-is}
use Rattle.tell.proofs.CheckLaws.{count-live, count-few}

most-total : {B F : Type 0} (μ : B → ℕ) (s : Bays B F) → max_s μ s ≤ sum_s μ s
most-total μ (last b) = omega arith
most-total μ (more b x s) = omega (arith, most-total μ s)

-- ---- what each tells

-- "The check says yes exactly when the bytes are a well-formed zone"
pub check-says : (s : List ℕ) → (call check s).answer.value ≡ cond (well_formed s) 1 0
check-says s = go (well_formed s) refl
  where
    go : (t : Bool) → well_formed s ≡ t → (call check s).answer.value ≡ cond (well_formed s) 1 0
    go true h = rw h
    go false h = rw h

pub total_of : List ℕ → ℕ
total_of [] = 0
total_of (n ∷ ns) = n + total_of ns

pub most_of : List ℕ → ℕ
most_of [] = 0
most_of (n ∷ ns) = max n (most_of ns)

total-list : {B : Type 0} (μ : B → ℕ) (s : Bays B Fixed) → sum_s μ s ≡ total_of (sums_s μ s)
unfolding total_of
total-list μ (last b) = omega arith
total-list μ (more b x s) = ap (μ b +◌) (total-list μ s)

most-list : {B : Type 0} (μ : B → ℕ) (s : Bays B Fixed) → max_s μ s ≡ most_of (sums_s μ s)
unfolding most_of
most-list μ (last b) = omega arith
most-list μ (more b x s) = ap (max (μ b)) (most-list μ s)

-- sum: the total and the largest of the free bytes that a walk through the zone meets between fixed blocks
pub sum-says : (s : List ℕ) → Bytes s → well_formed s ≡ true → ((call sums s).answer.value ≡ total_of (free_in s)) × ((call sums s).answer.second ≡ most_of (free_in s))
sum-says s y h =
    let b = group (start (decode s)) (decode s).blocks in
    let w = free_walk s (zone_in s) (well-whole s y h) (well-stored s y h) in
    (rw h (total-list bay_sum b ∙ ap total_of (sym w)), rw h (most-list bay_sum b ∙ ap most_of (sym w)))

-- no bay has more free bytes than the zone
pub largest-total : (s : List ℕ) → (call sums s).answer.second ≤ (call sums s).answer.value
largest-total s = go (well_formed s) refl
  where
    go : (t : Bool) → well_formed s ≡ t → (call sums s).answer.second ≤ (call sums s).answer.value
    go true h = rw h (most-total bay_sum (group (start (decode s)) (decode s).blocks))
    go false h = rw h (omega arith)

-- the length of a zone is a multiple of 4 and within the buffer
pub length-within : (s : List ℕ) → Bytes s → ((call length_of s).answer.value ≤ length s) × ((call length_of s).answer.value % 4 ≡ 0)
length-within s y = go (well_formed s) refl
  where
    go : (t : Bool) → well_formed s ≡ t → ((call length_of s).answer.value ≤ length s) × ((call length_of s).answer.value % 4 ≡ 0)
    go true h = let f = fields-of s h in let e = length-is s y h in (rw h (omega arith), rw h (omega arith))
    go false h = (rw h (omega arith), rw h refl)

-- no more handles are live than a zone can have masters
pub check-few : (s : List ℕ) → Bytes s → (call check s).answer.second ≤ most_masters
check-few s y = go (well_formed s) refl
  where
    go : (t : Bool) → well_formed s ≡ t → (call check s).answer.second ≤ most_masters
    go true h = rw h (omega (arith, count-live s y h, count-few s y h))
    go false h = rw h (omega arith)

-- ---- no byte of the buffer changes

pub unchanged : (c : Call) (s : List ℕ) → Bytes s → (work c (zone_in s)).next ≡ zone_in s → (call c s).bytes ≡ s
unchanged c s y e = go (number_of c s) (well_formed s) refl
  where
    go : (n : ℕ) (t : Bool) → well_formed s ≡ t → (call_with n c s).bytes ≡ s
    go (suc n) t h = rw (eqb-suc-zero n)
    go zero true h = rw h (ap (λ (z : Zone). replacing s (decode s) (in_line z)) e ∙ same_bytes s y h)
    go zero false h = rw h

-- an answer that is the definition's, of a call that changes no byte, is what the call promises
pub promised : (c : Call) (s : List ℕ) (a : Answer) → a ≡ (call c s).answer → (call c s).bytes ≡ s → Promise c s a s
promised c s a e b = ap₂ result_of e (sym b)
