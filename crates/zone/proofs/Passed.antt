-- What the table lets through: no cause of a call that nothing refuses holds, and an allocation that finds the chain empty can have more masters.
use mathlib.Core.Path.{◌≡◌, refl, ap, sym, ◌∙◌}
use mathlib.Core.Bool.{Bool, true, false, ◌&&◌, ◌||◌}
use mathlib.Core.List.{List, []}
use Prim.Native.Nat.{ℕ, ◌+◌, ◌≤◌}
use lib.Dec.{leb}
use borrow.Author.Tests.{leb-true, not-false}
use Rattle.block_type.specs.Limits.{most_masters, added_masters, added_bytes}
use Rattle.calls.specs.Calls.{Call, allocate_relocatable}
use Rattle.calls.specs.Bays.{first_s}
use Rattle.calls.specs.State.{master_count}
use Rattle.calls.specs.Table.{below, is_empty, causes, holds_in, order, refusal_of}
use Rattle.calls.proofs.First.{among, clear, or_left, or_right}
use Rattle.bay.specs.Bay.{bay_sum, items}
use Rattle.zone.specs.Work.{Zone, facts}

-- the cause of number n does not hold
abbrev pub passed : (c : Call) (z : Zone) → refusal_of c (facts true z) ≡ 0 → (n : ℕ) → among n order ≡ true → holds_in n (causes c (facts true z)) ≡ false
passed c z e n m = clear (causes c (facts true z)) n m e

pub not-below : (a n : ℕ) → below a n ≡ false → n ≤ a
not-below a n e = leb-true n a (not-false (leb n a) e)

-- more masters
pub record Grows (z : Zone) : Type 0 where
  pub few : master_count items z + added_masters ≤ most_masters
  pub room : added_bytes ≤ bay_sum (first_s z.bays)

pub grows : (c : ℕ) (z : Zone) → refusal_of (allocate_relocatable c) (facts true z) ≡ 0 → z.chain ≡ [] → Grows z
grows c z e none =
    let a : Bool = below most_masters (master_count items z + added_masters) in
    let b : Bool = below (bay_sum (first_s z.bays)) added_bytes in
    let k : is_empty z.chain && (a || b) ≡ false = or_left _ _ (passed (allocate_relocatable c) z e 4 refl) in
    let q : a || b ≡ false = ap (λ (hs : List ℕ). is_empty hs && (a || b)) (sym none) ∙ k in
    record { few = not-below _ _ (or_left a b q); room = not-below _ _ (or_right a b q) }
