-- What check answers is the answer of the definition.
use mathlib.Core.Path.{◌≡◌, ap, sym, ◌∙◌}
use mathlib.Core.Bool.{Bool, true, false, cond}
use mathlib.Core.List.{List}
use Prim.Native.Nat.{ℕ, ◌≤◌}
use native.Mathlib.Omega.{arith}
use lib.ListN.{length, get_or, drop}
use mir.Val.{Fits}
use mir.Syntax.{w8}
use Rattle.block_type.specs.Limits.{most_masters}
use Rattle.bigendian.specs.BigEndian.{Bytes}
use Rattle.format.specs.WellFormed.{well_formed, count_of, split_blocks, zone_of, first_field}
use Rattle.structure.specs.Structure.{Block, decode, decode_zone, start, handles_of}
use Rattle.structure.proofs.Table.{Whole, whole}
use Rattle.structure.proofs.Sound.{valid}
use Rattle.structure.proofs.Decoded.{counts-decs}
use Rattle.calls.specs.Bays.{Bays, sum_s}
use Rattle.calls.specs.State.{Fixed, listed}
use Rattle.bay.specs.Bay.{Cell, items}
use Rattle.zone.specs.Group.{group}
use Rattle.zone.proofs.GroupLaws.{flatten-group}
use Rattle.zone.proofs.Keep.{many-strip}
use Rattle.zone.specs.Call.{call}
use Rattle.access.proofs.Checked.{first_of}
use Rattle.calls.specs.Calls.{check, told_two}
use Rattle.zone_check.specs.Checked.{IsChecked}
use Rattle.zone_check.specs.declared.Checked.{Checked}

-- how many relocatable blocks the bays have
abbrev pub live_s : Bays (List Cell) Fixed → ℕ
live_s s = sum_s (λ (b : List Cell). length (listed (items b))) s

live-is : (p : ℕ) (bs : List Block) → length (handles_of bs) ≡ live_s (group p bs)
live-is p bs = ap (λ (b : List Block). length (handles_of b)) (sym (flatten-group p bs)) ∙ many-strip (group p bs)

-- the count of the check is the number of live handles
pub count-live : (s : List ℕ) → Bytes s → well_formed s ≡ true → count_of s ≡ live_s (group (start (decode s)) (decode s).blocks)
unfolding decode decode_zone count_of
count-live s y h =
    let z : List ℕ = zone_of s in
    let w : Whole z = whole s y h in
    rw (h, ← first_of s h) (sym (counts-decs z (first_field z) false (first_field z) (split_blocks (drop (first_field z) z)) w.parts.walk) ∙ live-is (start (decode_zone z)) _)

pub check-is : (s : List ℕ) (ok : Bool) (count : ℕ) → Bytes s → ok ≡ well_formed s → count ≡ count_of s → told_two 0 (cond ok 1 0) count ≡ (call check s).answer
unfolding count_of
check-is s true count y e k = rw (← e) (ap (told_two 0 1) (k ∙ count-live s y (sym e)))
check-is s false count y e k = rw (← e) (ap (told_two 0 0) (k ∙ (rw (← e))))

module _ (s : List ℕ) (y : Bytes s) (h : well_formed s ≡ true) where
  pub count-blocks : count_of s ≡ length (handles_of (decode s).blocks)
  count-blocks = count-live s y h ∙ sym (live-is (start (decode s)) (decode s).blocks)

  pub count-few : count_of s ≤ most_masters
  count-few = omega (arith, count-blocks, (valid s y h).few)

pub check-no : (s : List ℕ) → well_formed s ≡ false → told_two 0 0 0 ≡ (call check s).answer
check-no s e = rw e

pub check-yes : (s : List ℕ) (k : Checked) → ((i : ℕ) → Fits w8 (get_or s i 0)) → IsChecked 0 s k → told_two 0 1 k.count ≡ (call check s).answer
check-yes s k y i = check-is s true k.count (λ j. (y j).fits) (sym i.well) i.is_count
