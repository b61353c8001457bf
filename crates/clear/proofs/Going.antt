-- A clearing under way: what is true of the zone before each turn of the walk, and after the last.
use mathlib.Core.Path.{◌≡◌, refl, sym, ap, ◌∙◌, subst}
use mathlib.Core.Bool.{Bool, true, false, cond}
use mathlib.Core.List.{List, [], ◌++◌, append_assoc, append-nil}
use Prim.Native.Nat.{ℕ, ◌+◌, ◌≤◌}
use native.Mathlib.Nat.{add-zero}
use native.Mathlib.Omega.{arith}
use lib.ListN.{length, drop}
use Rattle.format.specs.WellFormed.{is_free, first_field}
use Rattle.kinds.specs.Kinds.{Item}
use Rattle.structure.specs.Structure.{Block, Structure, sizes, start, encode, decode_zone}
use Rattle.structure.specs.IsZone.{IsZone}
use Rattle.structure.proofs.IsZone.{whole_of}
use Rattle.structure.proofs.Append.{sizes-append}
use Rattle.structure.proofs.Cells.{gap-sizes}
use Rattle.structure.proofs.Sound.{valid-zone}
use Rattle.structure.proofs.Table.{encode-zone, start_is}
use Rattle.access.specs.row.Row.{Row, blocks_of}
use Rattle.access.proofs.row.Laws.{row-end}
use Rattle.access.proofs.row.Zone.{blocks-are}
use Rattle.settle.specs.surgery.Bays.{last_free}
use Rattle.free_block.specs.Around.{last_part}
use Rattle.turn.specs.Rank.{goes}
use Rattle.clear.specs.Cleared.{cleared}
use Rattle.clear.proofs.Flat.{clear_b, clear-is, Kept, kept_append, kept-gap, clear_kept}
use Rattle.clear.proofs.Gap.{gap_cells}
use Rattle.clear.proofs.Stands.{stands-row}

-- s₀ is to be cleared of what passes the test. The walk is at `at`, behind the blocks `low`, of which none is left to go and the last is not free, and behind
-- k free bytes; prev is where those begin. What is left to be cleared gives what s₀ gives
pub record Under (ok : Item → Bool) (s₀ : Structure) (z : List ℕ) (prev at : ℕ) : Type 0 where
  pub zone : IsZone z
  pub clock-is : (decode_zone z).clock ≡ s₀.clock
  pub chain-is : (decode_zone z).chain ≡ s₀.chain
  pub low : List Block
  pub k : ℕ
  pub parts : (decode_zone z).blocks ≡ low ++ (gap_cells k ++ blocks_of (drop at z))
  pub place : at ≡ start (decode_zone z) + (sizes low + k)
  pub used : last_part 0 low ≡ 0
  pub last : last_free false low ≡ false
  pub kept : Kept ok low
  pub before : cond (is_free (drop prev z)) prev at + k ≡ at
  pub same : clear_b ok (decode_zone z).blocks ≡ clear_b ok s₀.blocks

-- the same for the pages of rank below t. A data type, so that a search does not go into the facts
pub data Going (clock t : ℕ) (s₀ : Structure) (z : List ℕ) (prev at : ℕ) : Type 0 where
  under-way : Under (goes clock t) s₀ z prev at → Going clock t s₀ z prev at

pub under : {clock t : ℕ} {s₀ : Structure} {z : List ℕ} {prev at : ℕ} → Going clock t s₀ z prev at → Under (goes clock t) s₀ z prev at
under (under-way u) = u

same-either : (t : Bool) (a : ℕ) → cond t a a + 0 ≡ a
same-either true a = add-zero a
same-either false a = add-zero a

pub going_start : (clock t : ℕ) (z : List ℕ) (first : ℕ) → IsZone z → first ≡ first_field z → Going clock t (decode_zone z) z first first
unfolding sizes
going_start clock t z first i e = under-way (record {
  zone = i;
  clock-is = refl;
  chain-is = refl;
  low = [];
  k = 0;
  parts = sym (blocks-are z first e);
  place = omega (arith, e, start_is z (whole_of z i));
  used = refl;
  last = refl;
  kept = tt;
  before = same-either (is_free (drop first z)) first;
  same = refl;
})

module _ {ok : Item → Bool} {s₀ : Structure} {z : List ℕ} {prev at : ℕ} (u : Under ok s₀ z prev at) where
  passed : (decode_zone z).blocks ≡ (u.low ++ gap_cells u.k) ++ blocks_of (drop at z)
  passed = u.parts ∙ sym (append_assoc u.low (gap_cells u.k) (blocks_of (drop at z)))

  passed-place : at ≡ start (decode_zone z) + sizes (u.low ++ gap_cells u.k)
  passed-place = omega (arith, u.place, sizes-append u.low (gap_cells u.k), gap-sizes u.k)

  pub under-row : Row (drop at z)
  under-row = stands-row z u.zone (u.low ++ gap_cells u.k) (blocks_of (drop at z)) passed at passed-place

  -- all blocks are behind
  pub under-done : length z ≤ at → (decode_zone z).blocks ≡ clear_b ok s₀.blocks
  under-done l =
      let e : (decode_zone z).blocks ≡ u.low ++ gap_cells u.k = passed ∙ ap ((u.low ++ gap_cells u.k) ++◌) (row-end z at l) ∙ append-nil (u.low ++ gap_cells u.k) in
      let t = (valid-zone z (whole_of z u.zone)).tiled in
      let y : Kept ok (decode_zone z).blocks = subst (Kept ok) (sym e) (kept_append ok u.low (gap_cells u.k) u.kept (kept-gap ok u.k)) in
      sym (clear_kept ok false (decode_zone z).blocks t y) ∙ u.same

pub going-row : (clock t : ℕ) (s₀ : Structure) (z : List ℕ) (prev at : ℕ) → Going clock t s₀ z prev at → Row (drop at z)
going-row clock t s₀ z prev at g = under-row (under g)

pub going_end : (clock t : ℕ) (s₀ : Structure) (z : List ℕ) (prev at : ℕ) → Going clock t s₀ z prev at → length z ≤ at → z ≡ encode (cleared clock t s₀)
going_end clock t s₀ z prev at g l =
    let u = under g in
    let b : (decode_zone z).blocks ≡ (cleared clock t s₀).blocks = under-done u l ∙ sym (clear-is (goes clock t) (start s₀) s₀.blocks) in
    sym (encode-zone z (whole_of z u.zone)) ∙ (λ i. encode (record { clock = u.clock-is i; chain = u.chain-is i; blocks = b i }))
