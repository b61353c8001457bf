-- The bay that begins at an offset of a zone's bytes: what it holds, where it ends, and what its compaction leaves.
use Rattle.std.specs.Prelude.{◌≡◌, List, Bool, false, cond, not, ℕ, suc, ◌+◌, ◌<◌, ◌≤◌, eqb, ltb, length, drop}
use Rattle.block_type.specs.Limits.{smallest_block, longest_zone, fixed_code}
use Rattle.format.specs.WellFormed.{type_of, size_of}
use Rattle.calls.specs.Bays.{Bays, last, more}
use Rattle.calls.specs.State.{Fixed, fsize}
use Rattle.bay.specs.Bay.{Cell, bay_size, bay_sum, compact_bay}
use Rattle.bays.specs.Places.{bays_at}
use Rattle.slide.specs.ZoneBay.{ZoneBay, bay_cells, settled}

abbrev pub first_bay : Bays (List Cell) Fixed → List Cell
first_bay (last b) = b
first_bay (more b x s) = b

-- where the second one begins, or one more than n, the bytes' number
abbrev pub second_at : ℕ → Bays (List Cell) Fixed → ℕ
second_at n (last b) = suc n
second_at n (more b x s) = x.place + fsize x

-- of the bytes z from offset a on
unfoldable pub bay_from : List ℕ → ℕ → List Cell
bay_from z a = first_bay (bays_at z a)

unfoldable pub end_from : List ℕ → ℕ → ℕ
end_from z a = a + bay_size (bay_from z a)

unfoldable pub next_from : List ℕ → ℕ → ℕ
next_from z a = second_at (length z) (bays_at z a)

-- a bay that has come to `at` goes on there
unfoldable pub goes_on : List ℕ → ℕ → Bool
goes_on z at = cond (ltb at (length z)) (not (eqb (type_of (drop at z)) fixed_code)) false

-- where the next bay begins, behind a bay that ends at `at`
unfoldable pub next_after : List ℕ → ℕ → ℕ
next_after z at = cond (ltb at (length z)) (at + size_of (drop at z)) (at + 1)

-- at `at` a bay ends: a whole block stands there, or nothing
pub record Ended (z : List ℕ) (at : ℕ) : Type 0 where
  pub inside : at ≤ length z
  pub short : length z ≤ longest_zone
  pub fits : at + size_of (drop at z) ≤ length z
  pub block : at < length z → smallest_block ≤ size_of (drop at z)

pub record BayNext (z : List ℕ) (a : ℕ) : Type 0 where
  pub bay : ZoneBay z a (end_from z a)
  pub cells : bay_cells z a (end_from z a) ≡ bay_from z a
  pub stop : goes_on z (end_from z a) ≡ false
  pub after : next_after z (end_from z a) ≡ next_from z a
  pub ended : Ended z (end_from z a)

-- it has been compacted in z'
pub record BayCompacted (z : List ℕ) (a : ℕ) (z' : List ℕ) (sum next : ℕ) : Type 0 where
  pub bytes : z' ≡ settled z a (compact_bay (bay_from z a))
  pub sum_is : sum ≡ bay_sum (bay_from z a)
  pub next_is : next ≡ next_from z a
  pub forth : a < next
  pub near : next ≤ suc (length z)
