-- The total and the largest of the bays' sums.
use Rattle.std.specs.Prelude.{◌≡◌, List, ℕ}
use Rattle.format.specs.WellFormed.{first_field}
use Rattle.calls.specs.Bays.{sum_s, max_s}
use Rattle.bay.specs.Bay.{bay_sum}
use Rattle.bays.specs.Places.{bays_at}
use Rattle.tell.specs.declared.Sums.{Sums}

-- the sums of the bays from offset first on
pub record SumsFrom (z : List ℕ) (first : ℕ) (t : Sums) : Type 0 where
  pub total_is : t.total ≡ sum_s bay_sum (bays_at z first)
  pub largest_is : t.largest ≡ max_s bay_sum (bays_at z first)

-- the sums of a zone, with no bytes beyond its length
abbrev pub SumsIn : List ℕ → Sums → Type 0
SumsIn z t = SumsFrom z (first_field z) t
