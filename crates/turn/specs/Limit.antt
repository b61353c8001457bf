-- The least limit: the pages of lesser rank are enough, and those below a lesser limit are not.
use Rattle.std.specs.Prelude.{◌≡◌, ℕ, ◌-◌, ◌*◌, ◌<◌, ◌≤◌, List}
use Rattle.calls.specs.Bays.{Bays}
use Rattle.calls.specs.State.{Fixed}
use Rattle.calls.specs.Pages.{sum_without}
use Rattle.bay.specs.Bay.{Cell, items, bay_sum}
use Rattle.zone.specs.Group.{flatten}
use Rattle.turn.specs.Rank.{rank_range, limit_range, goes}
use Rattle.turn.specs.Walk.{unders, overs}

-- the largest sum of a bay, were the unlocked pages of rank below the limit t gone
abbrev pub sum_below : ℕ → ℕ → Bays (List Cell) Fixed → ℕ
sum_below clock t s = sum_without items bay_sum (goes clock t) s

-- what a walk with the limit t tells: that sum, the least limit with which the same pages go, up to t, and the least with which more go, above t
pub record Weighed (clock t : ℕ) (s : Bays (List Cell) Fixed) (sum under over : ℕ) : Type 0 where
  pub sum_is : sum ≡ sum_below clock t s
  pub under_is : under ≡ unders clock t 0 (flatten s)
  pub over_is : over ≡ overs clock t limit_range (flatten s)
  pub same : sum_below clock under s ≡ sum_below clock t s
  pub to : under ≤ t
  pub next : (u : ℕ) → u < over → sum_below clock u s ≤ sum_below clock t s
  pub past : t < over

pub record Least (clock need t : ℕ) (s : Bays (List Cell) Fixed) : Type 0 where
  pub enough : need ≤ sum_below clock t s
  pub less : (u : ℕ) → u < t → sum_below clock u s < need
  pub top : t ≤ rank_range

-- it lies between these two
pub record Between (clock need low high : ℕ) (s : Bays (List Cell) Fixed) : Type 0 where
  pub enough : need ≤ sum_below clock high s
  pub less : (u : ℕ) → u < low → sum_below clock u s < need
  pub order : low ≤ high
  pub top : high ≤ rank_range

-- and between two that are at most half as far from each other
pub record Nearer (clock need low high low' high' : ℕ) (s : Bays (List Cell) Fixed) : Type 0 where
  pub between : Between clock need low' high' s
  pub near : 2 * (high' - low') ≤ high - low
