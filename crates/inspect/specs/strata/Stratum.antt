-- Which stratum of any limits a size lies in.
use Rattle.std.specs.Prelude.{List, ℕ, suc, ◌≤◌, ◌<◌, length, get_or}

-- w words reach the limit i, and not the next one
pub record InStratum (limits : List ℕ) (w i : ℕ) : Type 0 where
  pub within : i < length limits
  pub low : get_or limits i 0 ≤ w
  pub high : suc i < length limits → w < get_or limits (suc i) 0
