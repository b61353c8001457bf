-- The limits that the code goes by.
use Rattle.std.specs.Prelude.{◌≡◌, true, List, ℕ}
use Rattle.block_type.specs.Limits.{strata}
use Rattle.calls.specs.LentLimits.{limits_in, lent_ok}
use Rattle.zone.specs.Census.{lower_limits, limits_of}
use Rattle.inspect.specs.declared.strata.Limits.{Limits}
use Rattle.inspect.specs.declared.strata.Limits.TheVariants.{Formula, Lent}

-- the formula's, or those that are lent
abbrev pub limits_by : Limits → List ℕ
limits_by Formula = lower_limits
limits_by (Lent l) = limits_in strata l.bytes.now

-- what is lent is within the rules, and these limits are its
pub record Lends (lent : List ℕ) (l : Limits) : Type 0 where
  pub ok : lent_ok lent ≡ true
  pub same : limits_by l ≡ limits_of lent
