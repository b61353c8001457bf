-- What is known of a header that has passed its test.
use Rattle.std.specs.Prelude.{◌≡◌, true, List, ℕ, ◌<◌}
use Rattle.block_type.specs.Limits.{argument_range}
use Rattle.format.specs.WellFormed.{header_ok}
use Rattle.format.specs.Steps.{Fields}
use Rattle.zone_check.specs.declared.Header.{Header}

pub record IsHeader (s : List ℕ) (h : Header) : Type 0 where
  pub is_ok : header_ok s ≡ true
  pub fields : Fields s h.len h.first h.masters h.chain
  pub chain : h.chain < argument_range
