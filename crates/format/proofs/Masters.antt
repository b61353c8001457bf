-- What the test of a master's offset says.
use mathlib.Core.Path.{◌≡◌}
use mathlib.Core.Bool.{true, ◌&&◌}
use Prim.Native.Nat.{ℕ, ◌+◌, ◌%◌, ◌≤◌}
use lib.Dec.{leb}
use borrow.Author.Tests.{leb-true, eqb-true}
use Rattle.block_type.specs.Limits.{zone_header, master_size}
use Rattle.format.proofs.Bool.{and_left, and_right}
use Rattle.format.specs.WellFormed.{is_master}

-- what a master's offset is
pub record Master (first h : ℕ) : Type 0 where
  pub low : zone_header ≤ h
  pub fits : h + master_size ≤ first
  pub four : h % 4 ≡ 0

pub is-master : (first h : ℕ) → is_master first h ≡ true → Master first h
unfolding is_master
is-master first h q =
    let q₁ = and_left (leb zone_header h && leb (h + master_size) first) _ q in
    record {
      low = leb-true zone_header h (and_left _ _ q₁);
      fits = leb-true (h + master_size) first (and_right (leb zone_header h) _ q₁);
      four = eqb-true (h % 4) 0 (and_right (leb zone_header h && leb (h + master_size) first) _ q);
    }
