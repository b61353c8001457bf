use Rattle.block_check.proofs.Leaves.{size-low, size-odd, size-over, rule-bad, rule-good}
use native.Mathlib.Omega.{arith}
use borrow.Author.Rules.{rules}
use Rattle.block_check.proofs.good_size.Goals.{else-n-ge-SMALLEST-via-then-n-ge-SMALLEST+then-n-eq0+then-n-z+else-rule_ok, else-n-ge-SMALLEST-via-then-n-ge-SMALLEST+then-n-eq0+else-n-z, else-n-ge-SMALLEST-via-then-n-ge-SMALLEST+else-n-eq0, else-n-ge-SMALLEST-via-else-n-ge-SMALLEST}
use Rattle.block_check.proofs.good_size.Goals as goal

pub rule_ok-requires : goal.rule_ok-requires
rule_ok-requires c = (search rules, omega arith, omega arith, omega arith, omega arith)

pub returns-then-rule_ok : goal.returns-then-rule_ok
returns-then-rule_ok c = search rule-good

pub returns : goal.returns
returns c =
    elim c.else-n-ge-SMALLEST.branch [
      | else-n-ge-SMALLEST-via-then-n-ge-SMALLEST+then-n-eq0+then-n-z+else-rule_ok w ↦ search rule-bad
      | else-n-ge-SMALLEST-via-then-n-ge-SMALLEST+then-n-eq0+else-n-z w ↦ search size-over
      | else-n-ge-SMALLEST-via-then-n-ge-SMALLEST+else-n-eq0 w ↦ search size-odd
      | else-n-ge-SMALLEST-via-else-n-ge-SMALLEST w ↦ search size-low
    ]
