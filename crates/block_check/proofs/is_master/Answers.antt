use Rattle.std.proofs.Common.{sym, ◌∙◌}
use native.Mathlib.Omega.{arith}
use borrow.Author.Tests.{leb-true}
use Rattle.block_type.specs.Limits.{zone_header}
use Rattle.block_check.proofs.Leaves.{master-law, master-past, master-before}
use Rattle.block_check.proofs.is_master.Goals.{then-h-ge-ZONE_HEADER, else-h-ge-ZONE_HEADER}
use Rattle.block_check.proofs.is_master.Goals as goal

pub returns-then-h-first : goal.returns-then-h-first
returns-then-h-first c =
    elim c.if-h-ge-ZONE_HEADER.branch [ then-h-ge-ZONE_HEADER w ↦ search master-law | else-h-ge-ZONE_HEADER w ↦ let x : ⊥ = omega (arith, leb-true zone_header c.args.h (sym w.value-is ∙ c.if-h-first.true)) in absurd x ]

pub returns-else-h-first : goal.returns-else-h-first
returns-else-h-first c = elim c.if-h-ge-ZONE_HEADER.branch [ then-h-ge-ZONE_HEADER w ↦ search master-past | else-h-ge-ZONE_HEADER w ↦ search master-before ]
