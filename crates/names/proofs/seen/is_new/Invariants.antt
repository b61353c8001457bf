use mathlib.Core.Path.{◌≡◌}
use Prim.Native.Nat.{◌≤◌}
use lib.ListN.{length}
use Rattle.names.specs.Seen.{table_size, Past}
use Rattle.names.proofs.seen.is_new.Given as goal

abbrev pub invariant-loop-p : goal.invariant-loop-p
invariant-loop-p l = (length l.table ≡ length l.initial.table) × (table_size ≤ length l.table) × (l.table ≡ l.initial.table) × Past l.table l.home l.p l.print
