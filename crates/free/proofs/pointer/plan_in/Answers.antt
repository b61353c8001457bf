use native.Mathlib.Omega.{arith}
use Rattle.access.proofs.Checked.{by_type}
use Rattle.free.proofs.pointer.Laws.{in-low, in-high, in_end, in-other, stop-fits, in-0}
use borrow.Author.Rules.{rules}
use Rattle.free.proofs.pointer.plan_in.Goals as goal
use Rattle.free.proofs.pointer.plan_in.Goals.{then-place-lt-FIXED_HEADER-via-then-place-lt-FIXED_HEADER, then-place-lt-FIXED_HEADER-via-else-place-lt-FIXED_HEADER+then-z-place, then-z-stop-via-then-z-stop, then-z-stop-via-else-z-stop+then-not-is_pointer}

pub returns-then-place-lt-FIXED_HEADER-clause-err : goal.returns-then-place-lt-FIXED_HEADER-clause-err
returns-then-place-lt-FIXED_HEADER-clause-err c = elim c.then-place-lt-FIXED_HEADER.branch [
  | then-place-lt-FIXED_HEADER-via-then-place-lt-FIXED_HEADER w ↦ search (in-low, by_type, w.if-place-lt-FIXED_HEADER)
  | then-place-lt-FIXED_HEADER-via-else-place-lt-FIXED_HEADER+then-z-place w ↦ search (in-high, by_type, w.if-z-place)
]

pub walk_to-stop-requires : goal.walk_to-stop-requires
walk_to-stop-requires c = (search rules, search rules, omega arith)

pub returns-then-z-stop-clause-err : goal.returns-then-z-stop-clause-err
returns-then-z-stop-clause-err c = elim c.then-z-stop.branch [
  | then-z-stop-via-then-z-stop w ↦ search (in_end, by_type, w.if-z-stop)
  | then-z-stop-via-else-z-stop+then-not-is_pointer w ↦ search (in-other, by_type, w.is_pointer, w.if-z-stop, w.if-not-is_pointer)
]

pub is_pointer-requires : goal.is_pointer-requires
is_pointer-requires c = search stop-fits

pub find_extent-requires : goal.find_extent-requires
find_extent-requires c = (omega arith, search rules, search rules)

pub returns-clause-ok : goal.returns-clause-ok
returns-clause-ok c = search (in-0, by_type)
