-- How C names a block.
use Rattle.std.specs.Prelude.{cond, ℕ, eqb}
use Rattle.calls.specs.Calls.{Target, by_handle, by_pointer, by_name}

-- by 0 a number is a handle, by 2 a page's name, by every other a pointer
abbrev pub named : ℕ → ℕ → Target
named by n = cond (eqb by 0) (by_handle n) (cond (eqb by 2) (by_name n) (by_pointer n))
