-- How often a number stands in a list.
use Rattle.std.specs.Prelude.{cond, List, [], ◌∷◌, ℕ, ◌+◌, eqb}

-- 1 where the two are the same, else 0
abbrev pub one : ℕ → ℕ → ℕ
one h k = cond (eqb h k) 1 0

unfoldable pub occurs : ℕ → List ℕ → ℕ
occurs h [] = 0
occurs h (k ∷ ks) = one h k + occurs h ks
