-- For proofs: how many items pass a test.
use Rattle.std.specs.Prelude.{Bool, cond, List, [], ◌∷◌, ℕ, suc}
use Rattle.kinds.specs.Kinds.{Item}

abbrev pub count : (Item → Bool) → List Item → ℕ
count t [] = 0
count t (e ∷ es) = cond (t e) (suc (count t es)) (count t es)
