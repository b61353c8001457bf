-- One walk over all blocks of a zone with the limit t: what each block adds to its bay's sum, were the unlocked pages of rank below it gone, and
-- the nearest limits at which other pages go.
use Rattle.std.specs.Prelude.{◌≡◌, ℕ, ◌+◌, ◌≤◌, min, max, cond, List, [], ◌∷◌, nat_lt}
use Rattle.kinds.specs.Kinds.{item_size}
use Rattle.bay.specs.Bay.{Cell, free, held}
use Rattle.structure.specs.Structure.{Block, cell, fixed}
use Rattle.turn.specs.Rank.{limit_range, goes, loose_rank}

abbrev pub part : ℕ → ℕ → Cell → ℕ
part clock t (free n) = n
part clock t (held e) = cond (goes clock t e) (item_size e) 0

-- `best` is the largest sum of the bays that the walk has passed, `sum` that of the bay it is in: both behind one block more
abbrev pub best_past : Block → ℕ → ℕ → ℕ
best_past (cell c) best sum = best
best_past (fixed d) best sum = max best sum

abbrev pub sum_past : ℕ → ℕ → Block → ℕ → ℕ
sum_past clock t (cell c) sum = sum + part clock t c
sum_past clock t (fixed d) sum = 0

-- of the pages that the walk has passed: `under` is the least limit with which the same go as with t, `over` the least with which more go, limit_range
-- where there is none: both behind one block more
abbrev pub under_past : ℕ → ℕ → Block → ℕ → ℕ
under_past clock t (cell (free n)) under = under
under_past clock t (cell (held e)) under = max under (cond (nat_lt (loose_rank clock e) t) (loose_rank clock e + 1) 0)
under_past clock t (fixed d) under = under

abbrev pub over_past : ℕ → ℕ → Block → ℕ → ℕ
over_past clock t (cell (free n)) over = over
over_past clock t (cell (held e)) over = min over (cond (nat_lt (loose_rank clock e) t) limit_range (loose_rank clock e + 1))
over_past clock t (fixed d) over = over

-- both behind all blocks
abbrev pub unders : ℕ → ℕ → ℕ → List Block → ℕ
unders clock t under [] = under
unders clock t under (b ∷ bs) = unders clock t (under_past clock t b under) bs

abbrev pub overs : ℕ → ℕ → ℕ → List Block → ℕ
overs clock t over [] = over
overs clock t over (b ∷ bs) = overs clock t (over_past clock t b over) bs

pub record Past (clock t : ℕ) (b : Block) (n best sum under over best' sum' under' over' : ℕ) : Type 0 where
  pub best_is : best' ≡ best_past b best sum
  pub sum_is : sum' ≡ sum_past clock t b sum
  pub small : sum' ≤ sum + n
  pub under_is : under' ≡ under_past clock t b under
  pub over_is : over' ≡ over_past clock t b over
