-- "greatest age first, smaller name among equals" (document 02, U5) as one number: of two pages the one of lesser rank goes first.
use Rattle.std.specs.Prelude.{ℕ, ◌+◌, ◌-◌, ◌*◌, min, Bool, false, cond, not, ◌&&◌, List, [], ◌∷◌, nat_lt, Option, Some, None}
use Rattle.block_type.specs.Limits.{stamp_range, argument_range}
use Rattle.kinds.specs.Kinds.{Status, Key, of_handle, of_name, Item}
use Rattle.calls.specs.Pages.{age}
use Rattle.bay.specs.Bay.{free, held}
use Rattle.structure.specs.Structure.{Block, cell, fixed}
use Rattle.turn.specs.declared.rank.Ranked.{Ranked}

-- every rank is below
abbrev pub rank_range : ℕ
rank_range = stamp_range * argument_range

-- every limit is below: the pages that go are the unlocked ones of rank below a limit
abbrev pub limit_range : ℕ
limit_range = rank_range + 1

abbrev pub rank : ℕ → ℕ → Status → ℕ
rank clock n s = (stamp_range - 1 - age clock s) * argument_range + n

-- whether it is an unlocked page of rank below the limit t
abbrev pub key_below : ℕ → ℕ → Key → Bool
key_below clock t (of_handle h) = false
key_below clock t (of_name n s) = not s.lock && nat_lt (rank clock n s) t

abbrev pub goes : ℕ → ℕ → Item → Bool
goes clock t e = key_below clock t e.key

-- of any block
abbrev pub goes_b : ℕ → ℕ → Block → Bool
goes_b clock t (cell (free n)) = false
goes_b clock t (cell (held e)) = goes clock t e
goes_b clock t (fixed d) = false

-- the rank of an unlocked page, rank_range of any other block
abbrev pub key_loose_rank : ℕ → Key → ℕ
key_loose_rank clock (of_handle h) = rank_range
key_loose_rank clock (of_name n s) = cond s.lock rank_range (rank clock n s)

abbrev pub loose_rank : ℕ → Item → ℕ
loose_rank clock e = key_loose_rank clock e.key

-- ---- the dirty ones

-- the rank of an unlocked dirty page, rank_range of any other block
abbrev pub key_dirty_rank : ℕ → Key → ℕ
key_dirty_rank clock (of_handle h) = rank_range
key_dirty_rank clock (of_name n s) = cond (not s.lock && s.dirty) (rank clock n s) rank_range

abbrev pub dirty_rank_b : ℕ → Block → ℕ
dirty_rank_b clock (cell (free n)) = rank_range
dirty_rank_b clock (cell (held e)) = key_dirty_rank clock e.key
dirty_rank_b clock (fixed d) = rank_range

-- the least of them
abbrev pub least_dirty : ℕ → List Item → ℕ
least_dirty clock [] = rank_range
least_dirty clock (e ∷ es) = min (key_dirty_rank clock e.key) (least_dirty clock es)

-- of a rank where there is one
abbrev pub rank_found : Option ℕ → ℕ
rank_found None = rank_range
rank_found (Some r) = r

-- ---- both

-- an unlocked page by its rank, and whether it is dirty; none for any other block
abbrev pub key_ranked : ℕ → Key → Option Ranked
key_ranked clock (of_handle h) = None
key_ranked clock (of_name n s) = cond s.lock None (Some (record { rank = rank clock n s; dirty = s.dirty }))

abbrev pub ranked_b : ℕ → Block → Option Ranked
ranked_b clock (cell (free n)) = None
ranked_b clock (cell (held e)) = key_ranked clock e.key
ranked_b clock (fixed d) = None
