-- Document 01: "A view hands back that part of the zone itself, of length 0 when refused": where it starts, and how long it is.
use Rattle.std.specs.Prelude.{cond, List, ℕ, ◌+◌, eqb}
use Rattle.format.specs.WellFormed.{master_at}
use Rattle.calls.specs.Calls.{Target, by_handle, by_pointer, by_name, view}
use Rattle.zone.specs.Work.{data_offset}
use Rattle.zone.specs.Call.{zone_in, number_of}

-- where the data of a block begin: "A live master holds the offset of the block's first data byte", a pointer is that of its block, and a page is
-- looked for (document 02, U5)
abbrev pub data_at : Target → List ℕ → ℕ
data_at (by_handle h) bs = master_at bs h
data_at (by_pointer p) bs = p
data_at (by_name n) bs = data_offset n (zone_in bs)

abbrev pub view_start : Target → ℕ → ℕ → List ℕ → ℕ
view_start t i n bs = cond (eqb (number_of (view t i n) bs) 0) (data_at t bs + i) 0

abbrev pub view_length : Target → ℕ → ℕ → List ℕ → ℕ
view_length t i n bs = cond (eqb (number_of (view t i n) bs) 0) n 0
