-- The bays of bytes, and the places among them that the searches answer.
use Rattle.std.specs.Prelude.{List, Bool, true, false, cond, ℕ, ◌+◌, leb, ltb, drop, Option, Some, None}
use Rattle.calls.specs.Bays.{Bays, last, more}
use Rattle.calls.specs.State.{Fixed, fsize}
use Rattle.bay.specs.Bay.{Cell, bay_size, bay_sum}
pub use Rattle.bay.specs.Ends.{free_part, end_free}
use Rattle.access.specs.row.Row.{blocks_of}
use Rattle.structure.specs.Structure.{Structure, start}
use Rattle.zone.specs.Group.{group}
use Rattle.bays.specs.declared.Bay.{Bay}

-- the bays of a structure
abbrev pub bays_of : Structure → Bays (List Cell) Fixed
bays_of s = group (start s) s.blocks

-- the bays of the bytes from offset p on
abbrev pub bays_at : List ℕ → ℕ → Bays (List Cell) Fixed
bays_at z p = group p (blocks_of (drop p z))

-- a bay by offsets, where one is found
pub record BayN : Type 0 where
  pub found : Bool
  pub start : ℕ
  pub end : ℕ
  pub sum : ℕ
  pub tail : ℕ

abbrev pub bay_n : Bool → ℕ → ℕ → ℕ → ℕ → BayN
bay_n f a e s t = record { found = f; start = a; end = e; sum = s; tail = t }

abbrev pub no_bay : BayN
no_bay = bay_n false 0 0 0 0

-- as a search answers it
abbrev pub bay_of : Bay → BayN
bay_of b = bay_n true b.start b.end b.sum b.tail

abbrev pub bay_found : Option Bay → BayN
bay_found None = no_bay
bay_found (Some b) = bay_of b

-- the bay b, which begins at p
abbrev pub bay_at : ℕ → List Cell → BayN
bay_at p b = bay_n true p (p + bay_size b) (bay_sum b) (end_free b)

-- the same, where its sum reaches need
abbrev pub fit_at : ℕ → ℕ → List Cell → BayN
fit_at need p b = cond (leb need (bay_sum b)) (bay_at p b) no_bay

-- the second where the first is none
abbrev pub or_bay : BayN → BayN → BayN
or_bay a b = cond a.found a b

-- the highest bay whose sum reaches need, the first bay beginning at p
abbrev pub high_bay : ℕ → ℕ → Bays (List Cell) Fixed → BayN
high_bay need p (last b) = fit_at need p b
high_bay need p (more b x s) = or_bay (high_bay need (x.place + fsize x) s) (fit_at need p b)

-- the bay of these offsets in the place of w, where its sum reaches need
abbrev pub better_bay : ℕ → BayN → ℕ → ℕ → ℕ → ℕ → BayN
better_bay need w start end sum tail = cond (leb need sum) (bay_n true start end sum tail) w

-- the bay in which the block at offset t stands
abbrev pub own_bay : ℕ → ℕ → Bays (List Cell) Fixed → BayN
own_bay t p (last b) = bay_at p b
own_bay t p (more b x s) = cond (ltb t x.place) (bay_at p b) (own_bay t (x.place + fsize x) s)
