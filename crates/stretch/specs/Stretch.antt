-- A stretch of a block: its refusal, and where it lies in the zone.
use Rattle.std.specs.Prelude.{cond, List, ℕ, ◌+◌, length, eqb, leb}
use Rattle.format.specs.WellFormed.{zone_of}
use Rattle.calls.specs.Calls.{Target}
use Rattle.access.specs.locate.Locate.{target_place, target_data, block_number}

-- the refusal of n bytes from offset i of a block with `size` data bytes, for a second buffer of `have` bytes; `number` is the
-- block's own: "offset + count, unwrapped, above data size" 8, "second buffer too short" 10
unfoldable pub part_number : ℕ → ℕ → ℕ → ℕ → ℕ → ℕ
part_number number size i n have = cond (eqb number 0) (cond (leb (i + n) size) (cond (leb n have) 0 10) 8) number

-- that refusal in a buffer
unfoldable pub stretch_number : Target → ℕ → ℕ → ℕ → List ℕ → ℕ
stretch_number t i n have s = part_number (block_number t s) (length (target_data t (zone_of s))) i n have

-- a view: "that part of the zone itself, of length 0 when refused"; it needs no second buffer
unfoldable pub view_start : Target → ℕ → ℕ → List ℕ → ℕ
view_start t i n s = cond (eqb (stretch_number t i n n s) 0) (target_place t (zone_of s) + i) 0

unfoldable pub view_length : Target → ℕ → ℕ → List ℕ → ℕ
view_length t i n s = cond (eqb (stretch_number t i n n s) 0) n 0
