-- What a walk over blocks gives.
use Rattle.std.specs.Prelude.{◌≡◌, ◌+◌, ◌-◌, ◌<◌, ◌≤◌, length, drop, Option, Some, None}
use Rattle.std.specs.Iterator.{Count, at_most}
use Rattle.access.specs.declared.rows.Rows.{Rows}
use Rattle.access.specs.declared.rows.Placed.{Placed}
use Rattle.access.specs.row.Row.{Row, Stepped}

abbrev pub CanStep : Rows → Type 0
CanStep s = Row (drop s.at s.bytes.now)

-- the block at s.at with what a walk relies on, or none where the bytes end
abbrev pub GivesRow : Rows → Option Placed → Rows → Type 0
GivesRow s None t = (length s.bytes.now ≤ s.at) × (t ≡ s)
GivesRow s (Some r) t = (r.at ≡ s.at) × (s.at < length s.bytes.now) × Stepped s.bytes.now s.at r.size × (t.bytes.now ≡ s.bytes.now) × (t.at ≡ s.at + r.size)

abbrev pub rows_left : Rows → Count
rows_left s = at_most (length s.bytes.now - s.at)
