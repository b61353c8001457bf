-- The table in which a walk notes names.
use Rattle.std.specs.Prelude.{ℕ, List, [], Option, None, Some}
use Rattle.names.specs.declared.seen.Seen.{Seen}

-- its slots; without a table there are none
abbrev pub table_of : Option Seen → List ℕ
table_of None = []
table_of (Some s) = s.slots
