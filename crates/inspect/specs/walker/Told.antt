-- What a step of the walker answers, read from what the code returns.
use Rattle.std.specs.Prelude.{ℕ, ◌<◌, Option, Some, None, Result, Ok, Err, IfSome}
use Rattle.block_type.specs.Types.{type_code}
use Rattle.calls.specs.Refusals.{code_of}
use Rattle.calls.specs.declared.Refusal.{Refusal}
use Rattle.zone.specs.Walker as Walker
use Rattle.zone.specs.Walker.{Walked, described, nothing}
use Rattle.inspect.specs.declared.walker.Described.{Described}

-- what the code says of a block, or that there is none
abbrev pub described_of : Option Described → Walker.Described
described_of (Some d) = described (type_code d.kind) d.offset d.size
described_of None = nothing

-- the refusal number, 0 for done
abbrev pub number_in : Result (Option Described) Refusal → ℕ
number_in (Ok o) = 0
number_in (Err e) = code_of e

-- the block, 0 for each of its numbers where there is none
abbrev pub block_in : Result (Option Described) Refusal → Walker.Described
block_in (Ok o) = described_of o
block_in (Err e) = nothing

-- both, and the position p after the step
abbrev pub walked_by : Result (Option Described) Refusal → ℕ → Walked
walked_by r p = record { number = number_in r; block = block_in r; position = p }

-- a block that is answered has bytes
abbrev pub Sized : Option Described → Type 0
Sized o = IfSome o (λ d. 0 < d.size)
