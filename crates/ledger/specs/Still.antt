-- "No fixed block moves until it is freed": the words in which the claim says it.
use Rattle.std.specs.Prelude.{◌≡◌, List, [], ◌∷◌, ◌+◌}
use Rattle.block_type.specs.Limits.{fixed_header}
use Rattle.calls.specs.Calls.{Call, free_pointer}
use Rattle.ledger.specs.Space.{Spot}

-- x is one of the spots
pub data Has (x : Spot) : List Spot → Type 0 where
  first : {l : List Spot} → Has x (x ∷ l)
  later : {y : Spot} {l : List Spot} → Has x l → Has x (y ∷ l)

-- no call of the list frees the fixed block at x
pub data NotFreed (x : Spot) : List Call → Type 0 where
  no_call : NotFreed x []
  a_call : {c : Call} {cs : List Call} → (c ≡ free_pointer (x.place + fixed_header) → ⊥) → NotFreed x cs → NotFreed x (c ∷ cs)
