-- A roster: "8 bytes a live handle (handle, data size; 4 bytes each), no header". Which records it has, and that they come by rising handle, a
-- zone and a ledger say each in their own text.
use Rattle.std.specs.Prelude.{List, [], ◌∷◌, ◌++◌, ℕ, zero, suc, ◌*◌, length, drop}
use Rattle.bigendian.specs.BigEndian.{from_be, slice}
use Rattle.block_type.specs.Limits.{record_size, amount_at}
use Rattle.calls.specs.Calls.{Answer, told_with, lent_number}

-- a record: a live handle and its data size
pub record Card : Type 0 where
  pub handle : ℕ
  pub amount : ℕ

abbrev pub card_bytes : List Card → List ℕ
card_bytes [] = []
card_bytes (c ∷ cs) = lent_number c.handle ++ (lent_number c.amount ++ card_bytes cs)

-- the n records that bytes begin with, as their reader has them (for `RosterSays`; no other definition needs it)
abbrev pub cards_in : ℕ → List ℕ → List Card
cards_in zero bs = []
cards_in (suc n) bs = record { handle = from_be (slice bs 0 4); amount = from_be (slice bs amount_at 4) } ∷ cards_in n (drop record_size bs)

-- the records cs, from the start of the second buffer on: "answers how many", "Later bytes stay"
abbrev pub rostered : List Card → List ℕ → Answer
rostered cs second = told_with 0 (length cs) (card_bytes cs ++ drop (record_size * length cs) second)
