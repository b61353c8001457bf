-- Document 02, U7: what a mill lends to the census, "76 bytes: nineteen 4-byte limits in words", and their rules.
use Rattle.std.specs.Prelude.{Bool, true, ◌&&◌, ◌||◌, List, [], ◌∷◌, ℕ, zero, suc, ◌-◌, length, get_or, drop, eqb, leb, ltb}
use Rattle.bigendian.specs.BigEndian.{from_be, slice}
use Rattle.block_type.specs.Limits.{strata, limit_size, limits_length, highest_limit}

-- the n limits that lent bytes begin with ("Numbers in every lent buffer .. stand high byte first": U1)
abbrev pub limits_in : ℕ → List ℕ → List ℕ
limits_in zero bs = []
limits_in (suc n) bs = from_be (slice bs 0 limit_size) ∷ limits_in n (drop limit_size bs)

-- "they rise strictly"
unfoldable pub rising : List ℕ → Bool
rising [] = true
rising (a ∷ []) = true
rising (a ∷ (b ∷ ls)) = ltb a b && rising (b ∷ ls)

-- "The first is 1 or 2, they rise strictly, and the last is at most 524,288."
abbrev pub limits_ok : List ℕ → Bool
limits_ok ls = (eqb (get_or ls 0 0) 1 || eqb (get_or ls 0 0) 2) && (rising ls && leb (get_or ls (strata - 1) 0) highest_limit)

-- what may be lent, "checked each time they are lent"; 14 is for "a length other than 0 or 76, or a rule broken"
abbrev pub lent_ok : List ℕ → Bool
lent_ok lent = eqb (length lent) 0 || (eqb (length lent) limits_length && limits_ok (limits_in strata lent))
