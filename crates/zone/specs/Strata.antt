-- Document 02, U7, in its own terms: which bytes a mill may lend to the census, and in which stratum a free block counts then.
use Rattle.std.specs.Prelude.{◌≡◌, ◌⊎◌, true, false, cond, List, [], ◌∷◌, ℕ, zero, suc, ◌+◌, ◌-◌, ◌*◌, ◌≤◌, ◌<◌, eqb, leb, length, get_or, replicate}
use Rattle.bigendian.specs.BigEndian.{Bytes}
use Rattle.block_type.specs.Limits.{strata, limit_size, limits_length, highest_limit}
use Rattle.format.specs.WellFormed.{well_formed}
use Rattle.calls.specs.Calls.{lent_number}
use Rattle.calls.specs.Sort.{flat}
use Rattle.zone.specs.Census.{lower_limits, count_if, counted, census}
use Rattle.zone.specs.Formula.{words_in, FreeSize}

-- limit i of lent bytes: four bytes, the high one first ("Numbers in every lent buffer .. stand high byte first": U1)
abbrev pub limit_at : List ℕ → ℕ → ℕ
limit_at lent i =
    let at : ℕ = limit_size * i in
    ((get_or lent at 0 * 256 + get_or lent (at + 1) 0) * 256 + get_or lent (at + 2) 0) * 256 + get_or lent (at + 3) 0

-- "It lends 76 bytes: nineteen 4-byte limits in words .. The first is 1 or 2, they rise strictly, and the last is at most 524,288."
pub record Within (lent : List ℕ) : Type 0 where
  pub long : length lent ≡ limits_length
  pub first : (limit_at lent 0 ≡ 1) ⊎ (limit_at lent 0 ≡ 2)
  pub rise : (i : ℕ) → suc i < strata → limit_at lent i < limit_at lent (suc i)
  pub last : limit_at lent (strata - 1) ≤ highest_limit

-- what may be lent: nothing, or limits within the rules. (14: "a length other than 0 or 76, or a rule broken")
abbrev pub MayLend : List ℕ → Type 0
MayLend lent = (length lent ≡ 0) ⊎ Within lent

-- "A free block counts in the last stratum whose limit doesn't exceed its words": i is that stratum of a block of w words
pub record Last (limit : ℕ → ℕ) (w i : ℕ) : Type 0 where
  pub within : i < strata
  pub low : limit i ≤ w
  pub last : (j : ℕ) → i < j → j < strata → w < limit j

-- from the last of n strata down, the first that is met whose limit does not exceed w
abbrev pub last_of : (ℕ → ℕ) → ℕ → ℕ → ℕ
last_of limit w zero = 0
last_of limit w (suc n) = cond (leb (limit n) w) n (last_of limit w n)

unfoldable pub total_of : List ℕ → ℕ
total_of [] = 0
total_of (c ∷ cs) = c + total_of cs

-- the bytes that hold these limits
abbrev pub limit_bytes : List ℕ → List ℕ
limit_bytes ls = flat lent_number ls

pub record StrataSays : Type 0 where
  -- "14: .., after 1": where the bytes are no zone it is told 1, whatever is lent. "A call with several answers gives 0 for each when refused"
  pub broken : (zone lent : List ℕ) → well_formed zone ≡ false → census zone lent ≡ counted 1 (replicate strata 0)
  pub refused : (zone lent : List ℕ) → well_formed zone ≡ true → (MayLend lent → ⊥) → census zone lent ≡ counted 14 (replicate strata 0)
  pub done : (zone lent : List ℕ) → well_formed zone ≡ true → MayLend lent → (census zone lent).number ≡ 0
  -- every size that a free block can have has a last stratum whose limit does not exceed it, and one alone
  pub right : (lent : List ℕ) → Within lent → (w : ℕ) → FreeSize w → Last (limit_at lent) w (last_of (limit_at lent) w strata)
  pub alone : (lent : List ℕ) (w i : ℕ) → Last (limit_at lent) w i → i ≡ last_of (limit_at lent) w strata
  -- and there the census counts it: count i is the number of free blocks that a walk meets whose last stratum is i. (What it meets are such sizes:
  -- `FormulaSays`)
  pub counts : (zone lent : List ℕ) → Bytes zone → well_formed zone ≡ true → Within lent → (i : ℕ) → i < strata
      → get_or (census zone lent).counts i 0 ≡ count_if (λ w. eqb (last_of (limit_at lent) w strata) i) (words_in zone)
  pub nineteen : (zone lent : List ℕ) → length (census zone lent).counts ≡ strata
  -- so every free block is counted exactly once
  pub once : (zone lent : List ℕ) → Bytes zone → well_formed zone ≡ true → MayLend lent → total_of (census zone lent).counts ≡ length (words_in zone)
  -- lent the powers of 2, it answers what it answers lent nothing
  pub powers : (zone : List ℕ) → census zone (limit_bytes lower_limits) ≡ census zone []
