-- Document 01, 'Census and walker': "The census counts free blocks by stratum i, of 2^i to 2^(i+1) − 1 words, i from 0 to 18, from a
-- table of lower limits; it answers all nineteen counts together." Document 02, U7: "One mill wants the census in its own steps."
use Rattle.std.specs.Prelude.{Bool, cond, ◌&&◌, List, [], ◌∷◌, ℕ, zero, suc, ◌+◌, ◌/◌, ◌^◌, length, replicate, eqb, leb, ltb}
use Rattle.block_type.specs.Limits.{strata}
use Rattle.format.specs.WellFormed.{well_formed}
use Rattle.structure.specs.Structure.{Block, fixed, decode, cell}
use Rattle.bay.specs.Bay.{free, held}
use Rattle.calls.specs.LentLimits.{limits_in}
use Rattle.calls.specs.Table.{census_refusal}
use Rattle.zone.specs.Work.{facts}
use Rattle.zone.specs.Call.{zone_in}

-- the limits 2^i, n of them
abbrev pub limits_from : ℕ → ℕ → List ℕ
limits_from i zero = []
limits_from i (suc n) = 2 ^ i ∷ limits_from (suc i) n

abbrev pub lower_limits : List ℕ
lower_limits = limits_from 0 strata

-- the limits that hold: the lent ones, and the powers above where none are lent ("With length 0 the formula holds": `Formula`)
abbrev pub limits_of : List ℕ → List ℕ
limits_of lent = cond (eqb (length lent) 0) lower_limits (limits_in strata lent)

-- how many pass the test
unfoldable pub count_if : (ℕ → Bool) → List ℕ → ℕ
count_if ok [] = 0
count_if ok (w ∷ ws) = cond (ok w) 1 0 + count_if ok ws

-- for each stratum how many of the sizes ws lie from its lower limit up to the next one's: of limits that rise, how many have it for "the last
-- stratum whose limit doesn't exceed" them. The last has no upper limit (none is needed for 2^18: no free block has 2^19 words, for that is the
-- longest zone with its header)
unfoldable pub counts_of : List ℕ → List ℕ → List ℕ
counts_of [] ws = []
counts_of (lo ∷ []) ws = count_if (leb lo) ws ∷ []
counts_of (lo ∷ (hi ∷ ls)) ws = count_if (λ w. leb lo w && ltb w hi) ws ∷ counts_of (hi ∷ ls) ws

-- the sizes of the free blocks, in 2-byte words
unfoldable pub free_words : List Block → List ℕ
free_words [] = []
free_words (cell (free n) ∷ bs) = n / 2 ∷ free_words bs
free_words (fixed d ∷ bs) = free_words bs
free_words (cell (held it) ∷ bs) = free_words bs

pub record Counted : Type 0 where
  -- the refusal, 0 for done
  pub number : ℕ
  pub counts : List ℕ

abbrev pub counted : ℕ → List ℕ → Counted
counted n cs = record { number = n; counts = cs }

-- the refusal number of a census of the buffer bs that is lent these bytes
abbrev pub census_number : List ℕ → List ℕ → ℕ
census_number bs lent = census_refusal (facts (well_formed bs) (zone_in bs)) lent

-- n is the refusal number: "A call with several answers gives 0 for each when refused"
abbrev pub census_with : ℕ → List ℕ → List ℕ → Counted
census_with n limits bs = cond (eqb n 0) (counted 0 (counts_of limits (free_words (decode bs).blocks))) (counted n (replicate strata 0))

-- A CENSUS OF A BUFFER
abbrev pub census : List ℕ → List ℕ → Counted
census bs lent = census_with (census_number bs lent) (limits_of lent) bs
