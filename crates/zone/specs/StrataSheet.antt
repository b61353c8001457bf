-- Document 02, U7, by example: which bytes may be lent, at the edges of each rule, and where a block at a limit counts.
use Rattle.std.specs.Prelude.{◌≡◌, List, [], ◌∷◌, ◌++◌, map, ℕ, zero, suc, take, drop, replicate}
use Rattle.zone.specs.Census.{counted, census}
use Rattle.zone.specs.Strata.{limit_bytes}
use Rattle.zone.specs.GrowthSheet.{zone}

-- one free block of 32 bytes, which are 16 words
abbrev pub vacant : List ℕ
vacant = zone 64 4

-- n numbers from a on
abbrev pub from : ℕ → ℕ → List ℕ
from a zero = []
from a (suc n) = a ∷ from (suc a) n

-- the number of a census that is lent these limits; and the one that is lent the first n bytes of the limits 1 to 38
abbrev pub told : List ℕ → ℕ
told ls = (census vacant (limit_bytes ls)).number

abbrev pub told_bytes : ℕ → ℕ
told_bytes n = (census vacant (take n (limit_bytes (from 1 38)))).number

-- one block, in stratum i
abbrev pub one_in : ℕ → List ℕ
one_in i = take i (replicate 18 0) ++ (1 ∷ drop i (replicate 18 0))

pub record StrataSheet : Type 0 where
  -- "a length other than 0 or 76"
  pub lengths : map told_bytes (0 ∷ 1 ∷ 4 ∷ 72 ∷ 75 ∷ 76 ∷ 77 ∷ 80 ∷ 152 ∷ []) ≡ 0 ∷ 14 ∷ 14 ∷ 14 ∷ 14 ∷ 0 ∷ 14 ∷ 14 ∷ 14 ∷ []
  -- "The first is 1 or 2"
  pub first : map (λ (a : ℕ). told (from a 19)) (0 ∷ 1 ∷ 2 ∷ 3 ∷ []) ≡ 14 ∷ 0 ∷ 0 ∷ 14 ∷ []
  -- "they rise strictly": two equal ones, first, last, and a fall
  pub rise : map told ((1 ∷ from 1 18) ∷ (from 1 18 ++ (18 ∷ [])) ∷ (from 1 18 ++ (17 ∷ [])) ∷ (from 1 18 ++ (19 ∷ [])) ∷ []) ≡ 14 ∷ 14 ∷ 14 ∷ 0 ∷ []
  -- "the last is at most 524,288"
  pub last : map (λ (a : ℕ). told (from 1 18 ++ (a ∷ []))) (524288 ∷ 524289 ∷ []) ≡ 0 ∷ 14 ∷ []
  -- "after 1": a buffer that is no zone
  pub broken : map (λ (lent : List ℕ). (census (drop 1 vacant) lent).number) ([] ∷ (0 ∷ []) ∷ limit_bytes (from 1 19) ∷ []) ≡ 1 ∷ 1 ∷ 1 ∷ []
  -- "0 for each when refused"
  pub zeros : census vacant (0 ∷ []) ≡ counted 14 (replicate 19 0)
  -- "the last stratum whose limit doesn't exceed its words": at the limit, and one word below it; beyond the last limit (112 words), and below the second
  pub at_limit : census vacant (limit_bytes (from 1 15 ++ (16 ∷ from 100 3))) ≡ counted 0 (one_in 15)
  pub below_limit : census vacant (limit_bytes (from 1 15 ++ (17 ∷ from 100 3))) ≡ counted 0 (one_in 14)
  pub beyond : census (zone 256 4) (limit_bytes (from 1 19)) ≡ counted 0 (one_in 18)
  pub lowest : census vacant (limit_bytes (2 ∷ from 17 18)) ≡ counted 0 (one_in 0)
  -- "With length 0 the formula holds": 16 words are 2 to the 4
  pub none : census vacant [] ≡ counted 0 (one_in 4)
