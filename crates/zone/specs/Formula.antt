-- Document 02, U4: "The stratum is worked out from the size in words by its leading zeros. All census answers are those of today."
use Rattle.std.specs.Prelude.{◌≡◌, true, cond, List, [], ◌∷◌, ℕ, zero, suc, ◌+◌, ◌-◌, ◌*◌, ◌/◌, ◌%◌, ◌^◌, ◌≤◌, ◌<◌, eqb, length, replicate}
use Rattle.std.specs.Int.Count.{count_leading_zeros}
use Rattle.bigendian.specs.BigEndian.{Bytes}
use Rattle.block_type.specs.Limits.{free_code, smallest_block, longest_zone, zone_header, strata}
use Rattle.format.specs.WellFormed.{type_of, size_of, well_formed}
use Rattle.structure.specs.Structure.{cell, decode}
use Rattle.bay.specs.Bay.{free}
use Rattle.zone.specs.Call.{initialize}
use Rattle.zone.specs.Claim.{blocks_in}
use Rattle.zone.specs.Census.{count_if, Counted, counted, census}

-- document 01: w words are of "stratum i, of 2^i to 2^(i+1) − 1 words, i from 0 to 18"
pub record Stratum (i w : ℕ) : Type 0 where
  pub within : i < strata
  pub low : 2 ^ i ≤ w
  pub high : w < 2 ^ suc i

-- the sizes, in words, of the free blocks that a walk through the bytes meets
unfoldable pub words_met : List (List ℕ) → List ℕ
words_met [] = []
words_met (b ∷ bs) = cond (eqb (type_of b) free_code) (size_of b / 2 ∷ words_met bs) (words_met bs)

abbrev pub words_in : List ℕ → List ℕ
words_in bs = words_met (blocks_in bs)

-- a size in words is a number of 32 bits in the code
abbrev pub bits : ℕ
bits = 32

-- the formula: the place of the highest bit, counted from 0, is 31 less "its leading zeros"
abbrev pub stratum_of : ℕ → ℕ
stratum_of w = (bits - 1) - count_leading_zeros bits w

-- for each of n strata, from i on, how many of the sizes ws the formula puts there
abbrev pub by_formula : ℕ → ℕ → List ℕ → List ℕ
by_formula i zero ws = []
by_formula i (suc n) ws = count_if (λ w. eqb (stratum_of w) i) ws ∷ by_formula (suc i) n ws

-- a census of what a walk meets, with the formula in the place of the limits
abbrev pub census_by_formula : List ℕ → Counted
census_by_formula bs = cond (well_formed bs) (counted 0 (by_formula 0 strata (words_in bs))) (counted 1 (replicate strata 0))

-- the sizes in words that a free block can have: of a multiple of 4 bytes, from the smallest block to the longest zone less its header
pub record FreeSize (w : ℕ) : Type 0 where
  pub even : w % 2 ≡ 0
  pub least : smallest_block / 2 ≤ w
  pub most : w ≤ (longest_zone - zone_header) / 2

-- a well-formed zone with one block, which is free and has n bytes
abbrev pub OneFree : ℕ → List ℕ → Type 0
OneFree n bs = (well_formed bs ≡ true) × ((decode bs).blocks ≡ cell (free n) ∷ [])

pub record FormulaSays : Type 0 where
  -- the formula gives each size that a free block can have its stratum; no number of words has another
  pub right : (w : ℕ) → FreeSize w → Stratum (stratum_of w) w
  pub alone : (i w : ℕ) → Stratum i w → i ≡ stratum_of w
  -- no free block of a zone has another size, and each of these sizes is that of the only block of a zone, which initialize leaves
  pub sizes : (bs : List ℕ) → Bytes bs → well_formed bs ≡ true → (w : ℕ) → 0 < count_if (eqb w) (words_in bs) → FreeSize w
  pub reached : (w : ℕ) → FreeSize w → (bs : List ℕ) → zone_header + w * 2 ≤ length bs → OneFree (w * 2) (initialize (zone_header + w * 2) 0 bs).bytes
  -- "All census answers are those of today", of any bytes; "With length 0 the formula holds" (U7)
  pub answers : (bs : List ℕ) → Bytes bs → census_by_formula bs ≡ census bs []
