-- Where the page of a name starts, as the walk over the blocks meets it.
use Rattle.std.specs.Prelude.{cond, ◌&&◌, List, [], ◌∷◌, ℕ, zero, suc, ◌+◌, length, drop, eqb, Option, None, Some}
use Rattle.format.specs.WellFormed.{is_page, name_of, split_blocks, first_field, zone_of, well_formed}

-- 0 is the format's word for none
abbrev pub unless_zero : ℕ → Option ℕ
unless_zero zero = None
unless_zero (suc n) = Some (suc n)

-- where the first page of the name x starts, among blocks of which the first starts at offset `at`; 0 for none
unfoldable pub page_among : ℕ → ℕ → List (List ℕ) → ℕ
page_among x at [] = 0
page_among x at (b ∷ bs) = cond (is_page b && eqb (name_of b) x) at (page_among x (at + length b) bs)

-- from the block at `at` on
abbrev pub page_from : ℕ → List ℕ → ℕ → ℕ
page_from x z at = page_among x at (split_blocks (drop at z))

-- in the bytes of a zone, with none beyond its length
unfoldable pub page_in : ℕ → List ℕ → ℕ
page_in x z = page_from x z (first_field z)

-- in a buffer; 0 where the zone is not well-formed
unfoldable pub page_of : ℕ → List ℕ → ℕ
page_of x s = cond (well_formed s) (page_in x (zone_of s)) 0
