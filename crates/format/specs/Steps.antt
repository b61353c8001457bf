-- What the leaves of a walk promise to the loop above them: the records that contracts inside the library cite.
use Rattle.std.specs.Prelude.{◌≡◌, List, ◌∷◌, Bool, true, false, cond, ℕ, ◌+◌, ◌*◌, ◌%◌, ◌≤◌, length, get_or, take, drop}
use Rattle.block_type.specs.Limits.{longest_zone, master_size, most_masters, zone_header, smallest_block, page_header, zero_at}
use Rattle.format.specs.WellFormed.{length_field, first_field, masters_field, chain_field, size_of, name_of, is_free, is_reloc, is_page, split_blocks, relocs, names}
use Rattle.format.specs.OneWalk.{block_ok, blocks_ok}

-- a header's fields, and what its test says of them
pub record Fields (s : List ℕ) (l first m head : ℕ) : Type 0 where
  pub is_len : l ≡ length_field s
  pub is_first : first ≡ first_field s
  pub is_masters : m ≡ masters_field s
  pub is_chain : head ≡ chain_field s
  pub long : zone_header ≤ length s
  pub zero : get_or s zero_at 0 ≡ 0
  pub four : l % 4 ≡ 0
  pub room : l ≤ length s
  pub limit : l ≤ longest_zone
  pub few : m ≤ most_masters
  pub start : first ≡ zone_header + master_size * m
  pub within : first ≤ l

-- a turn of the walk over a block of n bytes
pub record Turn (z : List ℕ) (first : ℕ) (prev : Bool) (at n : ℕ) : Type 0 where
  pub is_size : n ≡ size_of (drop at z)
  pub low : smallest_block ≤ n
  pub four : n % 4 ≡ 0
  pub fits : at + n ≤ length z
  pub walk : blocks_ok z first prev at (split_blocks (drop at z)) ≡ blocks_ok z first (is_free (drop at z)) (at + n) (split_blocks (drop (at + n) z))
  pub count : relocs (split_blocks (drop at z)) ≡ cond (is_reloc (drop at z)) 1 0 + relocs (split_blocks (drop (at + n) z))
  pub long : is_page (drop at z) ≡ true → page_header ≤ n
  pub named : names (split_blocks (drop at z)) ≡ cond (is_page (drop at z)) (name_of (drop at z) ∷ names (split_blocks (drop (at + n) z))) (names (split_blocks (drop (at + n) z)))

-- n is the size of the block at `at` where it obeys the rules, else 0
pub record GoodSize (z : List ℕ) (first : ℕ) (prev : Bool) (at n : ℕ) : Type 0 where
  pub four : n % 4 ≡ 0
  pub fits : at + n ≤ length z
  pub bad : n ≡ 0 → block_ok z first prev at (take (size_of (drop at z)) (drop at z)) ≡ false
  pub good : (n ≡ 0 → ⊥) → Turn z first prev at n
