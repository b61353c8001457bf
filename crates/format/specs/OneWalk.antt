-- The rules of WellFormed in the order in which one walk through the bytes meets them. Contracts inside the library cite these;
-- the law `one-walk` says that they are the rules.
use Rattle.std.specs.Prelude.{ℕ, zero, suc, ◌+◌, ◌-◌, ◌%◌, List, [], ◌∷◌, Bool, true, false, not, ◌&&◌, length, drop, eqb, leb, ltb}
use Rattle.memory.specs.Zeros.{all_zero}
use Rattle.block_type.specs.Limits.{free_header, reloc_header, page_header, lock_bit, stamp_range, smallest_block}
use Rattle.format.specs.WellFormed.{type_of, size_of, handle_of, second_word, status_of, is_free, is_master, master_at, split_blocks, relocs, names, distinct}

-- n masters are visited from h on, and the last holds 0
unfoldable pub links : List ℕ → ℕ → ℕ → ℕ → Bool
links z first zero h = eqb h 0
links z first (suc n) h = is_master first h && links z first n (master_at z h)

-- by type: the rule of a free, a fixed, a relocatable block, of a page; there is no type 4
unfoldable pub type_rule : ℕ → Bool → Bool → Bool → Bool → Bool
type_rule zero free fixed reloc page = free
type_rule (suc zero) free fixed reloc page = fixed
type_rule (suc (suc zero)) free fixed reloc page = reloc
type_rule (suc (suc (suc zero))) free fixed reloc page = page
type_rule (suc (suc (suc (suc k)))) free fixed reloc page = false

-- prev: the block before is free
unfoldable pub free_rule : Bool → List ℕ → Bool
free_rule prev b = not prev && all_zero (drop free_header b)

abbrev pub fixed_rule : List ℕ → Bool
fixed_rule r = eqb (second_word r) 0

unfoldable pub reloc_rule : List ℕ → ℕ → ℕ → ℕ → Bool
reloc_rule z first at h = is_master first h && eqb (master_at z h) (at + reloc_header)

unfoldable pub page_rule : List ℕ → Bool
page_rule r = leb page_header (size_of r) && ltb (status_of r % lock_bit) stamp_range

-- the rule of a block b of type k at offset `at`, whose header is read from r: the block, or the bytes from it on
abbrev pub rule_of : ℕ → List ℕ → ℕ → Bool → ℕ → List ℕ → List ℕ → Bool
rule_of k z first prev at b r = type_rule k (free_rule prev b) (fixed_rule r) (reloc_rule z first at (handle_of r)) (page_rule r)

-- the block b at offset `at`
unfoldable pub block_ok : List ℕ → ℕ → Bool → ℕ → List ℕ → Bool
block_ok z first prev at b =
    leb smallest_block (size_of b)
    && (eqb (size_of b % 4) 0
    && (eqb (size_of b) (length b) && rule_of (type_of b) z first prev at b b))

unfoldable pub blocks_ok : List ℕ → ℕ → Bool → ℕ → List (List ℕ) → Bool
blocks_ok z first prev at [] = true
blocks_ok z first prev at (b ∷ bs) = block_ok z first prev at b && blocks_ok z first (is_free b) (at + length b) bs

unfoldable pub body_ok : List ℕ → ℕ → ℕ → ℕ → Bool
body_ok z first m head =
    blocks_ok z first false first (split_blocks (drop first z))
    && (leb (relocs (split_blocks (drop first z))) m
    && (links z first (m - relocs (split_blocks (drop first z))) head && distinct (names (split_blocks (drop first z)))))
