-- The recursion of blocks, as equations at an offset: what a loop from block to block needs.
use mathlib.Core.Path.{◌≡◌, refl, sym, ap, ◌∙◌}
use mathlib.Core.List.{List, [], ◌∷◌}
use mathlib.Core.Bool.{Bool, true, false, cond, ◌&&◌}
use Prim.Native.Nat.{ℕ, zero, suc, ◌+◌, ◌*◌, ◌-◌, ◌%◌, ◌<◌, ◌≤◌}
use native.Mathlib.Omega.{arith}
use lib.Dec.{eqb, leb, ltb}
use borrow.Author.Tests.{eq-eqb, ne_eqb, leb-true, eqb-true, le-leb}
use lib.ListN.{length, take, drop, length-take, length-drop, drop_of_length-le}
use lib.Seq.{take-take, get_or-take, drop-drop}
use Rattle.block_type.specs.Limits.{type_unit, smallest_block, free_code, page_code, tag_at, status_at, page_header, lock_bit, stamp_range}
use Rattle.bigendian.specs.BigEndian.{from_be}
use Rattle.bigendian.proofs.Parts.{drop-pred, drop-take}
use Rattle.format.proofs.Bool.{and_left, and_right}
pub use Rattle.format.specs.Steps.{Turn}
use Rattle.format.specs.WellFormed.{type_of, size_of, handle_of, name_of, status_of, is_free, is_reloc, is_page, split_from, split_blocks, relocs, names}
use Rattle.format.specs.OneWalk.{type_rule, page_rule, rule_of, block_ok, blocks_ok}

from-drop : (k : ℕ) (s : List ℕ) → split_from k s ≡ split_blocks (drop k s)
unfolding split_from
from-drop zero s = refl
from-drop (suc k) [] = refl
from-drop (suc k) (x ∷ xs) = from-drop k xs

pub blocks-nil : split_blocks [] ≡ []
unfolding split_from
blocks-nil = refl

pub blocks-cons : (r : List ℕ) → 0 < length r → 0 < size_of r → split_blocks r ≡ take (size_of r) r ∷ split_blocks (drop (size_of r) r)
unfolding split_from
blocks-cons [] h k = let e : ⊥ = omega arith in absurd e
blocks-cons (x ∷ xs) h k =
    ap (λ (t : List (List ℕ)). take (size_of (x ∷ xs)) (x ∷ xs) ∷ t)
    (from-drop (size_of (x ∷ xs) - 1) xs ∙ ap (λ (t : List ℕ). split_blocks t) (sym (drop-pred (size_of (x ∷ xs)) x xs k)))

-- the size that a header says, of a free block and of another
pub size-free : (b : List ℕ) → type_of b ≡ free_code → size_of b ≡ from_be (take 4 b) * 2
unfolding size_of
size-free b e = rw e

pub size-used : (b : List ℕ) (k : ℕ) → type_of b ≡ suc k → size_of b ≡ from_be (take 2 b) % type_unit * 2
unfolding size_of
size-used b k e = rw (e, ne_eqb (suc k) 0 (λ q. omega arith))

-- what a block's header says is the same of the block alone and of the block with what follows
module _ (n : ℕ) (r : List ℕ) (h : smallest_block ≤ n) where
  pub kind-take : type_of (take n r) ≡ type_of r
  unfolding type_of
  kind-take = rw (get_or-take n r 0 0 (omega arith))

  pub size-take : size_of (take n r) ≡ size_of r
  unfolding size_of
  size-take = rw (kind-take, take-take 4 n r h, take-take 2 n r (omega arith))

  pub handle-take : handle_of (take n r) ≡ handle_of r
  unfolding handle_of
  handle-take = rw (drop-take tag_at n r, take-take 2 (n - tag_at) (drop tag_at r) (omega arith))

  pub status-take : page_header ≤ n → status_of (take n r) ≡ status_of r
  unfolding status_of
  status-take l = rw (drop-take status_at n r, take-take 2 (n - status_at) (drop status_at r) (omega arith))

  pub name-take : page_header ≤ n → name_of (take n r) ≡ name_of r
  unfolding name_of
  name-take l = rw (drop-take tag_at n r, take-take 4 (n - tag_at) (drop tag_at r) (omega arith))

  pub is-page-take : is_page (take n r) ≡ is_page r
  unfolding is_page
  is-page-take = rw kind-take

  pub free-take : is_free (take n r) ≡ is_free r
  unfolding is_free
  free-take = rw kind-take

  pub reloc-take : is_reloc (take n r) ≡ is_reloc r
  unfolding is_reloc
  reloc-take = rw kind-take

-- a page's rule asks first for room for its header
pub page-take : (r : List ℕ) → smallest_block ≤ size_of r → page_rule (take (size_of r) r) ≡ page_rule r
unfolding page_rule
page-take r h = rw (size-take (size_of r) r h) (go (leb page_header (size_of r)) refl)
  where
    go : (t : Bool) → leb page_header (size_of r) ≡ t → (t && ltb (status_of (take (size_of r) r) % lock_bit) stamp_range) ≡ (t && ltb (status_of r % lock_bit) stamp_range)
    go true e = rw (status-take (size_of r) r h (leb-true page_header (size_of r) e))
    go false e = refl

-- what the test of a block says
pub record Good (z : List ℕ) (first : ℕ) (prev : Bool) (at : ℕ) (b : List ℕ) : Type 0 where
  pub low : smallest_block ≤ size_of b
  pub four : size_of b % 4 ≡ 0
  pub whole : size_of b ≡ length b
  pub rule : rule_of (type_of b) z first prev at b b ≡ true

module _ (z : List ℕ) (first : ℕ) (prev : Bool) (at : ℕ) where
  pub is-good : (b : List ℕ) → block_ok z first prev at b ≡ true → Good z first prev at b
  unfolding block_ok
  is-good b h =
      let h₁ = and_right (leb smallest_block (size_of b)) _ h in
      let h₂ = and_right (eqb (size_of b % 4) 0) _ h₁ in
      record {
        low = leb-true smallest_block (size_of b) (and_left _ _ h);
        four = eqb-true (size_of b % 4) 0 (and_left _ _ h₁);
        whole = eqb-true (size_of b) (length b) (and_left _ _ h₂);
        rule = and_right (eqb (size_of b) (length b)) _ h₂;
      }

  -- the test of the first block of a list, by what its header says
  pub record First (r : List ℕ) : Type 0 where
    pub low : smallest_block ≤ size_of r
    pub four : size_of r % 4 ≡ 0
    pub fits : size_of r ≤ length r

  pub is_first : (r : List ℕ) → block_ok z first prev at (take (size_of r) r) ≡ true → First r
  is_first r h =
      let g = is-good (take (size_of r) r) h in
      let l = length-take (size_of r) r in
      let n4 : smallest_block ≤ size_of r = omega arith in
      let e = size-take (size_of r) r n4 in
      record { low = n4; four = (rw e at g.four); fits = omega arith }

  pub first-rule : (r : List ℕ) → smallest_block ≤ size_of r → size_of r % 4 ≡ 0 → size_of r ≤ length r
      → block_ok z first prev at (take (size_of r) r) ≡ rule_of (type_of r) z first prev at (take (size_of r) r) r
  unfolding block_ok
  first-rule r h f l =
      rw (
        size-take (size_of r) r h,
        kind-take (size_of r) r h,
        handle-take (size_of r) r h,
        page-take r h,
        le-leb smallest_block (size_of r) h,
        eq-eqb (size_of r % 4) 0 f,
        eq-eqb (size_of r) (length (take (size_of r) r)) (omega (arith, length-take (size_of r) r)),
      )

-- the names from a block on, by what is known of its size
pub names-of : (r : List ℕ) → 0 < length r → smallest_block ≤ size_of r → (is_page r ≡ true → page_header ≤ size_of r)
    → names (split_blocks r) ≡ cond (is_page r) (name_of r ∷ names (split_blocks (drop (size_of r) r))) (names (split_blocks (drop (size_of r) r)))
unfolding names
names-of r l s p = rw (blocks-cons r l (omega arith), is-page-take (size_of r) r s) (go (is_page r) refl)
  where
    go : (t : Bool) → is_page r ≡ t
        → cond t (name_of (take (size_of r) r) ∷ names (split_blocks (drop (size_of r) r))) (names (split_blocks (drop (size_of r) r)))
        ≡ cond t (name_of r ∷ names (split_blocks (drop (size_of r) r))) (names (split_blocks (drop (size_of r) r)))
    go true e = rw (name-take (size_of r) r s (p e))
    go false e = refl

-- a page that obeys its rule has room for its header
page-long : (z : List ℕ) (first : ℕ) (prev : Bool) (at : ℕ) (r b : List ℕ) → rule_of (type_of r) z first prev at b r ≡ true → is_page r ≡ true → page_header ≤ size_of r
unfolding is_page type_rule page_rule
page-long z first prev at r b h p = leb-true page_header (size_of r) (and_left _ _ (rw (eqb-true (type_of r) page_code p) at h))

pub turn : (z : List ℕ) (first : ℕ) (prev : Bool) (at n : ℕ) → at + smallest_block ≤ length z
    → block_ok z first prev at (take (size_of (drop at z)) (drop at z)) ≡ true → n ≡ size_of (drop at z) → Turn z first prev at n
unfolding blocks_ok relocs
turn z first prev at n h g e =
    let r = drop at z in
    let f = is_first z first prev at r g in
    let l = length-drop at z in
    let ln : length (take (size_of r) r) ≡ size_of r = omega (arith, length-take (size_of r) r) in
    let b = blocks-cons r (omega arith) (omega arith) in
    let d = drop-drop (size_of r) at z in
    let long = page-long z first prev at r (take (size_of r) r) (sym (first-rule z first prev at r f.low f.four f.fits) ∙ g) in
    record {
      is_size = e;
      low = omega arith;
      four = rw e f.four;
      fits = omega arith;
      walk = rw (b, g, ln, free-take (size_of r) r f.low, e, d);
      count = rw (b, reloc-take (size_of r) r f.low, e, d);
      long = λ p. rw e (long p);
      named = rw (e, ← d) (names-of r (omega arith) f.low long);
    }

-- a block that breaks a rule
pub stop : (z : List ℕ) (first : ℕ) (prev : Bool) (at : ℕ) → at < length z
    → block_ok z first prev at (take (size_of (drop at z)) (drop at z)) ≡ false → blocks_ok z first prev at (split_blocks (drop at z)) ≡ false
unfolding blocks_ok split_from
stop z first prev at h g = go (drop at z) (omega (arith, length-drop at z)) g
  where
    go : (r : List ℕ) → 0 < length r → block_ok z first prev at (take (size_of r) r) ≡ false → blocks_ok z first prev at (split_blocks r) ≡ false
    go [] l q = let e : ⊥ = omega arith in absurd e
    go (x ∷ xs) l q = rw q

pub end : (z : List ℕ) (first : ℕ) (prev : Bool) (at : ℕ) → length z ≤ at → blocks_ok z first prev at (split_blocks (drop at z)) ≡ true
unfolding blocks_ok
end z first prev at h = rw (drop_of_length-le z h, blocks-nil)

pub end-count : (z : List ℕ) (at : ℕ) → length z ≤ at → relocs (split_blocks (drop at z)) ≡ 0
unfolding relocs
end-count z at h = rw (drop_of_length-le z h, blocks-nil)

pub end-names : (z : List ℕ) (at : ℕ) → length z ≤ at → names (split_blocks (drop at z)) ≡ []
unfolding names
end-names z at h = rw (drop_of_length-le z h, blocks-nil)
