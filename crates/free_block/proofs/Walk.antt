-- The walk from block to block, and what is free beside an offset.
use mathlib.Core.Path.{◌≡◌, refl, sym, ap, ap₂, ◌∙◌}
use mathlib.Core.Bool.{Bool, true, false, cond}
use mathlib.Core.List.{List, [], ◌∷◌, ◌++◌, append_assoc}
use Prim.Native.Nat.{ℕ, ◌+◌, ◌<◌, ◌≤◌}
use native.Mathlib.Nat.{add-zero}
use native.Mathlib.Omega.{arith}
use lib.Dec.{eqb}
use lib.ListN.{length, drop}
use Rattle.format.specs.WellFormed.{is_free, first_field}
use Rattle.structure.specs.Structure.{Block, cell, fixed, size, sizes, decode_zone, code}
use Rattle.structure.proofs.Append.{sizes-append}
use Rattle.structure.proofs.Round.{rest-is}
use Rattle.structure.proofs.Table.{start_is, encode-zone}
use Rattle.structure.proofs.Sound.{valid-zone}
use Rattle.bay.specs.Bay.{free, held}
use Rattle.access.specs.row.Row.{Row, row, blocks_of, block_at, Stepped}
use Rattle.access.proofs.row.Laws.{row-end, stepped}
use Rattle.access.proofs.row.Zone.{valid-sound}
use Rattle.free_block.specs.Around.{part_of, last_part, first_part}
use Rattle.free_block.specs.Walk.{Below, Passed, Stopped}
use Rattle.block_type.specs.Limits.{free_code}
use Rattle.structure.specs.IsZone.{IsZone}
use Rattle.structure.proofs.IsZone.{whole_of}
use Rattle.kinds.proofs.KindLaws.{not_free}
use Rattle.kinds.specs.Kinds.{item_size}

-- ---- one block

same_bool : (t : Bool) (a : ℕ) → cond t a a + 0 ≡ a
same_bool true a = add-zero a
same_bool false a = add-zero a

part-kind : (b : Block) → part_of b ≡ cond (eqb (code b) free_code) (size b) 0
part-kind (cell (free n)) = refl
part-kind (cell (held e)) = sym (ap (λ (t : Bool). cond t (item_size e) 0) (not_free e))
part-kind (fixed d) = refl

-- the free bytes of the block of n bytes at `at`
part_at : (z : List ℕ) (at n : ℕ) → Stepped z at n → part_of (block_at z at) ≡ cond (is_free (drop at z)) n 0
unfolding is_free
part_at z at n s = part-kind (block_at z at) ∙ (rw (s.kind, s.bytes))

last_more : (k : ℕ) (a : List Block) (b : Block) → last_part k (a ++ b ∷ []) ≡ part_of b
last_more k [] b = refl
last_more k (c ∷ a) b = last_more (part_of c) a b

below_more : (t at : ℕ) (a : List Block) (b : Block) → Below t at a → at + sizes a < t → Below t at (a ++ b ∷ [])
unfolding sizes
below_more t at [] b x l = (omega arith, tt)
below_more t at (c ∷ a) b x l = (x.0, below_more t (at + size c) a b x.1 (omega arith))

-- ---- the walk

module _ (z : List ℕ) (first t : ℕ) where
  pub walk_start : Row (drop first z) → first ≤ length z → Passed z first t first first
  unfolding sizes
  walk_start r l = record { before = []; parts = refl; place = sym (add-zero first); near = omega arith; below = tt; free_before = same_bool (is_free (drop first z)) first; fits = l; row = r }

  pub walk-next : (prev at n : ℕ) → Passed z first t prev at → at < t → Stepped z at n → Passed z first t at (at + n)
  unfolding sizes
  walk-next prev at n p l s =
      let b = block_at z at in
      record {
        before = p.before ++ b ∷ [];
        parts = p.parts ∙ ap (p.before ++◌) s.blocks ∙ sym (append_assoc p.before (b ∷ []) (blocks_of (drop (at + n) z)));
        place = omega (arith, p.place, s.bytes, sizes-append p.before (b ∷ []));
        near = omega arith;
        below = below_more t first p.before b p.below (omega (arith, p.place));
        free_before = rw (last_more 0 p.before b, part_at z at n s) (go (is_free (drop at z)));
        fits = s.fits;
        row = s.next;
      }
    where
      go : (f : Bool) → cond f at (at + n) + cond f n 0 ≡ at + n
      go true = refl
      go false = add-zero (at + n)

  pub walk-stop : (prev at : ℕ) → Passed z first t prev at → t ≤ at → Stopped z first t prev at
  walk-stop prev at p l = record { passed = p; reached = l }

-- ---- the ends

module _ (z : List ℕ) (prev at : ℕ) (f : Bool) (e : f ≡ is_free (drop prev z)) where
  pub before-free : f ≡ true → prev ≡ cond (is_free (drop prev z)) prev at
  before-free q = rw (← e, q)

  pub before-used : f ≡ false → at ≡ cond (is_free (drop prev z)) prev at
  before-used q = rw (← e, q)

pub behind-none : (z : List ℕ) (end : ℕ) → length z ≤ end → end ≡ end + first_part (blocks_of (drop end z))
behind-none z end l = rw (row-end z end l) (sym (add-zero end))

module _ (z : List ℕ) (end n : ℕ) (f : Bool) (e : f ≡ is_free (drop end z)) where
  pub behind-free : f ≡ true → Stepped z end n → end + n ≡ end + first_part (blocks_of (drop end z))
  behind-free q s = rw (s.blocks, part_at z end n s, ← e, q)

pub behind-used : (z : List ℕ) (end : ℕ) (f : Bool) → f ≡ is_free (drop end z) → f ≡ false → Row (drop end z) → end < length z → end ≡ end + first_part (blocks_of (drop end z))
behind-used z end f e q r l = let s = stepped z end _ r l refl in rw (s.blocks, part_at z end _ s, ← e, q) (sym (add-zero end))

-- ---- in a zone

module _ (z : List ℕ) (i : IsZone z) (first : ℕ) (e : first ≡ first_field z) where
  -- the walk starts at the first block
  pub walk-row : Row (drop first z)
  walk-row =
      let w = whole_of z i in
      let s = decode_zone z in
      let v = valid-zone z w in
      row s.blocks (valid-sound s v) (ap₂ (λ (k : ℕ) (y : List ℕ). drop k y) (e ∙ sym (start_is z w)) (sym (encode-zone z w)) ∙ rest-is s v)

  pub walk-low : first ≤ length z
  walk-low = omega (arith, (whole_of z i).within)
