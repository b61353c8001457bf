-- One block: its bytes and its structure.
use mathlib.Core.Path.{◌≡◌, refl, sym, ap, ◌∙◌, subst, ap₂}
use mathlib.Core.List.{List, [], ◌∷◌, ◌++◌, map}
use mathlib.Core.Bool.{Bool, true, not}
use Prim.Native.Nat.{ℕ, zero, suc, ◌+◌, ◌*◌, ◌-◌, ◌/◌, ◌%◌, ◌≤◌}
use native.Mathlib.Omega.{arith}
use lib.Dec.{eqb}
use borrow.Author.Tests.{eqb-true}
use lib.ListN.{length, take, drop, replicate, length-append, length-take, length-drop, take-append-drop}
use lib.Seq.{drop-drop, take-append_seam, drop-append_seam}
use Rattle.block_type.specs.Limits.{fixed_header, type_unit, fixed_code, free_header, smallest_block, free_code, tag_at}
use Rattle.bigendian.specs.BigEndian.{from_be, to_be, Bytes}
use Rattle.bigendian.proofs.Laws.{be2-at}
use Rattle.bigendian.proofs.Bytes.{bytes_left, bytes-right, bytes_drop, part_bytes}
use Rattle.bigendian.proofs.Parts.{drop-pred}
use Rattle.memory.specs.Zeros.{all_zero}
use Rattle.format.proofs.Bool.{and_left, and_right}
use Rattle.format.specs.WellFormed.{type_of, size_of, handle_of, second_word, is_free, split_blocks, split_from}
use Rattle.format.specs.OneWalk.{type_rule, free_rule, fixed_rule, block_ok, blocks_ok, rule_of}
use Rattle.format.proofs.Walk.{is-good, size-free, size-used, size-take, blocks-cons, blocks-nil}
use Rattle.structure.specs.Structure.{fixed, fixed_tag, encode_block, decode_block, by_type, join, cell}
use Rattle.kinds.specs.Kinds.{item_in}
use Rattle.kinds.proofs.KindLaws.{Read, read}
use Rattle.bay.specs.Bay.{free, held}

-- ---- joining blocks

join-from : (z : List ℕ) (first : ℕ) (prev : Bool) (at k : ℕ) (s : List ℕ) → blocks_ok z first prev at (split_from k s) ≡ true → join (split_from k s) ≡ drop k s
unfolding split_from join blocks_ok
join-from z first prev at zero [] g = refl
join-from z first prev at (suc k) [] g = refl
join-from z first prev at (suc k) (x ∷ xs) g = join-from z first prev at k xs g
join-from z first prev at zero (x ∷ xs) g =
    let r = x ∷ xs in
    let b = take (size_of r) r in
    let gb = is-good z first prev at b (and_left _ _ g) in
    let l = length-take (size_of r) r in
    rw (join-from z first (is_free b) (at + length b) (size_of r - 1) xs (and_right (block_ok z first prev at b) _ g), ← drop-pred (size_of r) x xs (omega arith)) (take-append-drop (size_of r) r)

pub join-blocks : (z : List ℕ) (first : ℕ) (prev : Bool) (at : ℕ) (r : List ℕ) → blocks_ok z first prev at (split_blocks r) ≡ true → join (split_blocks r) ≡ r
join-blocks z first prev at r g = join-from z first prev at 0 r g

pub blocks-join : (z : List ℕ) (first : ℕ) (prev : Bool) (at : ℕ) (bs : List (List ℕ)) → blocks_ok z first prev at bs ≡ true → split_blocks (join bs) ≡ bs
unfolding join blocks_ok
blocks-join z first prev at [] g = blocks-nil
blocks-join z first prev at (b ∷ bs) g =
    let gb = is-good z first prev at b (and_left _ (blocks_ok z first (is_free b) (at + length b) bs) g) in
    let r = b ++ join bs in
    let tk = take-append_seam b (join bs) in
    let l4 : smallest_block ≤ length b = omega (arith, gb.low, gb.whole) in
    let sz : size_of r ≡ length b = sym (size-take (length b) r l4) ∙ ap size_of tk ∙ gb.whole in
    let c = blocks-cons r (omega (arith, length-append b (join bs))) (omega arith) in
    c ∙ (rw (sz, tk, drop-append_seam b (join bs), blocks-join z first (is_free b) (at + length b) bs (and_right (block_ok z first prev at b) _ g)))

-- ---- one block

pub all-zero-is : (s : List ℕ) → all_zero s ≡ true → s ≡ replicate (length s) 0
unfolding all_zero
all-zero-is [] h = refl
all-zero-is (zero ∷ xs) h = ap (λ (t : List ℕ). 0 ∷ t) (all-zero-is xs h)
all-zero-is (suc x ∷ xs) h = let e = eqb-true (suc x) 0 (and_left (eqb (suc x) 0) (all_zero xs) h) in let q : ⊥ = omega arith in absurd q

-- the first two bytes are the type and the size
head-word : (b : List ℕ) (k : ℕ) → type_of b ≡ k → tag_at ≤ length b → Bytes b → from_be (take 2 b) ≡ k * type_unit + from_be (take 2 b) % type_unit
unfolding type_of
head-word b k e l y = omega (arith, be2-at b 0 l, y 0, y 1)

enc-free : (b : List ℕ) → type_of b ≡ free_code → smallest_block ≤ size_of b → size_of b ≡ length b → all_zero (drop free_header b) ≡ true → Bytes b → encode_block (cell (free (size_of b))) ≡ b
unfolding encode_block
enc-free b e l w zs y =
    let e₁ : size_of b / 2 ≡ from_be (take 4 b) = omega (arith, size-free b e) in
    let e₂ : replicate (size_of b - free_header) 0 ≡ drop free_header b = rw (w, ← length-drop free_header b) (sym (all-zero-is (drop free_header b) zs)) in
    rw (e₁, part_bytes 4 b y (omega arith), e₂) (take-append-drop free_header b)

-- a block that is not free: type and size, then the rest
used-back : (b : List ℕ) (k : ℕ) → type_of b ≡ suc k → size_of b ≡ length b → tag_at ≤ length b → Bytes b → to_be 2 (suc k * type_unit + length b / 2) ++ drop tag_at b ≡ b
used-back b k e w l y =
    let e₁ : suc k * type_unit + length b / 2 ≡ from_be (take 2 b) = omega (arith, size-used b k e, head-word b (suc k) e l y) in
    rw (e₁, part_bytes 2 b y l) (take-append-drop tag_at b)

-- a second word that is zero, then the data
fixed-tag : (b : List ℕ) → fixed_rule b ≡ true → smallest_block ≤ length b → Bytes b → fixed_tag ++ drop fixed_header b ≡ drop tag_at b
unfolding handle_of to_be
fixed-tag b r l y =
    let t = drop tag_at b in
    let zs : take 2 t ≡ fixed_tag = sym (part_bytes 2 t (bytes_drop tag_at b y) (omega (arith, length-drop tag_at b))) ∙ ap (to_be 2) (eqb-true (second_word b) 0 r) in
    ap₂ ◌++◌ (sym zs) (sym (drop-drop (length fixed_tag) tag_at b)) ∙ take-append-drop (length fixed_tag) t

enc-fixed : (b : List ℕ) → type_of b ≡ fixed_code → fixed_rule b ≡ true → smallest_block ≤ length b → size_of b ≡ length b → Bytes b → encode_block (fixed (drop fixed_header b)) ≡ b
unfolding encode_block
enc-fixed b e r l w y =
    let n : fixed_header + length (drop fixed_header b) ≡ length b = omega (arith, length-drop fixed_header b) in
    ap₂ (λ (n : ℕ) (t : List ℕ). to_be 2 (fixed_code * type_unit + n / 2) ++ t) n (fixed-tag b r l y) ∙ used-back b 0 e w (omega arith) y

enc-item : (b : List ℕ) (k : ℕ) → type_of b ≡ suc (suc k) → Read b (item_in b) → tag_at ≤ length b → size_of b ≡ length b → Bytes b → encode_block (cell (held (item_in b))) ≡ b
unfolding encode_block
enc-item b k e x l w y =
    ap₂ (λ (v : ℕ) (t : List ℕ). to_be 2 v ++ t) (ap₂ (λ (c n : ℕ). c * type_unit + n / 2) (x.code ∙ e) x.size) (x.tag y) ∙ used-back b (suc k) e w l y

pub enc-dec : (z : List ℕ) (first : ℕ) (prev : Bool) (at : ℕ) (b : List ℕ) → block_ok z first prev at b ≡ true → Bytes b → encode_block (decode_block b) ≡ b
unfolding decode_block type_rule free_rule
enc-dec z first prev at b g y =
    let gb = is-good z first prev at b g in
    go (type_of b) refl gb.low gb.whole gb.rule
  where
    go : (k : ℕ) → type_of b ≡ k → smallest_block ≤ size_of b → size_of b ≡ length b → rule_of k z first prev at b b ≡ true
        → encode_block (by_type k (cell (free (size_of b))) (fixed (drop fixed_header b)) (cell (held (item_in b)))) ≡ b
    go zero e l w r = enc-free b e l w (and_right (not prev) _ r) y
    go (suc zero) e l w r = enc-fixed b e r (omega arith) w y
    go (suc (suc k)) e l w r = enc-item b k e (read z first prev at b k g e) (omega arith) w y

-- ---- all blocks

encs-decs : (z : List ℕ) (first : ℕ) (prev : Bool) (at : ℕ) (bs : List (List ℕ)) → blocks_ok z first prev at bs ≡ true → Bytes (join bs) → map encode_block (map decode_block bs) ≡ bs
unfolding join blocks_ok
encs-decs z first prev at [] g y = refl
encs-decs z first prev at (b ∷ bs) g y =
    rw (
      enc-dec z first prev at b (and_left _ (blocks_ok z first (is_free b) (at + length b) bs) g) (bytes_left b (join bs) y),
      encs-decs z first (is_free b) (at + length b) bs (and_right (block_ok z first prev at b) _ g) (bytes-right b (join bs) y),
    )

pub tiles-bytes : (z : List ℕ) (first : ℕ) (prev : Bool) (at : ℕ) (r : List ℕ) → blocks_ok z first prev at (split_blocks r) ≡ true → Bytes r → join (map encode_block (map decode_block (split_blocks r))) ≡ r
tiles-bytes z first prev at r g y =
    let j = join-blocks z first prev at r g in
    rw (encs-decs z first prev at (split_blocks r) g (subst Bytes (sym j) y)) j
