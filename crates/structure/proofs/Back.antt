-- From a valid structure to bytes and back.
use mathlib.Core.Path.{◌≡◌, refl, sym, ap, ap₂, ◌∙◌, subst}
use mathlib.Core.List.{List, [], ◌∷◌, ◌++◌, map, append_assoc}
use mathlib.Core.Bool.{Bool, true, false, cond}
use Prim.Native.Nat.{ℕ, zero, suc, ◌+◌, ◌*◌, ◌-◌, ◌/◌, ◌%◌, ◌^◌, ◌<◌, ◌≤◌}
use native.Mathlib.Nat.{zero-add}
use native.Mathlib.Omega.{arith}
use lib.Dec.{eqb}
use borrow.Author.Tests.{eqb-true, eqb-false, eq-eqb, ne_eqb, le-leb}
use lib.ListN.{length, drop, replicate, length-append}
use lib.Seq.{drop_at}
use Rattle.format.specs.Occurs.{occurs}
use Rattle.bigendian.specs.BigEndian.{from_be, to_be, slice}
use Rattle.bigendian.proofs.Laws.{length-to_be, be-front}
use Rattle.block_type.specs.Limits.{free_code, fixed_code, fixed_header, fixed_limit, reloc_header, zone_header, free_header, handle_range, master_size, smallest_block, argument_range, tag_at, type_unit}
use Rattle.memory.specs.Zeros.{all_zero}
use Rattle.format.specs.WellFormed.{type_of, size_of, handle_of, name_of, is_free, is_reloc, is_page, is_master, master_at, relocs, names, offsets, chain}
use Rattle.format.specs.OneWalk.{links, type_rule, free_rule, fixed_rule, reloc_rule, block_ok, blocks_ok, rule_of}
use Rattle.format.proofs.Masters.{Master}
use Rattle.format.proofs.Count.{one_same}
use Rattle.structure.specs.Structure.{Block, fixed, size, code, fixed_tag, encode_block, decode_block, by_type, sizes, head_of, place_of, next_of, words, join, cell, handles_of, names_in}
use Rattle.kinds.specs.Kinds.{item_in, item_size, Item, is, code_of, tag_of, masters_of}
use Rattle.kinds.proofs.KindLaws.{facts, is-header, ok_of, rule-of, masters-long, names-of}
use Rattle.bay.specs.Bay.{Cell, free, held, cell_code}
use Rattle.bay.specs.Bytes.{encode_cell}
use Rattle.bay.specs.Sound.{decode_cell, Sound1}
use Rattle.bay.proofs.CellBytes.{enc, used}
use Rattle.structure.proofs.Append.{occurs-held, occurs-own}
use Rattle.structure.specs.Valid.{Tiled}

-- ---- one block

all-zeros : (n : ℕ) → all_zero (replicate n 0) ≡ true
unfolding all_zero
all-zeros zero = refl
all-zeros (suc n) = all-zeros n

-- what the bytes of a block say
pub record Enc (b : Block) : Type 0 where
  pub long : length (encode_block b) ≡ size b
  pub same : size_of (encode_block b) ≡ size b
  pub back : decode_block (encode_block b) ≡ b
  pub kind : type_of (encode_block b) ≡ code b

dec-fixed : (e d : List ℕ) → type_of e ≡ fixed_code → drop fixed_header e ≡ d → decode_block e ≡ fixed d
unfolding decode_block
dec-fixed e d k s = rw (k, s)

dec-cell : (b : List ℕ) → (type_of b ≡ fixed_code → ⊥) → decode_block b ≡ cell (decode_cell b)
unfolding decode_block decode_cell
dec-cell b n = go (type_of b) n
  where
    go : (k : ℕ) → (k ≡ fixed_code → ⊥) → by_type k (cell (free (size_of b))) (fixed (drop fixed_header b)) (cell (held (item_in b))) ≡ cell (cond (eqb k free_code) (free (size_of b)) (held (item_in b)))
    go zero q = refl
    go (suc zero) q = absurd (q refl)
    go (suc (suc k)) q = rw (ne_eqb (suc (suc k)) free_code (λ x. omega arith))

not-fixed : (c : Cell) → cell_code c ≡ fixed_code → ⊥
not-fixed (free n) q = omega arith
not-fixed (held e) q = (facts e).movable q

-- the header behind type and size, and the data
tag-of : (i : Item) → drop tag_at (encode_block (cell (held i))) ≡ tag_of i ++ i.bytes
unfolding encode_block
tag-of i = let v = code_of i * type_unit + item_size i / 2 in drop_at (to_be 2 v) (tag_of i ++ i.bytes) tag_at (length-to_be 2 v)

pub enc-cell : (c : Cell) → Sound1 c → Enc (cell c)
unfolding encode_block
enc-cell c s =
    let x = enc c s in
    record { long = x.long; same = x.same; kind = x.code; back = dec-cell (encode_cell c) (λ q. not-fixed c (sym x.code ∙ q)) ∙ ap cell x.back }

pub enc-fixed : (d : List ℕ) → (fixed_header + length d) % 4 ≡ 0 → length d ≤ fixed_limit → Enc (fixed d)
unfolding encode_block
enc-fixed d q u =
    let w = used fixed_code (fixed_header + length d) fixed_tag d (omega arith) (omega arith) (omega arith) q (omega arith) in
    record { long = w.long; same = w.same; kind = w.code; back = dec-fixed (encode_block (fixed d)) d w.code w.holds }

-- ---- the test of a block, from facts

good_of : (z : List ℕ) (first : ℕ) (prev : Bool) (at : ℕ) (b : Block) → Enc b → smallest_block ≤ size b → size b % 4 ≡ 0
    → rule_of (type_of (encode_block b)) z first prev at (encode_block b) (encode_block b) ≡ true → block_ok z first prev at (encode_block b) ≡ true
unfolding block_ok
good_of z first prev at b e l q r =
    rw (le-leb smallest_block (size_of (encode_block b)) (omega (arith, e.same)), eq-eqb (size_of (encode_block b) % 4) 0 (rw e.same q), eq-eqb (size_of (encode_block b)) (length (encode_block b)) (omega (arith, e.same, e.long))) r

pub master-of : (first h : ℕ) → Master first h → is_master first h ≡ true
unfolding is_master
master-of first h m = rw (le-leb zone_header h m.low, le-leb (h + master_size) first m.fits, eq-eqb (h % 4) 0 m.four)

free-good : (n : ℕ) (prev : Bool) → prev ≡ false → free_rule prev (encode_block (cell (free n))) ≡ true
unfolding encode_block free_rule
free-good n prev e = rw (e, drop_at (to_be 4 (n / 2)) (replicate (n - free_header) 0) free_header (length-to_be 4 (n / 2))) (all-zeros (n - free_header))

fixed-good : (d : List ℕ) → fixed_rule (encode_block (fixed d)) ≡ true
unfolding encode_block handle_of from_be
fixed-good d = let v = fixed_code * type_unit + (fixed_header + length d) / 2 in rw (drop_at (to_be 2 v) (fixed_tag ++ d) tag_at (length-to_be 2 v))

reloc-good : (z : List ℕ) (first at h : ℕ) → Master first h → master_at z h ≡ at + reloc_header → reloc_rule z first at h ≡ true
unfolding reloc_rule
reloc-good z first at h m e = rw (master-of first h m, eq-eqb (master_at z h) (at + reloc_header) e)

-- a block found among the others is not the first
not_first : (t : Bool) (n : ℕ) → cond t 1 0 + n ≤ 1 → 0 < n → t ≡ false
not_first true n l u = let x : ⊥ = omega arith in absurd x
not_first false n l u = refl

-- the name of a block, where it is a page
abbrev names_of1 : List ℕ → List ℕ
names_of1 b = cond (is_page b) (name_of b ∷ []) []

names-cons : (b : List ℕ) (bs : List (List ℕ)) → names (b ∷ bs) ≡ names_of1 b ++ names bs
unfolding names
names-cons b bs = go (is_page b)
  where
    go : (t : Bool) → cond t (name_of b ∷ names bs) (names bs) ≡ cond t (name_of b ∷ []) [] ++ names bs
    go true = refl
    go false = refl

-- ---- all blocks; each handle's master holds its block's place

pub record Placed (z : List ℕ) (first at : ℕ) (bs : List Block) : Type 0 where
  pub holds : (h : ℕ) → 0 < occurs h (handles_of bs) → Master first h × (master_at z h ≡ place_of (is h) at bs)
  pub single : (h : ℕ) → occurs h (handles_of bs) ≤ 1

-- what the bytes of all the blocks say
pub record Encs (z : List ℕ) (first : ℕ) (prev : Bool) (at : ℕ) (bs : List Block) : Type 0 where
  pub walk : blocks_ok z first prev at (map encode_block bs) ≡ true
  pub back : map decode_block (map encode_block bs) ≡ bs
  pub counts : relocs (map encode_block bs) ≡ length (handles_of bs)
  pub names : names (map encode_block bs) ≡ names_in bs
  pub sums : length (join (map encode_block bs)) ≡ sizes bs

module _ (z : List ℕ) (first : ℕ) (small : first ≤ handle_range) where
  cons : (prev next : Bool) (at : ℕ) (b : Block) (bs : List Block) → Enc b → block_ok z first prev at (encode_block b) ≡ true → is_free (encode_block b) ≡ next
      → cond (is_reloc (encode_block b)) 1 0 + length (handles_of bs) ≡ length (handles_of (b ∷ bs)) → names_of1 (encode_block b) ++ names_in bs ≡ names_in (b ∷ bs) → Encs z first next (at + size b) bs → Encs z first prev at (b ∷ bs)
  unfolding blocks_ok relocs join sizes
  cons prev next at b bs e g f c n r = record {
    walk = rw (g, f, e.long) r.walk;
    back = ap₂ (λ (x : Block) (xs : List Block). x ∷ xs) e.back r.back;
    counts = ap (λ (n : ℕ). cond (is_reloc (encode_block b)) 1 0 + n) r.counts ∙ c;
    names = names-cons (encode_block b) (map encode_block bs) ∙ ap (names_of1 (encode_block b) ++◌) r.names ∙ n;
    sums = omega (arith, length-append (encode_block b) (join (map encode_block bs)), e.long, r.sums);
  }

  pub encs : (prev : Bool) (at : ℕ) (bs : List Block) → Tiled prev bs → Placed z first at bs → Encs z first prev at bs
  unfolding blocks_ok relocs names join sizes handles_of names_in type_rule is_free is_reloc is_page occurs place_of
  encs prev at [] t p = record { walk = refl; back = refl; counts = refl; names = refl; sums = refl }
  encs prev at (cell (free n) ∷ bs) t p =
      let e = enc-cell (free n) (t.1, t.2, t.3) in
      let k = e.kind in
      cons prev true at (cell (free n)) bs e (good_of z first prev at (cell (free n)) e t.1 t.2 (rw k (free-good n prev t.0))) (rw k) (rw k (zero-add _)) (rw k)
      (encs true (at + n) bs t.4 (record { holds = p.holds; single = p.single }))
  encs prev at (fixed d ∷ bs) t p =
      let e = enc-fixed d t.0 t.1 in
      let k = e.kind in
      cons prev false at (fixed d) bs e (good_of z first prev at (fixed d) e (omega (arith, t.0)) t.0 (rw k (fixed-good d))) (rw k) (rw k (zero-add _)) (rw k)
      (encs false (at + (fixed_header + length d)) bs t.3 (record { holds = p.holds; single = p.single }))
  encs prev at (cell (held i) ∷ bs) t p =
      let own : (h : ℕ) → is h i ≡ true → Master first h × (master_at z h ≡ at + reloc_header) = λ h y.
      let q = p.holds h (occurs-own h i bs y) in
      (q.0, q.1 ∙ (rw (y, is-header h i y))) in
      let ok = ok_of i t.2 (λ h y. omega (arith, (own h y).0.fits)) in
      let e = enc-cell (held i) (t.0, t.1, ok) in
      let k = e.kind in
      let f = facts i in
      cons prev false at (cell (held i)) bs e (good_of z first prev at (cell (held i)) e (omega (arith, f.low)) t.0
      (rule-of z first prev at (encode_block (cell (held i))) i k (omega (arith, e.same)) (tag-of i) ok (λ h y. reloc-good z first at h (own h y).0 (own h y).1)))
      (rw (k, ne_eqb (code_of i) free_code (λ x. omega (arith, f.used)))) (rw k (omega (arith, masters-long i, length-append (masters_of i) (handles_of bs)))) (ap (◌++ names_in bs) (names-of i (encode_block (cell (held i))) k (tag-of i) ok))
      (encs false (at + item_size i) bs t.3 (record {
        holds = λ g l. let r = p.holds g (omega (arith, occurs-held g i bs)) in
            (r.0, (rw (not_first (is g i) (occurs g (handles_of bs)) (omega (arith, occurs-held g i bs, p.single g)) l) at r.1));
        single = λ g. omega (arith, occurs-held g i bs, p.single g);
      }))

-- ---- the chain

pub record Linked (z : List ℕ) (first : ℕ) (ks : List ℕ) : Type 0 where
  pub holds : (k : ℕ) → 0 < occurs k ks → Master first k × (master_at z k ≡ next_of k ks)
  pub single : (k : ℕ) → occurs k ks ≤ 1

linked-tail : (z : List ℕ) (first k : ℕ) (ks : List ℕ) → Linked z first (k ∷ ks) → Linked z first ks
unfolding occurs next_of
linked-tail z first k ks p = record {
  holds = λ g l. let r = p.holds g (omega arith) in
      let other : (g ≡ k → ⊥) = λ x. omega (arith, one_same g k x, p.single g) in
      (r.0, (rw (ne_eqb g k other) at r.1));
  single = λ g. omega (arith, p.single g);
}

linked-head : (z : List ℕ) (first k : ℕ) (ks : List ℕ) → Linked z first (k ∷ ks) → Master first k × (master_at z k ≡ head_of ks)
unfolding occurs next_of
linked-head z first k ks p =
    let r = p.holds k (omega (arith, one_same k k refl)) in
    (r.0, (rw (eq-eqb k k refl) at r.1))

pub chain-links : (z : List ℕ) (first : ℕ) (ks : List ℕ) → Linked z first ks → links z first (length ks) (head_of ks) ≡ true
unfolding links
chain-links z first [] p = refl
chain-links z first (k ∷ ks) p =
    let r = linked-head z first k ks p in
    rw (master-of first k r.0, r.1) (chain-links z first ks (linked-tail z first k ks p))

pub chain_back : (z : List ℕ) (first : ℕ) (ks : List ℕ) → Linked z first ks → chain z (length ks) (head_of ks) ≡ ks
unfolding chain
chain_back z first [] p = refl
chain_back z first (k ∷ ks) p =
    ap (λ (t : List ℕ). k ∷ t) (rw (linked-head z first k ks p).1 (chain_back z first ks (linked-tail z first k ks p)))

-- ---- the parts of the bytes

-- a number of n bytes at offset k, where a is what stands before it
at-seam : (a t : List ℕ) (n v k : ℕ) → length a ≡ k → v < 256 ^ n → from_be (slice (a ++ (to_be n v ++ t)) k n) ≡ v
at-seam a t n v k e l = rw (drop_at a (to_be n v ++ t) k e) (be-front n v t l)

-- a master's word
pub words-at : (a t : List ℕ) (f : ℕ → ℕ) (k n h : ℕ) → length a ≡ k → k ≤ h → h < k + master_size * n → h % 4 ≡ k % 4 → f h < argument_range
    → from_be (slice (a ++ (words f (offsets k n) ++ t)) h 4) ≡ f h
unfolding words offsets
words-at a t f k zero h e l u q v = let x : ⊥ = omega arith in absurd x
words-at a t f k (suc n) h e l u q v =
    rw (append_assoc (to_be 4 (f k)) (words f (offsets (k + master_size) n)) t)
    (go (eqb h k) refl (λ ne. words-at (a ++ to_be 4 (f k)) t f (k + master_size) n h (simp (length-append, length-to_be) (omega arith)) (omega arith) (omega arith) (omega arith) v))
  where
    go : (b : Bool) → eqb h k ≡ b → ((h ≡ k → ⊥) → from_be (slice ((a ++ to_be 4 (f k)) ++ (words f (offsets (k + master_size) n) ++ t)) h 4) ≡ f h)
        → from_be (slice (a ++ (to_be 4 (f k) ++ (words f (offsets (k + master_size) n) ++ t))) h 4) ≡ f h
    go true y r = let hk = eqb-true h k y in rw hk (at-seam a (words f (offsets (k + master_size) n) ++ t) 4 (f k) k e (subst (λ (x : ℕ). f x < argument_range) hk v))
    go false y r = rw (← append_assoc a (to_be 4 (f k)) (words f (offsets (k + master_size) n) ++ t)) (r (eqb-false h k y))
