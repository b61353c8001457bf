-- The stratum by the leading zeros of a size, for every size that a free block can have; that the census counts by it.
use mathlib.Core.Path.{◌≡◌, refl, ap, ap₂, sym, ◌∙◌}
use mathlib.Core.Bool.{Bool, true, false, cond, ◌&&◌, and-true}
use mathlib.Core.List.{List, [], ◌∷◌, ◌++◌, map}
use Prim.Native.Nat.{ℕ, zero, suc, ◌+◌, ◌-◌, ◌*◌, ◌/◌, ◌^◌, ◌≤◌, ◌<◌}
use native.Mathlib.Omega.{arith}
use native.Mathlib.Nat.{le_trans, lt_of_not-le, not-le_of_lt, lt_of_lt_of_le}
use native.Mathlib.Decide.{ℕ_discrete}
use lib.Pow.{pow_mono, pow_pos}
use lib.Count.{count_leading_zeros, leading_top}
use lib.Dec.{eqb, leb, ltb}
use lib.ListN.{length, drop}
use borrow.Author.Tests.{eq-eqb, ne_eqb, lt-ltb, leb-true, leb-false, ltb-true, ltb-false}
use Rattle.bigendian.specs.BigEndian.{Bytes}
use Rattle.block_type.specs.Limits.{free_code, fixed_header, longest_zone, zone_header, first_block, strata}
use Rattle.format.specs.WellFormed.{type_of, size_of, first_field, zone_of, split_blocks, well_formed}
use Rattle.format.proofs.Header.{first_of}
use Rattle.format.specs.Occurs.{occurs}
use Rattle.format.proofs.Count.{All, all-at}
use Rattle.kinds.specs.Kinds.{Item, item_in}
use Rattle.structure.specs.Structure.{Block, Structure, fixed, cell, by_type, decode_block, decode_zone, encode, decode, sizes}
use Rattle.structure.specs.Valid.{Tiled}
use Rattle.structure.proofs.Sound.{valid}
use Rattle.bay.specs.Bay.{free, held, gap}
use Rattle.bay.proofs.Laws.{gap-one}
use Rattle.zone.specs.Census.{limits_from, count_if, counts_of, free_words, counted, census}
use Rattle.zone.specs.Formula.{Stratum, words_met, words_in, FreeSize, bits, stratum_of, by_formula, census_by_formula, OneFree, FormulaSays}
use Rattle.zone.specs.Group.{flat_bay}
use Rattle.zone.specs.Work.{fresh}
use Rattle.zone.specs.Call.{in_line, initialize}
use Rattle.zone.proofs.Run.{stored-well, stored-decode}
use Rattle.zone.proofs.Initial.{Accepted, accepts, fresh-whole, fresh-stored}

-- ---- one size

-- powers of 2 on both sides of a number
apart : (i k w : ℕ) → 2 ^ i ≤ w → w < 2 ^ k → i < k
apart i k w l h = lt_of_not-le (λ (g : k ≤ i). not-le_of_lt h (le_trans (pow_mono g) l))

-- the formula gives the exponent of the highest bit, of every number of so many bits but 0
formula : (w : ℕ) → 0 < w → w < 2 ^ bits → (2 ^ stratum_of w ≤ w) × (w < 2 ^ suc (stratum_of w))
formula w p h =
    let t = leading_top bits w p h in
    let e : stratum_of w ≡ t.0 = omega (arith, t.1) in
    rw e (t.2, t.3)

-- no other exponent does
formula-only : (i w : ℕ) → w < 2 ^ bits → 2 ^ i ≤ w → w < 2 ^ suc i → i ≡ stratum_of w
formula-only i w h l u =
    let p = formula w (lt_of_lt_of_le (pow_pos i) l) h in
    omega (arith, apart i (suc (stratum_of w)) w l p.1, apart (stratum_of w) (suc i) w p.0 u)

-- no free block is beyond the last stratum
below_all : (w : ℕ) → FreeSize w → w < 2 ^ strata
below_all w f = omega (arith, f.most)

few_bits : (w : ℕ) → FreeSize w → w < 2 ^ bits
few_bits w f = lt_of_lt_of_le (below_all w f) (pow_mono {i = strata} {j = bits} (omega arith))

-- two words or more have a bit above the lowest, so the formula's difference is 1 at least
pub few-zeros : (w : ℕ) → FreeSize w → count_leading_zeros bits w < bits - 1
few-zeros w f =
    let t = leading_top bits w (omega (arith, f.least)) (few_bits w f) in
    omega (arith, t.1, apart 1 (suc t.0) w f.least t.3)

pub free-stratum : (w : ℕ) → FreeSize w → Stratum (stratum_of w) w
free-stratum w f =
    let p = formula w (omega (arith, f.least)) (few_bits w f) in
    record { within = apart (stratum_of w) strata w p.0 (below_all w f); low = p.0; high = p.1 }

only-stratum : (i w : ℕ) → Stratum i w → i ≡ stratum_of w
only-stratum i w s = formula-only i w (lt_of_lt_of_le s.high (pow_mono {i = suc i} {j = bits} (omega (arith, s.within)))) s.low s.high

-- ---- many sizes

occurs-is : (w : ℕ) (ws : List ℕ) → count_if (eqb w) ws ≡ occurs w ws
unfolding count_if occurs
occurs-is w [] = refl
occurs-is w (v ∷ ws) = rw (occurs-is w ws)

-- tests that agree at each size that a free block can have count alike
count_same : (f g : ℕ → Bool) → ((w : ℕ) → FreeSize w → f w ≡ g w) → (ws : List ℕ) → All FreeSize ws → count_if f ws ≡ count_if g ws
unfolding count_if
count_same f g h [] a = refl
count_same f g h (w ∷ ws) a = rw (h w a.0, count_same f g h ws a.1)

-- the definition's test of a stratum is that by the formula
module _ (i w : ℕ) (f : FreeSize w) where
  s : Stratum (stratum_of w) w
  s = free-stratum w f

  only_here : 2 ^ i ≤ w → w < 2 ^ suc i → i ≡ stratum_of w
  only_here l h = only-stratum i w record { within = apart i strata w l (below_all w f); low = l; high = h }

  test-is : (leb (2 ^ i) w && ltb w (2 ^ suc i)) ≡ eqb (stratum_of w) i
  test-is = go (ℕ_discrete (stratum_of w) i) (leb (2 ^ i) w) refl (ltb w (2 ^ suc i)) refl
    where
      go : Dec (stratum_of w ≡ i) → (x : Bool) → leb (2 ^ i) w ≡ x → (y : Bool) → ltb w (2 ^ suc i) ≡ y → (x && y) ≡ eqb (stratum_of w) i
      go (yes e) true p true q = sym (eq-eqb (stratum_of w) i e)
      go (yes e) true p false q = absurd (not-le_of_lt (rw e at s.high) (ltb-false w (2 ^ suc i) q))
      go (yes e) false p y q = absurd (not-le_of_lt (leb-false (2 ^ i) w p) (rw e at s.low))
      go (no n) true p true q = absurd (n (sym (only_here (leb-true (2 ^ i) w p) (ltb-true w (2 ^ suc i) q))))
      go (no n) true p false q = sym (ne_eqb (stratum_of w) i n)
      go (no n) false p y q = sym (ne_eqb (stratum_of w) i n)

  -- the last stratum's test has no upper limit
  last-is : suc i ≡ strata → leb (2 ^ i) w ≡ eqb (stratum_of w) i
  last-is e = sym (and-true (leb (2 ^ i) w)) ∙ (rw (lt-ltb w (2 ^ suc i) below) at test-is)
    where
      below : w < 2 ^ suc i
      below = lt_of_lt_of_le (below_all w f) (pow_mono {i = strata} {j = suc i} (omega arith))

-- n strata from i on, up to the last
by-formula : (n i : ℕ) (ws : List ℕ) → i + n ≡ strata → All FreeSize ws → counts_of (limits_from i n) ws ≡ by_formula i n ws
unfolding counts_of
by-formula zero i ws e a = refl
by-formula (suc zero) i ws e a = ap (◌∷ []) (count_same (leb (2 ^ i)) (λ w. eqb (stratum_of w) i) (λ w f. last-is i w f (omega arith)) ws a)
by-formula (suc (suc n)) i ws e a = ap₂ ◌∷◌
    (count_same (λ w. leb (2 ^ i) w && ltb w (2 ^ suc i)) (λ w. eqb (stratum_of w) i) (test-is i) ws a)
    (by-formula (suc n) (suc i) ws (omega arith) a)

-- ---- a zone's free blocks

all-free : (prev : Bool) (bs : List Block) → Tiled prev bs → sizes bs ≤ longest_zone - zone_header → All FreeSize (free_words bs)
unfolding sizes free_words
all-free prev [] t u = tt
all-free prev (cell (free n) ∷ bs) t u = (record { even = omega (arith, t.2); least = omega (arith, t.1); most = omega arith }, all-free true bs t.4 (omega arith))
all-free prev (fixed d ∷ bs) t u = all-free false bs t.3 (omega arith)
all-free prev (cell (held it) ∷ bs) t u = all-free false bs t.3 (omega arith)

zone-free : (bs : List ℕ) → Bytes bs → well_formed bs ≡ true → All FreeSize (free_words (decode bs).blocks)
zone-free bs y h = let v = valid bs y h in all-free false (decode bs).blocks v.tiled (omega (arith, v.short))

-- ---- what a walk meets are a zone's free blocks

by_code : (k n : ℕ) (d : List ℕ) (it : Item) (r : List Block) → free_words (by_type k (cell (free n)) (fixed d) (cell (held it)) ∷ r) ≡ cond (eqb k free_code) (n / 2 ∷ free_words r) (free_words r)
unfolding free_words
by_code zero n d it r = refl
by_code (suc zero) n d it r = refl
by_code (suc (suc k)) n d it r = rw (ne_eqb (suc (suc k)) free_code (λ q. omega arith)) refl

words-met : (l : List (List ℕ)) → free_words (map decode_block l) ≡ words_met l
unfolding free_words words_met decode_block
words-met [] = refl
words-met (b ∷ l) =
    by_code (type_of b) (size_of b) (drop fixed_header b) (item_in b) (map decode_block l)
    ∙ ap (λ (r : List ℕ). cond (eqb (type_of b) free_code) (size_of b / 2 ∷ r) r) (words-met l)

pub words_are : (bs : List ℕ) → well_formed bs ≡ true → free_words (decode bs).blocks ≡ words_in bs
unfolding decode decode_zone
words_are bs h = words-met (split_blocks (drop (first_field (zone_of bs)) (zone_of bs))) ∙ ap (λ (n : ℕ). words_met (split_blocks (drop n (zone_of bs)))) (first_of bs h)

pub all-met : (bs : List ℕ) → Bytes bs → well_formed bs ≡ true → All FreeSize (words_in bs)
all-met bs y h = rw (words_are bs h) at (zone-free bs y h)

same-answers : (bs : List ℕ) → Bytes bs → census_by_formula bs ≡ census bs []
same-answers bs y = go (well_formed bs) refl
  where
    go : (x : Bool) → well_formed bs ≡ x → census_by_formula bs ≡ census bs []
    go true h = rw (h, words_are bs h) (ap (counted 0) (sym (by-formula strata 0 (words_in bs) refl (all-met bs y h))))
    go false h = rw h refl

one_free : (k n : ℕ) → k ≡ n → 0 < n → flat_bay (gap k []) [] ≡ cell (free n) ∷ []
one_free k n e l = rw (gap-one k (omega arith), e)

-- initialize, with no master, leaves a zone of one free block
all-reached : (w : ℕ) → FreeSize w → (bs : List ℕ) → zone_header + w * 2 ≤ length bs → OneFree (w * 2) (initialize (zone_header + w * 2) 0 bs).bytes
all-reached w f bs l =
    let n : ℕ = zone_header + w * 2 in
    let a : Accepted (length bs) n 0 = record {
      by4 = omega (arith, f.even);
      above = omega arith;
      within = l;
      length-limit = omega (arith, f.most);
      masters-limit = omega arith;
    } in
    let z = fresh (length bs) n 0 in
    let after = encode (in_line z) ++ drop n bs in
    let x = fresh-whole (length bs) n 0 a in
    let s = fresh-stored (length bs) n 0 a bs refl in
    rw (accepts (length bs) n 0 a)
    (stored-well after z x s, ap (λ (u : Structure). u.blocks) (stored-decode after z x s) ∙ one_free (n - first_block 0) (w * 2) (omega arith) (omega (arith, f.least)))

pub formula-says : FormulaSays
formula-says = record {
  right = free-stratum;
  alone = only-stratum;
  sizes = λ bs y h w o. all-at FreeSize w (words_in bs) (all-met bs y h) (rw (occurs-is w (words_in bs)) at o);
  reached = all-reached;
  answers = same-answers;
}
