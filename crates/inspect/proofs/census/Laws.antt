-- The laws that the census's proofs cite.
use mathlib.Core.Path.{◌≡◌, refl, ap, sym, ◌∙◌}
use mathlib.Core.Bool.{Bool, true, false}
use mathlib.Core.List.{List, [], ◌∷◌}
use Prim.Native.Nat.{ℕ, zero, suc, ◌+◌, ◌/◌, ◌≤◌, ◌<◌}
use native.Mathlib.Omega.{arith}
use native.Mathlib.Nat.{zero-add, add-zero}
use native.Mathlib.Decide.{ℕ_discrete}
use lib.Dec.{eqb}
use Rattle.std.specs.Prelude.{Result, Ok, Err}
use Rattle.std.specs.Result.{IsErrAnd, OnErr}
use Rattle.calls.specs.declared.Refusal.{Refusal}
use Rattle.access.specs.Checked.{HasZone, Opened, IsIll}
use Rattle.access.specs.declared.opened.Zone.{Zone}
use lib.ListN.{length, get_or, set, take, drop, replicate, length-set}
use lib.Seq.{get_or-set_same, get_or-set_other}
use Rattle.block_type.specs.Limits.{free_code, longest_zone, zone_header, strata}
use Rattle.format.specs.WellFormed.{is_free, well_formed, first_field, zone_of}
use Rattle.structure.specs.Structure.{Block, fixed, size, decode, cell}
use Rattle.bay.specs.Bay.{free, held}
use Rattle.access.specs.row.Row.{blocks_of, Stepped, block_at, free_b}
use Rattle.access.proofs.row.Laws.{row-end, free-code}
use Rattle.access.proofs.row.Zone.{blocks-are}
use Rattle.calls.specs.LentLimits.{rising, lent_ok}
use Rattle.calls.proofs.Order.{census-number}
use Rattle.zone.specs.Work.{facts}
use Rattle.zone.specs.Call.{zone_in}
use Rattle.zone.specs.Census.{counts_of, free_words, counted, census_number, census}
use Rattle.zone.specs.Formula.{FreeSize}
use Rattle.zone.proofs.Counts.{length-counts, zero-counts, one_more}
use Rattle.inspect.specs.strata.Stratum.{InStratum}
use Rattle.inspect.specs.strata.Limits.{limits_by, Lends}
use Rattle.inspect.specs.declared.strata.Limits.{Limits}
use Rattle.inspect.proofs.strata.Laws.{by-long}
use Rattle.inspect.specs.census.Tally.{adding, CountsIn, counts_in}
use Rattle.inspect.specs.census.Told.{counted_of, with_counts}

-- ---- one block more

-- one more on either side of a sum
adding-more : (cs ds : List ℕ) (j : ℕ) → j < length ds → length cs ≡ length ds → adding (set cs j (get_or cs j 0 + 1)) ds ≡ adding cs (set ds j (get_or ds j 0 + 1))
unfolding adding
adding-more cs [] j l e = absurd (omega arith)
adding-more [] (d ∷ ds) j l e = absurd (omega arith)
adding-more (c ∷ cs) (d ∷ ds) zero l e = ap (◌∷ adding cs ds) (omega arith)
adding-more (c ∷ cs) (d ∷ ds) (suc j) l e = ap ((c + d) ∷◌) (adding-more cs ds j (omega arith) (omega arith))

-- one count more is at most one more anywhere
set-few : (cs : List ℕ) (j k b : ℕ) → j < length cs → get_or cs k 0 ≤ b → get_or (set cs j (get_or cs j 0 + 1)) k 0 ≤ b + 1
set-few cs j k b l h = go (ℕ_discrete k j)
  where
    go : Dec (k ≡ j) → get_or (set cs j (get_or cs j 0 + 1)) k 0 ≤ b + 1
    go (yes e) = rw (e, get_or-set_same cs j (get_or cs j 0 + 1) 0 l) (omega (arith, rw e at h))
    go (no e) = rw (get_or-set_other cs j k (get_or cs j 0 + 1) 0 e) (omega arith)

-- ds are the counts cs with one block of w words more
record OneMore (limits cs : List ℕ) (w : ℕ) (ds : List ℕ) : Type 0 where
  same : (ws : List ℕ) → adding ds (counts_of limits ws) ≡ adding cs (counts_of limits (w ∷ ws))
  few : (k b : ℕ) → get_or cs k 0 ≤ b → get_or ds k 0 ≤ b + 1

counts-more : (limits cs : List ℕ) (w j : ℕ) → length cs ≡ length limits → rising limits ≡ true → InStratum limits w j → OneMore limits cs w (set cs j (get_or cs j 0 + 1))
counts-more limits cs w j e r s = record {
  same = λ ws.
      let n = length-counts limits ws in
      adding-more cs (counts_of limits ws) j (omega (arith, s.within)) (omega arith) ∙ ap (adding cs) (sym (one_more limits r j w ws s.within s.low s.high));
  few = λ k b. set-few cs j k b (omega (arith, s.within));
}

-- ---- one block

-- a block's size in words is one that a free block can have
pub free_size_is : (z : List ℕ) (p n : ℕ) → Stepped z p n → zone_header ≤ p → length z ≤ longest_zone → FreeSize (n / 2)
free_size_is z p n s h u = record { even = omega (arith, s.four); least = omega (arith, s.low); most = omega (arith, s.fits) }

words-free : (b : Block) (bs : List Block) → free_b b ≡ true → free_words (b ∷ bs) ≡ size b / 2 ∷ free_words bs
unfolding free_words
words-free (cell (free n)) bs e = refl
words-free (fixed d) bs e = let z : ◌≡◌ {A = ℕ} 0 1 = cc in let x : ⊥ = omega arith in absurd x
words-free (cell (held it)) bs e = let z : ◌≡◌ {A = ℕ} 0 1 = cc in let x : ⊥ = omega arith in absurd x

words-used : (b : Block) (bs : List Block) → free_b b ≡ false → free_words (b ∷ bs) ≡ free_words bs
unfolding free_words
words-used (cell (free n)) bs e = let z : ◌≡◌ {A = ℕ} 0 1 = cc in let x : ⊥ = omega arith in absurd x
words-used (fixed d) bs e = refl
words-used (cell (held it)) bs e = refl

-- cs are the counts cs₀ with the free blocks of z from first up to p, by these limits
pub record Tally (limits z : List ℕ) (first p : ℕ) (cs₀ cs : List ℕ) : Type 0 where
  pub long : length cs ≡ strata
  pub few : (k : ℕ) → get_or cs k 0 ≤ p
  pub same : adding cs (counts_of limits (free_words (blocks_of (drop p z)))) ≡ adding cs₀ (counts_of limits (free_words (blocks_of (drop first z))))

module _ (limits z : List ℕ) (first p n : ℕ) (s : Stepped z p n) (f : Bool) (ef : f ≡ is_free (drop p z)) (cs₀ cs ds : List ℕ) (t : Tally limits z first p cs₀ cs) where
  free-is : free_b (block_at z p) ≡ f
  unfolding is_free
  free-is = free-code (block_at z p) ∙ ap (λ (k : ℕ). eqb k free_code) s.kind ∙ sym ef

  pub tally-free : (j : ℕ) → f ≡ true → length limits ≡ strata → rising limits ≡ true → InStratum limits (n / 2) j → ds ≡ set cs j (get_or cs j 0 + 1) → Tally limits z first (p + n) cs₀ ds
  tally-free j q long rises i e =
      let o = counts-more limits cs (n / 2) j (t.long ∙ sym long) rises i in
      rw e record {
        long = length-set cs j (get_or cs j 0 + 1) ∙ t.long;
        few = λ k. omega (arith, o.few k p (t.few k), s.low);
        same = o.same (free_words (blocks_of (drop (p + n) z))) ∙ (rw (s.blocks, words-free (block_at z p) (blocks_of (drop (p + n) z)) (free-is ∙ q), s.bytes) at t.same);
      }

  pub tally-used : f ≡ false → ds ≡ cs → Tally limits z first (p + n) cs₀ ds
  tally-used q e = rw e record {
    long = t.long;
    few = λ k. omega (arith, t.few k);
    same = rw (s.blocks, words-used (block_at z p) (blocks_of (drop (p + n) z)) (free-is ∙ q)) at t.same;
  }

-- ---- all blocks

adding-zeros : (n : ℕ) (ds : List ℕ) → length ds ≡ n → adding (replicate n 0) ds ≡ ds
unfolding adding
adding-zeros zero [] e = refl
adding-zeros zero (d ∷ ds) e = let x : ⊥ = omega arith in absurd x
adding-zeros (suc n) [] e = let x : ⊥ = omega arith in absurd x
adding-zeros (suc n) (d ∷ ds) e = rw (zero-add, adding-zeros n ds (omega arith))

zeros-added : (n : ℕ) (cs : List ℕ) → adding cs (replicate n 0) ≡ cs
unfolding adding
zeros-added zero [] = refl
zeros-added zero (c ∷ cs) = refl
zeros-added (suc n) [] = refl
zeros-added (suc n) (c ∷ cs) = rw (add-zero, zeros-added n cs)

pub zeros-low : (n k p : ℕ) → get_or (replicate n 0) k 0 ≤ p
zeros-low zero k p = omega arith
zeros-low (suc n) zero p = omega arith
zeros-low (suc n) (suc k) p = zeros-low n k p

pub tally-start : (limits z : List ℕ) (first : ℕ) → first ≡ first_field z → Tally limits z (first_field z) first (replicate strata 0) (replicate strata 0)
tally-start limits z first e = record { long = refl; few = λ k. zeros-low strata k first; same = rw e refl }

pub tally-end : (limits z : List ℕ) (first p : ℕ) (cs₀ cs : List ℕ) → length z ≤ p → Tally limits z first p cs₀ cs → cs ≡ adding cs₀ (counts_of limits (free_words (blocks_of (drop first z))))
unfolding free_words
tally-end limits z first p cs₀ cs l t = sym (zeros-added (length limits) cs) ∙ ap (adding cs) (sym (zero-counts limits)) ∙ (rw (row-end z p l) at t.same)

-- ---- the call

pub counts-done : (l : Limits) (z : List ℕ) (p : ℕ) (cs : List ℕ) → length z ≤ p → Tally (limits_by l) z (first_field z) p (replicate strata 0) cs → CountsIn (limits_by l) z cs
counts-done l z p cs e t =
    let ws = free_words (blocks_of (drop (first_field z) z)) in
    counts_in (tally-end (limits_by l) z (first_field z) p (replicate strata 0) cs e t ∙ adding-zeros strata (counts_of (limits_by l) ws) (length-counts (limits_by l) ws ∙ by-long l))

-- what holds anyway holds where there is an error
pub on-err : {T E : Type 0} (P : Type 0) → P → (r : Result T E) → OnErr r P
on-err P p (Ok v) = tt
on-err P p (Err e) = p

module _ (s lent : List ℕ) where
  -- there is no zone
  pub census-ill : {T : Type 0} (r : Result T Refusal) (d : Refusal) (cs : List ℕ) → IsErrAnd r (λ y. y ≡ d) → IsIll s d → counted_of (with_counts r cs) ≡ census s lent
  census-ill (Ok _) d cs k i = absurd k
  census-ill (Err e) d cs k i =
      let q : e ≡ d = k in
      let n : census_number s lent ≡ 1 = census-number (facts (well_formed s) (zone_in s)) lent ∙ (rw i.ill) in
      rw (q, i.refusal_is, n)

  module _ (z : Zone) (o : Opened s z) where
    abbrev h : HasZone s (length z.bytes.now)
    h = o.has_zone

    -- there is one, and the limits break a rule
    pub census-bad : lent_ok lent ≡ false → counted 14 (replicate strata 0) ≡ census s lent
    census-bad m =
        let n : census_number s lent ≡ 14 = census-number (facts (well_formed s) (zone_in s)) lent ∙ (rw (h.well, m)) in
        rw n

    pub census-done : (l : Limits) (cs : List ℕ) → Lends lent l → CountsIn (limits_by l) z.bytes.now cs → counted 0 cs ≡ census s lent
    unfolding decode
    census-done l cs m (counts_in d) =
        let c : cs ≡ counts_of (limits_by l) (free_words (blocks_of (drop (first_field (take (length z.bytes.now) s)) (take (length z.bytes.now) s)))) = rw o.there d in
        let n : census_number s lent ≡ 0 = census-number (facts (well_formed s) (zone_in s)) lent ∙ (rw (h.well, m.ok)) in
        rw (n, ← m.same, c, h.is_len) (ap (λ (bs : List Block). counted 0 (counts_of (limits_by l) (free_words bs))) (blocks-are (zone_of s) (first_field (zone_of s)) refl))
