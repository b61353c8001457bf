-- The mill's own strata: which bytes may be lent, and that the census counts each free block in the last stratum whose limit it reaches.
use mathlib.Core.Path.{◌≡◌, refl, ap, ◌∙◌}
use mathlib.Core.Logic.{◌⊎◌, inl, inr}
use mathlib.Core.Bool.{Bool, true, false, cond, ◌&&◌, ◌||◌}
use mathlib.Core.List.{List, []}
use Prim.Native.Nat.{ℕ, suc, ◌-◌, ◌*◌, ◌/◌, ◌≤◌, ◌<◌}
use native.Mathlib.Omega.{arith}
use lib.Dec.{eqb}
use lib.ListN.{length, get_or, replicate}
use borrow.Author.Tests.{eqb-true}
use Rattle.bigendian.specs.BigEndian.{Bytes, from_be, to_be}
use Rattle.bigendian.proofs.Laws.{be4-at}
use Rattle.block_type.specs.Limits.{smallest_block, strata, limit_size, limits_length}
use Rattle.format.specs.WellFormed.{well_formed}
use Rattle.format.proofs.Bool.{and_left, and_right, is_false}
use Rattle.structure.specs.Structure.{decode}
use Rattle.calls.specs.LentLimits.{limits_in, rising, limits_ok, lent_ok}
use Rattle.calls.proofs.LentLimits.{limit_is, rise-step, risen, Ruled, ok-ruled, ruled-ok}
use Rattle.calls.proofs.Order.{census-number}
use Rattle.zone.specs.Work.{facts}
use Rattle.zone.specs.Call.{zone_in}
use Rattle.zone.specs.Census.{lower_limits, limits_of, count_if, counts_of, free_words, Counted, counted, census_number, census}
use Rattle.zone.specs.Formula.{words_in, FreeSize}
use Rattle.zone.specs.Strata.{limit_at, Within, MayLend, Last, last_of, total_of, limit_bytes, StrataSays}
use Rattle.zone.proofs.Formula.{words_are, all-met}
use Rattle.zone.proofs.Counts.{length-counts, last_within, last-low, last-high, last-only, counts-last, counts-total}

-- ---- what may be lent

low_first : (n : ℕ) → (n ≡ 1) ⊎ (n ≡ 2) → n ≤ smallest_block / 2
low_first n (inl e) = omega arith
low_first n (inr e) = omega arith

module _ (lent : List ℕ) where
  abbrev limits : List ℕ
  limits = limits_in strata lent

  limit-at : length lent ≡ limits_length → (i : ℕ) → i < strata → get_or limits i 0 ≡ limit_at lent i
  limit-at e i l = limit_is strata i lent l ∙ be4-at lent (limit_size * i) (omega arith) ∙ omega arith

  within-is : length lent ≡ limits_length → Ruled limits → Within lent
  within-is e k = record {
    long = e;
    first = rw (limit-at e 0 (omega arith)) at k.first;
    rise = λ i l. rw (limit-at e i (omega arith), limit-at e (suc i) l) at (rise-step limits k.rises i l);
    last = rw (limit-at e (strata - 1) (omega arith)) at k.last;
  }

  ruled-is : Within lent → Ruled limits
  ruled-is k = record {
    first = rw (limit-at k.long 0 (omega arith)) k.first;
    rises = risen limits (λ i l. rw (limit-at k.long i (omega arith), limit-at k.long (suc i) l) (k.rise i l));
    last = rw (limit-at k.long (strata - 1) (omega arith)) k.last;
  }

  -- nothing, or limits that pass
  lent-cases : lent_ok lent ≡ true → (length lent ≡ 0) ⊎ ((length lent ≡ limits_length) × Ruled limits)
  lent-cases h = go (eqb (length lent) 0) refl h
    where
      go : (t : Bool) → eqb (length lent) 0 ≡ t → (t || (eqb (length lent) limits_length && limits_ok limits)) ≡ true → (length lent ≡ 0) ⊎ ((length lent ≡ limits_length) × Ruled limits)
      go true e h = inl (eqb-true (length lent) 0 e)
      go false e h =
          let t : Bool = eqb (length lent) limits_length in
          inr (eqb-true (length lent) limits_length (and_left t (limits_ok limits) h), ok-ruled limits (and_right t (limits_ok limits) h))

  ok-may : lent_ok lent ≡ true → MayLend lent
  ok-may h = go (lent-cases h)
    where
      go : (length lent ≡ 0) ⊎ ((length lent ≡ limits_length) × Ruled limits) → MayLend lent
      go (inl e) = inl e
      go (inr k) = inr (within-is k.0 k.1)

  may-ok : MayLend lent → lent_ok lent ≡ true
  may-ok (inl e) = rw e refl
  may-ok (inr k) = rw (k.long, ruled-ok limits (ruled-is k)) refl

-- ---- the limits that hold, lent or not

powers-ruled : Ruled lower_limits
unfolding rising
powers-ruled = record { first = inl refl; rises = refl; last = omega arith }

pub limits-ruled : (lent : List ℕ) → lent_ok lent ≡ true → Ruled (limits_of lent)
limits-ruled lent h = go (lent-cases lent h)
  where
    go : (length lent ≡ 0) ⊎ ((length lent ≡ limits_length) × Ruled (limits_in strata lent)) → Ruled (limits_of lent)
    go (inl e) = rw e powers-ruled
    go (inr k) = rw k.0 k.1

pub limits-long : (lent : List ℕ) → length (limits_of lent) ≡ strata
limits-long lent = go (eqb (length lent) 0)
  where
    go : (t : Bool) → length (cond t lower_limits (limits_in strata lent)) ≡ strata
    go true = refl
    go false = refl

-- ---- which stratum

last-right : (lent : List ℕ) → Within lent → (w : ℕ) → FreeSize w → Last (limit_at lent) w (last_of (limit_at lent) w strata)
last-right lent k w f = record {
  within = omega (arith, last_within (limit_at lent) w strata);
  low = last-low (limit_at lent) w strata (omega (arith, low_first (limit_at lent 0) k.first, f.least));
  last = last-high (limit_at lent) w strata;
}

-- ---- the answer

module _ (zone lent : List ℕ) where
  number_is : census_number zone lent ≡ cond (well_formed zone) (cond (lent_ok lent) 0 14) 1
  number_is = census-number (facts (well_formed zone) (zone_in zone)) lent

  answered : well_formed zone ≡ true → lent_ok lent ≡ true → census zone lent ≡ counted 0 (counts_of (limits_of lent) (words_in zone))
  answered h k = rw (number_is, h, k, ← words_are zone h) refl

  all-nineteen : length (census zone lent).counts ≡ strata
  all-nineteen = go (eqb (census_number zone lent) 0)
    where
      go : (t : Bool) → length (cond t (counted 0 (counts_of (limits_of lent) (free_words (decode zone).blocks))) (counted (census_number zone lent) (replicate strata 0))).counts ≡ strata
      go true = length-counts (limits_of lent) (free_words (decode zone).blocks) ∙ limits-long lent
      go false = refl

  module _ (y : Bytes zone) (h : well_formed zone ≡ true) where
    counted-last : Within lent → (i : ℕ) → get_or (census zone lent).counts i 0 ≡ count_if (λ w. eqb (last_of (limit_at lent) w strata) i) (words_in zone)
    counted-last k i =
        rw (answered h (may-ok lent (inr k)), k.long)
        (counts-last (limits_in strata lent) (ruled-is lent k).rises (limit_at lent) (limit-at lent k.long) (omega arith) (low_first (limit_at lent 0) k.first) (words_in zone) (all-met zone y h) i)

    counted-once : MayLend lent → total_of (census zone lent).counts ≡ length (words_in zone)
    counted-once m =
        let ls : List ℕ = limits_of lent in
        let k = may-ok lent m in
        let r = limits-ruled lent k in
        rw (answered h k) (counts-total ls r.rises (λ i. get_or ls i 0) (λ i l. refl) (omega (arith, limits-long lent)) (low_first (get_or ls 0 0) r.first) (words_in zone) (all-met zone y h))

-- the powers of 2, lent, pass and are read as they are
powers-same : (zone : List ℕ) → census zone (limit_bytes lower_limits) ≡ census zone []
unfolding rising from_be to_be
powers-same zone = refl

pub strata-says : StrataSays
strata-says = record {
  broken = λ zone lent h. rw (number_is zone lent, h) refl;
  refused = λ zone lent h n. rw (number_is zone lent, h, is_false (lent_ok lent) (λ k. n (ok-may lent k))) refl;
  done = λ zone lent h m. ap (λ (c : Counted). c.number) (answered zone lent h (may-ok lent m));
  right = last-right;
  alone = λ lent w i l. last-only (limit_at lent) w strata i l.within l.low l.last;
  counts = λ zone lent y h k i l. counted-last zone lent y h k i;
  nineteen = all-nineteen;
  once = λ zone lent y h m. counted-once zone lent y h m;
  powers = powers-same;
}
