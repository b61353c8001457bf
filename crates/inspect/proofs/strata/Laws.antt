-- The laws that the proofs of a stratum cite: what lent limits are once their rules are met, and where a search by halving ends.
use mathlib.Core.Path.{◌≡◌, refl, ap, sym, ◌∙◌}
use mathlib.Core.Logic.{◌⊎◌, inl, inr}
use mathlib.Core.Bool.{Bool, true, false, ◌&&◌, ◌||◌}
use mathlib.Core.List.{List, []}
use Prim.Native.Nat.{ℕ, zero, suc, ◌+◌, ◌-◌, ◌*◌, ◌/◌, ◌^◌, ◌≤◌, ◌<◌}
use native.Mathlib.Omega.{arith}
use native.Mathlib.Nat.{zero-add}
use native.Mathlib.Decide.{ℕ_discrete}
use lib.Dec.{eqb, leb}
use lib.ListN.{length, get_or}
use lib.Seq.{take_all}
use borrow.Author.Tests.{eq-eqb, ne_eqb}
use Rattle.bigendian.specs.BigEndian.{from_be, slice}
use Rattle.block_type.specs.Limits.{strata, limit_size, limits_length, highest_limit}
use Rattle.calls.specs.LentLimits.{limits_in, rising, limits_ok, lent_ok}
use Rattle.calls.proofs.LentLimits.{length-limits, limit_is, rise-step, risen, ok-ruled}
use Rattle.zone.specs.Census.{limits_from, lower_limits}
use Rattle.zone.specs.Formula.{Stratum, FreeSize, stratum_of}
use Rattle.zone.proofs.Formula.{free-stratum}
use Rattle.std.specs.Simd.{first_chunks}
use Rattle.std.specs.Prelude.{◌==◌}
use Rattle.zone.proofs.Strata.{limits-ruled}
use Rattle.inspect.specs.strata.Stratum.{InStratum}
use Rattle.inspect.specs.strata.Limits.{limits_by, Lends}
use Rattle.inspect.specs.declared.strata.LentLimits.{LentLimits}
use Rattle.inspect.specs.declared.strata.Limits.{Limits}
use Rattle.inspect.specs.declared.strata.Limits.TheVariants.{Formula, Lent}

-- ---- one limit

pub limit-read : (lent : List ℕ) (i v : ℕ) → i < strata → v ≡ from_be (slice lent (limit_size * i) limit_size) → v ≡ get_or (limits_in strata lent) i 0
limit-read lent i v l e = e ∙ sym (limit_is strata i lent l)

-- ---- whether they rise

-- the first i limits rise, and v is the last of them
pub record Risen (lent : List ℕ) (i v : ℕ) : Type 0 where
  pub some : 0 < i
  pub upto : i ≤ strata
  pub here : v ≡ get_or (limits_in strata lent) (i - 1) 0
  pub rise : (k : ℕ) → suc k < i → get_or (limits_in strata lent) k 0 < get_or (limits_in strata lent) (suc k) 0

pub rise-start : (lent : List ℕ) (v : ℕ) → v ≡ get_or (limits_in strata lent) 0 0 → Risen lent 1 v
rise-start lent v e = record { some = omega arith; upto = omega arith; here = e; rise = λ k l. absurd (omega arith) }

module _ (lent : List ℕ) (i v next : ℕ) (r : Risen lent i v) (l : i < strata) (e : next ≡ get_or (limits_in strata lent) i 0) where
  -- the limit i - 1, with i as a successor
  before : (k : ℕ) → suc k ≡ i → v ≡ get_or (limits_in strata lent) k 0
  before k q = let p : i - 1 ≡ k = omega arith in r.here ∙ ap (λ (n : ℕ). get_or (limits_in strata lent) n 0) p

  pub rise-on : v < next → Risen lent (i + 1) next
  rise-on h =
      let p : i + 1 - 1 ≡ i = omega arith in
      record {
        some = omega arith;
        upto = omega arith;
        here = e ∙ ap (λ (n : ℕ). get_or (limits_in strata lent) n 0) (sym p);
        rise = λ k b. go k b (ℕ_discrete (suc k) i);
      }
    where
      go : (k : ℕ) → suc k < i + 1 → Dec (suc k ≡ i) → get_or (limits_in strata lent) k 0 < get_or (limits_in strata lent) (suc k) 0
      go k b (yes q) = omega (arith, before k q, e, ap (λ (n : ℕ). get_or (limits_in strata lent) n 0) q)
      go k b (no q) = r.rise k (omega arith)

  pub rise-not : next ≤ v → false ≡ rising (limits_in strata lent)
  rise-not h = sym (go (rising (limits_in strata lent)) refl)
    where
      go : (t : Bool) → rising (limits_in strata lent) ≡ t → t ≡ false
      go true q =
          let s = rise-step (limits_in strata lent) q (i - 1) (omega (arith, length-limits strata lent)) in
          let p : suc (i - 1) ≡ i = omega (arith, r.some) in
          absurd (omega (arith, s, e, r.here, ap (λ (n : ℕ). get_or (limits_in strata lent) n 0) p))
      go false q = refl

pub rise-end : (lent : List ℕ) (i v : ℕ) → Risen lent i v → strata ≤ i → true ≡ rising (limits_in strata lent)
rise-end lent i v r l = sym (risen (limits_in strata lent) (λ k b. r.rise k (omega (arith, length-limits strata lent))))

-- ---- whether they may be lent

-- the only chunk of as many bytes as lent limits have is the whole
pub whole-chunk : (s d chunk : List ℕ) (chunks : List (List ℕ)) → length s ≡ limits_length → chunks ≡ first_chunks limits_length (length s / limits_length) s → chunk ≡ get_or chunks 0 d → chunk ≡ s
whole-chunk s d chunk chunks long f c =
    c ∙ ap (λ (cs : List (List ℕ)). get_or cs 0 d) (f ∙ ap (λ (n : ℕ). first_chunks limits_length (n / limits_length) s) long) ∙ take_all limits_length s (omega (arith, long))

module _ (lent : List ℕ) where
  pub within-rules : (first last : ℕ) (rise : Bool) → first ≡ get_or (limits_in strata lent) 0 0 → last ≡ get_or (limits_in strata lent) (strata - 1) 0 → rise ≡ rising (limits_in strata lent)
      → ((eqb first 1 || eqb first 2) && (rise && leb last highest_limit)) ≡ limits_ok (limits_in strata lent)
  within-rules first last rise f l r = rw (f, l, r) refl

  module _ (b : Bool) (e : b ≡ (length lent == 0)) where
    pub lend-none : b ≡ true → Lends lent Formula
    lend-none t = let q : eqb (length lent) 0 ≡ true = sym e ∙ t in record { ok = rw q refl; same = rw q refl }

    module _ (f : b ≡ false) where
      some : eqb (length lent) 0 ≡ false
      some = sym e ∙ f

      pub lend-other : (length lent ≡ limits_length → ⊥) → lent_ok lent ≡ false
      lend-other m = rw (some, ne_eqb (length lent) limits_length m) refl

      module _ (bs : List ℕ) (long : length lent ≡ limits_length) (same : bs ≡ lent) where
        pub lend-not : (r : Bool) → r ≡ limits_ok (limits_in strata bs) → r ≡ false → lent_ok lent ≡ false
        lend-not r q n =
            let k : limits_ok (limits_in strata lent) ≡ false = ap (λ (x : List ℕ). limits_ok (limits_in strata x)) (sym same) ∙ sym q ∙ n in
            rw (some, eq-eqb (length lent) limits_length long, k)

      pub lend-limits : (l : LentLimits) → length lent ≡ limits_length → l.bytes.now ≡ lent → Lends lent (Lent l)
      lend-limits l long same =
          let k : limits_ok (limits_in strata lent) ≡ true = ap (λ (x : List ℕ). limits_ok (limits_in strata x)) (sym same) ∙ l.within in
          record {
            ok = rw (some, eq-eqb (length lent) limits_length long, k);
            same = rw some (ap (limits_in strata) same);
          }

-- ---- a size by halving

-- w words reach the limit `low`, and not the limit `high` if there is one
pub record Halved (lent : List ℕ) (w low high : ℕ) : Type 0 where
  pub apart : low < high
  pub most : high ≤ strata
  pub reached : get_or (limits_in strata lent) low 0 ≤ w
  pub beyond : high < strata → w < get_or (limits_in strata lent) high 0

pub halve-start : (lent : List ℕ) (w : ℕ) → limits_ok (limits_in strata lent) ≡ true → FreeSize w → Halved lent w 0 strata
halve-start lent w s f = record { apart = omega arith; most = omega arith; reached = go (ok-ruled (limits_in strata lent) s).first; beyond = λ l. absurd (omega arith) }
  where
    v : ℕ
    v = get_or (limits_in strata lent) 0 0

    go : (v ≡ 1) ⊎ (v ≡ 2) → v ≤ w
    go (inl e) = omega (arith, f.least)
    go (inr e) = omega (arith, f.least)

module _ (lent : List ℕ) (w low high v : ℕ) (h : Halved lent w low high) (l : low + 1 < high) (e : v ≡ get_or (limits_in strata lent) ((low + high) / 2) 0) where
  pub halve-up : v ≤ w → Halved lent w ((low + high) / 2) high
  halve-up q = record { apart = omega arith; most = h.most; reached = omega arith; beyond = h.beyond }

  pub halve-down : w < v → Halved lent w low ((low + high) / 2)
  halve-down q = record { apart = omega arith; most = omega (arith, h.most); reached = h.reached; beyond = λ k. omega arith }

pub halve-end : (lent : List ℕ) (w low high : ℕ) → Halved lent w low high → high ≤ low + 1 → InStratum (limits_in strata lent) w low
halve-end lent w low high h l =
    let e : high ≡ suc low = omega (arith, h.apart) in
    record {
      within = omega (arith, h.apart, h.most, length-limits strata lent);
      low = h.reached;
      high = λ b. omega (arith, h.beyond (omega (arith, length-limits strata lent)), ap (λ (n : ℕ). get_or (limits_in strata lent) n 0) e);
    }

-- ---- a size by the formula

power_at : (n i k : ℕ) → k < n → get_or (limits_from i n) k 0 ≡ 2 ^ (i + k)
power_at zero i k l = absurd (omega arith)
power_at (suc n) i zero l = let e : i ≡ i + 0 = omega arith in ap (λ (x : ℕ). 2 ^ x) e
power_at (suc n) i (suc k) l = let e : suc i + k ≡ i + suc k = omega arith in power_at n (suc i) k (omega arith) ∙ ap (λ (x : ℕ). 2 ^ x) e

by-power : (i w : ℕ) → Stratum i w → InStratum lower_limits w i
by-power i w s = record {
  within = s.within;
  low = rw (power_at strata 0 i s.within, zero-add) s.low;
  high = λ b. rw (power_at strata 0 (suc i) b, zero-add) s.high;
}

-- ---- either way

module _ (w r : ℕ) where
  pub formula-in : FreeSize w → r ≡ stratum_of w → r < strata
  formula-in f e = omega (arith, (free-stratum w f).within)

  pub stratum-formula : FreeSize w → r ≡ stratum_of w → InStratum lower_limits w r
  stratum-formula f e = rw e (by-power (stratum_of w) w (free-stratum w f))

  pub limits-in : (lent : List ℕ) → InStratum (limits_in strata lent) w r → r < strata
  limits-in lent s = omega (arith, s.within, length-limits strata lent)

-- any limits are nineteen, and rise
length-powers : (i n : ℕ) → length (limits_from i n) ≡ n
length-powers i zero = refl
length-powers i (suc n) = ap suc (length-powers (suc i) n)

pub by-long : (l : Limits) → length (limits_by l) ≡ strata
by-long Formula = length-powers 0 strata
by-long (Lent l) = length-limits strata l.bytes.now

pub by-rises : (l : Limits) → rising (limits_by l) ≡ true
by-rises Formula = (limits-ruled [] refl).rises
by-rises (Lent l) = (ok-ruled (limits_in strata l.bytes.now) l.within).rises
