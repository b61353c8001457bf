-- Lent limits one by one: where each stands in the bytes, that the first of those which rise is below each later one, and their rules as facts.
use mathlib.Core.Path.{◌≡◌, refl, ap, ◌∙◌}
use mathlib.Core.Logic.{◌⊎◌, inl, inr}
use mathlib.Core.Bool.{Bool, true, false, ◌&&◌, ◌||◌}
use mathlib.Core.List.{List, [], ◌∷◌}
use Prim.Native.Nat.{ℕ, zero, suc, ◌+◌, ◌-◌, ◌*◌, ◌<◌, ◌≤◌}
use native.Mathlib.Omega.{arith}
use lib.Dec.{eqb, leb, ltb}
use lib.ListN.{length, get_or, drop}
use lib.Seq.{drop-drop}
use borrow.Author.Tests.{le-leb, lt-ltb, eqb-true, leb-true, ltb-true}
use Rattle.bigendian.specs.BigEndian.{from_be, slice}
use Rattle.block_type.specs.Limits.{strata, limit_size, highest_limit}
use Rattle.format.proofs.Bool.{and_left, and_right}
use Rattle.calls.specs.LentLimits.{limits_in, rising, limits_ok}

pub length-limits : (n : ℕ) (bs : List ℕ) → length (limits_in n bs) ≡ n
length-limits zero bs = refl
length-limits (suc n) bs = ap suc (length-limits n (drop limit_size bs))

pub limit_is : (n i : ℕ) (bs : List ℕ) → i < n → get_or (limits_in n bs) i 0 ≡ from_be (slice bs (limit_size * i) limit_size)
limit_is zero i bs l = absurd (omega arith)
limit_is (suc n) zero bs l = refl
limit_is (suc n) (suc i) bs l =
    let e : limit_size + limit_size * i ≡ limit_size * suc i = omega arith in
    limit_is n i (drop limit_size bs) (omega arith) ∙ (rw (drop-drop (limit_size * i) limit_size bs, e) refl)

-- ---- limits that rise

pub rise-front : (a b : ℕ) (ls : List ℕ) → rising (a ∷ (b ∷ ls)) ≡ true → a < b
unfolding rising
rise-front a b ls r = ltb-true a b (and_left (ltb a b) (rising (b ∷ ls)) r)

pub rise-rest : (a : ℕ) (ls : List ℕ) → rising (a ∷ ls) ≡ true → rising ls ≡ true
unfolding rising
rise-rest a [] r = refl
rise-rest a (b ∷ ls) r = and_right (ltb a b) (rising (b ∷ ls)) r

pub rise-step : (ls : List ℕ) → rising ls ≡ true → (i : ℕ) → suc i < length ls → get_or ls i 0 < get_or ls (suc i) 0
rise-step [] r i l = absurd (omega arith)
rise-step (a ∷ []) r i l = absurd (omega arith)
rise-step (a ∷ (b ∷ ls)) r zero l = rise-front a b ls r
rise-step (a ∷ (b ∷ ls)) r (suc i) l = rise-step (b ∷ ls) (rise-rest a (b ∷ ls) r) i (omega arith)

-- the first is below each later one
pub rise-first : (a : ℕ) (ls : List ℕ) → rising (a ∷ ls) ≡ true → (j : ℕ) → j < length ls → a < get_or ls j 0
rise-first a [] r j l = absurd (omega arith)
rise-first a (b ∷ ls) r zero l = rise-front a b ls r
rise-first a (b ∷ ls) r (suc j) l = omega (arith, rise-front a b ls r, rise-first b ls (rise-rest a (b ∷ ls) r) j (omega arith))

-- and the other way round
pub risen : (ls : List ℕ) → ((i : ℕ) → suc i < length ls → get_or ls i 0 < get_or ls (suc i) 0) → rising ls ≡ true
unfolding rising
risen [] h = refl
risen (a ∷ []) h = refl
risen (a ∷ (b ∷ ls)) h = rw (lt-ltb a b (h 0 (omega arith)), risen (b ∷ ls) (λ i l. h (suc i) (omega arith)))

-- ---- the rules

pub record Ruled (ls : List ℕ) : Type 0 where
  pub first : (get_or ls 0 0 ≡ 1) ⊎ (get_or ls 0 0 ≡ 2)
  pub rises : rising ls ≡ true
  pub last : get_or ls (strata - 1) 0 ≤ highest_limit

first_is : (n : ℕ) → (eqb n 1 || eqb n 2) ≡ true → (n ≡ 1) ⊎ (n ≡ 2)
first_is n h = go (eqb n 1) refl h
  where
    go : (t : Bool) → eqb n 1 ≡ t → (t || eqb n 2) ≡ true → (n ≡ 1) ⊎ (n ≡ 2)
    go true e h = inl (eqb-true n 1 e)
    go false e h = inr (eqb-true n 2 h)

is_first : (n : ℕ) → (n ≡ 1) ⊎ (n ≡ 2) → (eqb n 1 || eqb n 2) ≡ true
is_first n (inl e) = rw e refl
is_first n (inr e) = rw e refl

pub ok-ruled : (ls : List ℕ) → limits_ok ls ≡ true → Ruled ls
ok-ruled ls h =
    let a : Bool = eqb (get_or ls 0 0) 1 || eqb (get_or ls 0 0) 2 in
    let c : Bool = leb (get_or ls (strata - 1) 0) highest_limit in
    let bc = and_right a (rising ls && c) h in
    record {
      first = first_is (get_or ls 0 0) (and_left a (rising ls && c) h);
      rises = and_left (rising ls) c bc;
      last = leb-true (get_or ls (strata - 1) 0) highest_limit (and_right (rising ls) c bc);
    }

pub ruled-ok : (ls : List ℕ) → Ruled ls → limits_ok ls ≡ true
ruled-ok ls k = rw (is_first (get_or ls 0 0) k.first, k.rises, le-leb (get_or ls (strata - 1) 0) highest_limit k.last) refl
