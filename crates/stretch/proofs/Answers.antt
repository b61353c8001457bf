-- What the calls on a stretch answer, by the refusal of the stretch and the data of its block.
use mathlib.Core.Path.{◌≡◌, refl, sym, ap, ap₂, ◌∙◌}
use mathlib.Core.Bool.{Bool, true, false, cond, not}
use mathlib.Core.Option.{Option, none, some, get_or}
use mathlib.Core.List.{List, [], ◌∷◌, ◌++◌}
use Prim.Native.Nat.{ℕ, ◌+◌, ◌≤◌}
use native.Mathlib.Omega.{arith}
use native.Mathlib.Decide.{ℕ_discrete}
use lib.ListN.{length, take, drop}
use lib.Dec.{eqb, leb}
use borrow.Author.Tests.{ne_eqb, le-leb, leb-true}
use Rattle.format.specs.WellFormed.{well_formed, zone_of}
use Rattle.calls.specs.Calls.{Target, by_handle, by_pointer, by_name, size, read, view, told, shows}
use Rattle.calls.specs.Bays.{over}
use Rattle.calls.specs.State.{content}
use Rattle.calls.specs.Table.{Facts, Cause, cause, below, is_none, not_well_formed, no_block, holds_in, first, order}
use Rattle.bay.specs.Bay.{items}
use Rattle.zone.specs.Work.{facts}
use Rattle.zone.specs.Call.{zone_in, number_of, call_with, call}
use Rattle.access.specs.locate.Locate.{target_place, target_data, absent_number, block_number}
use Rattle.access.proofs.locate.Data.{content-none, content-some}
use Rattle.stretch.specs.Stretch.{part_number, stretch_number}

pub absent-some : (t : Target) → absent_number t ≡ 0 → ⊥
absent-some (by_handle h) e = omega arith
absent-some (by_pointer p) e = omega arith
absent-some (by_name n) e = omega arith

-- ---- the refusal of a block

module _ (t : Target) (s : List ℕ) where
  pub block_1 : well_formed s ≡ false → block_number t s ≡ 1
  unfolding block_number
  block_1 e = rw e

  pub block-absent : well_formed s ≡ true → target_place t (zone_of s) ≡ 0 → block_number t s ≡ absent_number t
  unfolding block_number
  block-absent e l = rw (e, l)

  pub block_0 : well_formed s ≡ true → (target_place t (zone_of s) ≡ 0 → ⊥) → block_number t s ≡ 0
  unfolding block_number
  block_0 e l = rw (e, ne_eqb (target_place t (zone_of s)) 0 l)

-- ---- the cases

abbrev data_in : Target → List ℕ → List ℕ
data_in t s = target_data t (zone_of s)

abbrev content_in : Target → List ℕ → Option (List ℕ)
content_in t s = content items t (zone_in s).bays

pub data Case (t : Target) (i n have : ℕ) (s : List ℕ) : Type 0 where
  ill : well_formed s ≡ false → stretch_number t i n have s ≡ 1 → Case t i n have s
  lost : well_formed s ≡ true → content_in t s ≡ none → stretch_number t i n have s ≡ absent_number t → Case t i n have s
  past : well_formed s ≡ true → content_in t s ≡ some (data_in t s) → leb (i + n) (length (data_in t s)) ≡ false → stretch_number t i n have s ≡ 8 → Case t i n have s
  short : well_formed s ≡ true → content_in t s ≡ some (data_in t s) → leb (i + n) (length (data_in t s)) ≡ true → leb n have ≡ false → stretch_number t i n have s ≡ 10 → Case t i n have s
  fits : well_formed s ≡ true → (target_place t (zone_of s) ≡ 0 → ⊥) → content_in t s ≡ some (data_in t s) → leb (i + n) (length (data_in t s)) ≡ true → leb n have ≡ true
      → stretch_number t i n have s ≡ 0 → Case t i n have s

pub the-case : (t : Target) (i n have : ℕ) (s : List ℕ) → Case t i n have s
unfolding stretch_number part_number
the-case t i n have s = go (well_formed s) refl
  where
    live : well_formed s ≡ true → (target_place t (zone_of s) ≡ 0 → ⊥) → (a : Bool) → leb (i + n) (length (data_in t s)) ≡ a → (b : Bool) → leb n have ≡ b → Case t i n have s
    live e l false p b q = past e (content-some t s l) p (rw (block_0 t s e l, p))
    live e l true p false q = short e (content-some t s l) p q (rw (block_0 t s e l, p, q))
    live e l true p true q = fits e l (content-some t s l) p q (rw (block_0 t s e l, p, q))

    found : well_formed s ≡ true → Dec (target_place t (zone_of s) ≡ 0) → Case t i n have s
    found e (yes l) = lost e (content-none t s l) (rw (block-absent t s e l, ne_eqb (absent_number t) 0 (absent-some t)))
    found e (no l) = live e l (leb (i + n) (length (data_in t s))) refl (leb n have) refl

    go : (u : Bool) → well_formed s ≡ u → Case t i n have s
    go false e = ill e (rw (block_1 t s e))
    go true e = found e (ℕ_discrete (target_place t (zone_of s)) 0)

-- what an accepted stretch is
pub record Accepted (s : List ℕ) (t : Target) (i n have : ℕ) : Type 0 where
  pub well : well_formed s ≡ true
  pub live : target_place t (zone_of s) ≡ 0 → ⊥
  pub room : i + n ≤ length (target_data t (zone_of s))
  pub long : n ≤ have

pub accepted : (s : List ℕ) (t : Target) (i n have : ℕ) → stretch_number t i n have s ≡ 0 → Accepted s t i n have
accepted s t i n have z = go (the-case t i n have s)
  where
    go : Case t i n have s → Accepted s t i n have
    go (ill e k) = absurd (omega arith)
    go (lost e o k) = absurd (absent-some t (sym k ∙ z))
    go (past e o a k) = absurd (omega arith)
    go (short e o a b k) = absurd (omega arith)
    go (fits e l o a b k) = record { well = e; live = l; room = leb-true (i + n) (length (target_data t (zone_of s))) a; long = leb-true n have b }

-- ---- the table's numbers

-- of a call that names a block, by what is found; cs are its further causes
module _ (s : List ℕ) (cs : Option (List ℕ) → List Cause) where
  abbrev known : Facts
  known = facts (well_formed s) (zone_in s)

  abbrev tabled : Target → ℕ
  tabled t = first order (not_well_formed known ∷ no_block t known ∷ cs (content_in t s))

  abbrev by : ℕ → Bool → Option (List ℕ) → ℕ
  by k w o = first order (cause 1 (not w) ∷ cause k (is_none (over length o)) ∷ cs o)

  number-1 : (t : Target) → well_formed s ≡ false → tabled t ≡ 1
  number-1 t e = ap (λ (w : Bool). first order (cause 1 (not w) ∷ no_block t known ∷ cs (content_in t s))) e

  number-absent : (t : Target) → holds_in 1 (cs none) ≡ false → holds_in 14 (cs none) ≡ false → holds_in 2 (cs none) ≡ false → holds_in 6 (cs none) ≡ false → holds_in 13 (cs none) ≡ false
      → well_formed s ≡ true → content_in t s ≡ none → tabled t ≡ absent_number t
  number-absent (by_handle h) a l b c d e o = ap₂ (by 6) e o ∙ (rw (a, l, b))
  number-absent (by_pointer p) a l b c d e o = ap₂ (by 7) e o ∙ (rw (a, l, b, c, d))
  number-absent (by_name n) a l b c d e o = ap₂ (by 13) e o ∙ (rw (a, l, b, c))

  number-found : (t : Target) {d : List ℕ} → well_formed s ≡ true → content_in t s ≡ some d → tabled t ≡ first order (cs (some d))
  number-found (by_handle h) e o = ap₂ (by 6) e o
  number-found (by_pointer p) e o = ap₂ (by 7) e o
  number-found (by_name n) e o = ap₂ (by 13) e o

module _ (t : Target) (i n : ℕ) (s : List ℕ) where
  abbrev beyond : Bool → Option (List ℕ) → List Cause
  beyond long o = cause 8 (below (get_or (over length o) 0) (i + n)) ∷ cause 10 (not long) ∷ []

  -- of a read and of a write
  pub copy-number : (have : ℕ) → tabled s (beyond (leb n have)) t ≡ stretch_number t i n have s
  copy-number have = go (the-case t i n have s)
    where
      cs : Option (List ℕ) → List Cause
      cs o = beyond (leb n have) o

      go : Case t i n have s → tabled s cs t ≡ stretch_number t i n have s
      go (ill e k) = number-1 s cs t e ∙ sym k
      go (lost e o k) = number-absent s cs t refl refl refl refl refl e o ∙ sym k
      go (past e o a k) = number-found s cs t e o ∙ (rw a) ∙ sym k
      go (short e o a b k) = number-found s cs t e o ∙ (rw (a, b)) ∙ sym k
      go (fits e l o a b k) = number-found s cs t e o ∙ (rw (a, b)) ∙ sym k

  pub view-number : number_of (view t i n) s ≡ stretch_number t i n n s
  view-number = ap (λ (long : Bool). tabled s (beyond long) t) (sym (le-leb n n (omega arith))) ∙ copy-number n

-- ---- the answers

pub size_is : (t : Target) (s : List ℕ) → (call (size t) s).answer ≡ told (block_number t s) (cond (eqb (block_number t s) 0) (length (data_in t s)) 0)
size_is t s = go (well_formed s) refl (ℕ_discrete (target_place t (zone_of s)) 0)
  where
    by_number : {k : ℕ} → number_of (size t) s ≡ k → (call (size t) s).answer ≡ (call_with k (size t) s).answer
    by_number e = ap (λ (k : ℕ). (call_with k (size t) s).answer) e

    go : (u : Bool) → well_formed s ≡ u → Dec (target_place t (zone_of s) ≡ 0) → (call (size t) s).answer ≡ told (block_number t s) (cond (eqb (block_number t s) 0) (length (data_in t s)) 0)
    go false e l = by_number (number-1 s (λ o. []) t e) ∙ sym (rw (block_1 t s e))
    go true e (yes l) =
        by_number (number-absent s (λ o. []) t refl refl refl refl refl e (content-none t s l)) ∙ (rw (block-absent t s e l, ne_eqb (absent_number t) 0 (absent-some t)))
    go true e (no l) =
        by_number (number-found s (λ o. []) t e (content-some t s l))
        ∙ (rw (block_0 t s e l, e) (ap (λ (o : Option (List ℕ)). told 0 (length (get_or o []))) (content-some t s l)))

module _ (t : Target) (i n : ℕ) (s : List ℕ) where
  abbrev d : List ℕ
  d = data_in t s

  abbrev N : ℕ → ℕ
  N have = stretch_number t i n have s

  pub read_is : (buf : List ℕ) → (call (read t i n buf) s).answer
      ≡ shows (N (length buf)) (cond (eqb (N (length buf)) 0) (take n (drop i d) ++ drop n buf) buf)
  read_is buf = ap (λ (k : ℕ). (call_with k (read t i n buf) s).answer) (copy-number t i n s (length buf)) ∙ go (ℕ_discrete (N (length buf)) 0)
    where
      go : Dec (N (length buf) ≡ 0) → (call_with (N (length buf)) (read t i n buf) s).answer ≡ shows (N (length buf)) (cond (eqb (N (length buf)) 0) (take n (drop i d) ++ drop n buf) buf)
      go (yes k) =
          let a = accepted s t i n (length buf) k in
          rw (k, a.well) (ap (λ (o : Option (List ℕ)). shows 0 (take n (drop i (get_or o [])) ++ drop n buf)) (content-some t s a.live))
      go (no k) = rw (ne_eqb (N (length buf)) 0 k)

  pub view-is : (call (view t i n) s).answer ≡ shows 0 (cond (eqb (N n) 0) (take n (drop i d)) [])
  view-is = ap (λ (k : ℕ). (call_with k (view t i n) s).answer) (view-number t i n s) ∙ go (ℕ_discrete (N n) 0)
    where
      go : Dec (N n ≡ 0) → (call_with (N n) (view t i n) s).answer ≡ shows 0 (cond (eqb (N n) 0) (take n (drop i d)) [])
      go (yes k) =
          let a = accepted s t i n n k in
          rw (k, a.well) (ap (λ (o : Option (List ℕ)). shows 0 (take n (drop i (get_or o [])))) (content-some t s a.live))
      go (no k) = rw (ne_eqb (N n) 0 k)
