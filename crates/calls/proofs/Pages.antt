-- Which pages go: the shortest list that is enough is enough, and where every candidate goes, every unlocked page does.
use mathlib.Core.Path.{◌≡◌, refl, sym, ap, ap₂, ◌∙◌}
use mathlib.Core.Bool.{Bool, true, false, cond, not, ◌&&◌, ◌||◌, true≢false}
use mathlib.Core.List.{List, [], ◌∷◌, ◌++◌, map, Permᴰ}
use Prim.Native.Nat.{ℕ, suc, ◌+◌, ◌≤◌, ◌<◌, max}
use native.Mathlib.Omega.{arith}
use lib.Dec.{eqb, leb, ltb}
use borrow.Author.Tests.{eq-eqb, eqb-true, eqb-false, leb-true, leb-false, le-leb, ltb-true, ltb-false, lt-ltb}
use Rattle.kinds.specs.Kinds.{Key, of_handle, of_name, Item, key_named, has_name, item_size}
use Rattle.calls.specs.Sort.{insert_by, sort_by}
use Rattle.calls.specs.Bays.{Bays, last, more, concat_s}
use Rattle.calls.specs.State.{Fixed}
use Rattle.calls.specs.Pages.{Candidate, key_unlocked, unlocked, goes_before, age, key_candidate, candidates, in_turn, is_one, key_among, among, freed, shortest, sum_without}
use Rattle.calls.specs.Counted.{count}
use Rattle.calls.proofs.Sort.{Order, flat-perm, sort-perm}
use Rattle.format.specs.Occurs.{occurs}
use Rattle.format.proofs.Count.{one-le, one-other}
use Rattle.format.proofs.Bool.{and_left, and_right}

pub shortest-enough : (ok : List Candidate → Bool) (xs : List Candidate) → ok xs ≡ true → ok (shortest ok xs) ≡ true
shortest-enough ok [] q = q
shortest-enough ok (x ∷ xs) q = go (ok []) refl (shortest-enough (λ ys. ok (x ∷ ys)) xs q)
  where
    go : (t : Bool) → ok [] ≡ t → ok (x ∷ shortest (λ ys. ok (x ∷ ys)) xs) ≡ true → ok (cond t [] (x ∷ shortest (λ ys. ok (x ∷ ys)) xs)) ≡ true
    go true p r = p
    go false p r = r

-- ---- the candidates' names

or_swap : (a b c : Bool) → a || (b || c) ≡ b || (a || c)
or_swap true true c = refl
or_swap true false c = refl
or_swap false b c = refl

insert-one : (n : ℕ) (x : Candidate) (xs : List Candidate) → is_one (insert_by goes_before x xs) n ≡ eqb n x.name || is_one xs n
insert-one n x [] = refl
insert-one n x (y ∷ ys) = go (goes_before x y) (insert-one n x ys)
  where
    go : (t : Bool) → is_one (insert_by goes_before x ys) n ≡ eqb n x.name || is_one ys n → is_one (cond t (x ∷ (y ∷ ys)) (y ∷ insert_by goes_before x ys)) n ≡ eqb n x.name || (eqb n y.name || is_one ys n)
    go true r = refl
    go false r = ap (eqb n y.name ||◌) r ∙ or_swap (eqb n y.name) (eqb n x.name) (is_one ys n)

pub sort-one : (n : ℕ) (xs : List Candidate) → is_one (sort_by goes_before xs) n ≡ is_one xs n
sort-one n [] = refl
sort-one n (x ∷ xs) = insert-one n x (sort_by goes_before xs) ∙ ap (eqb n x.name ||◌) (sort-one n xs)

-- some page that passes the test has the name
abbrev pub hit : (Item → Bool) → ℕ → List Item → Bool
hit t n [] = false
hit t n (e ∷ es) = (has_name n e && t e) || hit t n es

pub turn_one : (ck n : ℕ) (es : List Item) → is_one (in_turn ck es) n ≡ hit unlocked n es
turn_one ck n es = sort-one n (candidates ck es) ∙ each es
  where
    one : (k : Key) (xs : List Candidate) (u : Bool) → is_one xs n ≡ u → is_one (key_candidate ck k ++ xs) n ≡ (key_named n k && key_unlocked k) || u
    one (of_handle h) xs u r = r
    one (of_name i s) xs u r = by s.lock (eqb n i) refl
      where
        by : (t v : Bool) → eqb n i ≡ v → is_one (cond t [] (record { name = i; age = age ck s; dirty = s.dirty } ∷ []) ++ xs) n ≡ (v && not t) || u
        by true true q = r
        by true false q = r
        by false true q = rw q
        by false false q = rw q r

    each : (es : List Item) → is_one (candidates ck es) n ≡ hit unlocked n es
    each [] = refl
    each (e ∷ es) = one e.key (candidates ck es) (hit unlocked n es) (each es)

-- ---- a page of the list, where no name stands twice

pub data Of (e : Item) : List Item → Type 0 where
  of-here : {es : List Item} → Of e (e ∷ es)
  of-there : {d : Item} {es : List Item} → Of e es → Of e (d ∷ es)

pub of_left : {e : Item} {a : List Item} (b : List Item) → Of e a → Of e (a ++ b)
of_left b of-here = of-here
of_left b (of-there o) = of-there (of_left b o)

pub of_right : {e : Item} (a : List Item) {b : List Item} → Of e b → Of e (a ++ b)
of_right [] o = o
of_right (d ∷ a) o = of-there (of_right a o)

module _ (t : Item → Bool) (n : ℕ) where
  pub none-hit : (es : List Item) → count (has_name n) es ≡ 0 → hit t n es ≡ false
  none-hit [] q = refl
  none-hit (e ∷ es) q = go (has_name n e) q (none-hit es)
    where
      go : (u : Bool) → cond u (suc (count (has_name n) es)) (count (has_name n) es) ≡ 0 → (count (has_name n) es ≡ 0 → hit t n es ≡ false) → (u && t e) || hit t n es ≡ false
      go true q f = absurd (omega arith)
      go false q f = f q

some-count : (p : Item → Bool) {e : Item} {es : List Item} → Of e es → p e ≡ true → 1 ≤ count p es
some-count p {e} (of-here {es = es}) q = rw q (omega arith)
some-count p (of-there {d = d} {es = es} o) q = go (p d) (some-count p o q)
  where
    go : (t : Bool) → 1 ≤ count p es → 1 ≤ cond t (suc (count p es)) (count p es)
    go true l = omega arith
    go false l = l

-- the page of a name decides
pub page-hit : (t : Item → Bool) (n : ℕ) {e : Item} {es : List Item} → Of e es → has_name n e ≡ true → count (has_name n) es ≤ 1 → hit t n es ≡ t e
page-hit t n {e} (of-here {es = es}) q l =
    let c : count (has_name n) (e ∷ es) ≡ suc (count (has_name n) es) = rw q in
    rw (q, none-hit t n es (omega arith)) (or-false (t e))
  where
    or-false : (u : Bool) → u || false ≡ u
    or-false true = refl
    or-false false = refl
page-hit t n {e} (of-there {d = d} {es = es} o) q l = go (has_name n d) l (some-count (has_name n) o q) (λ k. page-hit t n o q k)
  where
    go : (u : Bool) → cond u (suc (count (has_name n) es)) (count (has_name n) es) ≤ 1 → 1 ≤ count (has_name n) es → (count (has_name n) es ≤ 1 → hit t n es ≡ t e) → (u && t d) || hit t n es ≡ t e
    go true l u f = absurd (omega arith)
    go false l u f = f l

pub turn-among : (ck : ℕ) (es : List Item) → ((n : ℕ) → count (has_name n) es ≤ 1) → (e : Item) → Of e es → among (in_turn ck es) e ≡ unlocked e
turn-among ck es f e o = go e.key (λ n q. page-hit unlocked n o q (f n))
  where
    go : (k : Key) → ((n : ℕ) → key_named n k ≡ true → hit unlocked n es ≡ key_unlocked k) → key_among (in_turn ck es) k ≡ key_unlocked k
    go (of_handle h) g = refl
    go (of_name n s) g = turn_one ck n es ∙ g n (eq-eqb n n refl)

-- ---- sums

pub freed-same : (t u : Item → Bool) (es : List Item) → ((e : Item) → Of e es → t e ≡ u e) → freed t es ≡ freed u es
freed-same t u [] f = refl
freed-same t u (e ∷ es) f = go (t e) (u e) (f e of-here) (freed-same t u es (λ d o. f d (of-there o)))
  where
    go : (a b : Bool) → a ≡ b → freed t es ≡ freed u es → cond a (item_size e + freed t es) (freed t es) ≡ cond b (item_size e + freed u es) (freed u es)
    go true true q r = ap (item_size e +◌) r
    go true false q r = absurd (true≢false q)
    go false true q r = absurd (true≢false (sym q))
    go false false q r = r

module _ {B : Type 0} (all : B → List Item) (μ : B → ℕ) where
  pub without-same : (t u : Item → Bool) (s : Bays B Fixed) → ((e : Item) → Of e (concat_s all s) → t e ≡ u e) → sum_without all μ t s ≡ sum_without all μ u s
  without-same t u (last b) f = ap (μ b +◌) (freed-same t u (all b) f)
  without-same t u (more b x s) f =
      ap₂ max (ap (μ b +◌) (freed-same t u (all b) (λ e o. f e (of_left (concat_s all s) o)))) (without-same t u s (λ e o. f e (of_right (all b) o)))

  -- where every candidate goes
  pub all-gone : (ck : ℕ) (s : Bays B Fixed) → ((n : ℕ) → count (has_name n) (concat_s all s) ≤ 1) → sum_without all μ (among (in_turn ck (concat_s all s))) s ≡ sum_without all μ unlocked s
  all-gone ck s f = without-same (among (in_turn ck (concat_s all s))) unlocked s (turn-among ck (concat_s all s) f)

-- ---- candidates of lists that are one up to order

data Sum (A B : Type 0) : Type 0 where
  older : A → Sum A B
  same : B → Sum A B

pub below_of_lem : (a b : ℕ) → a ≤ b → (a ≡ b → ⊥) → a < b
below_of_lem a b l n = strict (ltb a b) refl
  where
    strict : (t : Bool) → ltb a b ≡ t → a < b
    strict true q = ltb-true a b q
    strict false q = let m = ltb-false a b q in absurd (n (omega arith))

pub goes : Order goes_before (λ (x : Candidate). x.name)
goes = record { total = total; goes_further = goes_further; ties = ties }
  where
    -- what the test says, and what makes it
    says : (x y : Candidate) → goes_before x y ≡ true → Sum (y.age < x.age) ((x.age ≡ y.age) × (x.name ≤ y.name))
    says x y q = go (ltb y.age x.age) refl q
      where
        go : (t : Bool) → ltb y.age x.age ≡ t → t || (eqb x.age y.age && leb x.name y.name) ≡ true → Sum (y.age < x.age) ((x.age ≡ y.age) × (x.name ≤ y.name))
        go true p q = older (ltb-true y.age x.age p)
        go false p q = same (eqb-true x.age y.age (and_left _ (leb x.name y.name) q), leb-true x.name y.name (and_right (eqb x.age y.age) _ q))

    makes : (x y : Candidate) → Sum (y.age < x.age) ((x.age ≡ y.age) × (x.name ≤ y.name)) → goes_before x y ≡ true
    makes x y (older l) = rw (lt-ltb y.age x.age l)
    makes x y (same p) = rw (eq-eqb x.age y.age p.0, le-leb x.name y.name p.1) (or-true (ltb y.age x.age))
      where
        or-true : (t : Bool) → t || true ≡ true
        or-true true = refl
        or-true false = refl

    total : (x y : Candidate) → goes_before x y ≡ false → goes_before y x ≡ true
    total x y q = makes y x (go (ltb y.age x.age) refl (eqb x.age y.age) refl (leb x.name y.name) refl q)
      where
        go : (t : Bool) → ltb y.age x.age ≡ t → (u : Bool) → eqb x.age y.age ≡ u → (v : Bool) → leb x.name y.name ≡ v → t || (u && v) ≡ false → Sum (x.age < y.age) ((y.age ≡ x.age) × (y.name ≤ x.name))
        go true p u a v b q = absurd (true≢false q)
        go false p true a true b q = absurd (true≢false q)
        go false p true a false b q = same (sym (eqb-true x.age y.age a), (let l = leb-false x.name y.name b in omega arith))
        go false p false a v b q = older (let l = ltb-false y.age x.age p in let n = eqb-false x.age y.age a in below_of_lem x.age y.age l n)

    goes_further : (x y z : Candidate) → goes_before x y ≡ true → goes_before y z ≡ true → goes_before x z ≡ true
    goes_further x y z p q = makes x z (go (says x y p) (says y z q))
      where
        go : Sum (y.age < x.age) ((x.age ≡ y.age) × (x.name ≤ y.name)) → Sum (z.age < y.age) ((y.age ≡ z.age) × (y.name ≤ z.name)) → Sum (z.age < x.age) ((x.age ≡ z.age) × (x.name ≤ z.name))
        go (older l) (older m) = older (omega arith)
        go (older l) (same m) = older (omega (arith, m.0))
        go (same l) (older m) = older (omega (arith, l.0))
        go (same l) (same m) = same (omega (arith, l.0, m.0), omega (arith, l.1, m.1))

    ties : (x y : Candidate) → goes_before x y ≡ true → goes_before y x ≡ true → x.name ≡ y.name
    ties x y p q = go (says x y p) (says y x q)
      where
        go : Sum (y.age < x.age) ((x.age ≡ y.age) × (x.name ≤ y.name)) → Sum (x.age < y.age) ((y.age ≡ x.age) × (y.name ≤ x.name)) → x.name ≡ y.name
        go (older l) (older m) = absurd (omega arith)
        go (older l) (same m) = absurd (omega (arith, m.0))
        go (same l) (older m) = absurd (omega (arith, l.0))
        go (same l) (same m) = omega (arith, l.1, m.1)

pub candidates-few : (ck n : ℕ) (es : List Item) → occurs n (map (λ (x : Candidate). x.name) (candidates ck es)) ≤ count (has_name n) es
unfolding occurs
candidates-few ck n [] = omega arith
candidates-few ck n (e ∷ es) = go e.key (candidates-few ck n es)
  where
    go : (k : Key) → occurs n (map (λ (x : Candidate). x.name) (candidates ck es)) ≤ count (has_name n) es
        → occurs n (map (λ (x : Candidate). x.name) (key_candidate ck k ++ candidates ck es)) ≤ cond (key_named n k) (suc (count (has_name n) es)) (count (has_name n) es)
    go (of_handle h) l = l
    go (of_name i s) l = by s.lock (eqb n i) refl
      where
        by : (t u : Bool) → eqb n i ≡ u → occurs n (map (λ (x : Candidate). x.name) (cond t [] (record { name = i; age = age ck s; dirty = s.dirty } ∷ []) ++ candidates ck es)) ≤ cond u (suc (count (has_name n) es)) (count (has_name n) es)
        by true true q = omega arith
        by true false q = l
        by false true q = omega (arith, one-le n i)
        by false false q = omega (arith, one-other n i (eqb-false n i q))

-- they go in one turn
pub turn-perm : (ck : ℕ) {a b : List Item} → Permᴰ a b → ((n : ℕ) → count (has_name n) a ≤ 1) → in_turn ck a ≡ in_turn ck b
turn-perm ck {a} p f = sort-perm goes (flat-perm (λ (e : Item). key_candidate ck e.key) p) (λ n. omega (arith, candidates-few ck n a, f n))
