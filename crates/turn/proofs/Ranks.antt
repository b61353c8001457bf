-- Candidates by rank: one goes before another where its rank is less, and in their turn the ranks rise.
use Rattle.std.proofs.Common.{◌≡◌, ℕ, suc, ◌+◌, ◌-◌, ◌*◌, ◌%◌, ◌<◌, ◌≤◌, Bool, true, false, cond, ◌&&◌, ◌||◌, eqb, ltb, leb, List, [], ◌∷◌, ◌++◌, sym, refl, ap, ◌∙◌, arith, ltb-false, ltb-true, eq-eqb, eqb-true, le-leb, leb-false, leb-true}
use borrow.Author.Tests.{eqb-false, lt-leb}
use Rattle.block_type.specs.Limits.{stamp_range, argument_range}
use Rattle.std.proofs.lemmas.Bool.{or_parts}
use Rattle.kinds.specs.Kinds.{Key, of_handle, of_name, Item, KeyFits, key_named, has_name}
use Rattle.calls.specs.Sort.{insert_by, sort_by}
use Rattle.calls.specs.Counted.{count}
use Rattle.calls.specs.Pages.{Candidate, age, unlocked, goes_before, key_candidate, candidates, in_turn, is_one}
use Rattle.calls.proofs.Pages.{below_of_lem, sort-one, turn_one, none-hit, Of, of-here, of-there}
use Rattle.turn.specs.Rank.{rank_range}

-- a candidate's rank
abbrev pub rank_of : Candidate → ℕ
rank_of x = (stamp_range - 1 - x.age) * argument_range + x.name

-- its name and its age have room in it
pub record Fine (x : Candidate) : Type 0 where
  pub name-ok : x.name < argument_range
  pub age-ok : x.age < stamp_range

pub rank_below : {x : Candidate} → Fine x → rank_of x < rank_range
rank_below f = omega arith

-- the rank tells the name
pub rank-name : {x : Candidate} → Fine x → rank_of x % argument_range ≡ x.name
rank-name f = omega arith

-- ---- "greatest age first, smaller name among equals"

pub goes-rank : (x y : Candidate) → Fine x → Fine y → goes_before x y ≡ leb (rank_of x) (rank_of y)
goes-rank x y f g = go (ltb y.age x.age) (eqb x.age y.age) refl refl
  where
    name : x.age ≡ y.age → (t : Bool) → leb x.name y.name ≡ t → t ≡ leb (rank_of x) (rank_of y)
    name e true q = sym (le-leb (rank_of x) (rank_of y) (omega (arith, leb-true x.name y.name q)))
    name e false q = sym (lt-leb (rank_of x) (rank_of y) (omega (arith, leb-false x.name y.name q)))

    go : (a b : Bool) → ltb y.age x.age ≡ a → eqb x.age y.age ≡ b → a || (b && leb x.name y.name) ≡ leb (rank_of x) (rank_of y)
    go true b p q = sym (le-leb (rank_of x) (rank_of y) (omega (arith, ltb-true y.age x.age p)))
    go false true p q = name (eqb-true x.age y.age q) (leb x.name y.name) refl
    go false false p q =
        let l = ltb-false y.age x.age p in
        let m : x.age < y.age = below_of_lem x.age y.age l (eqb-false x.age y.age q) in
        sym (lt-leb (rank_of x) (rank_of y) (omega arith))

-- ---- rising ranks, from lo on

pub data Rising : ℕ → List Candidate → Type 0 where
  rise-end : {lo : ℕ} → Rising lo []
  rise : {lo : ℕ} {x : Candidate} {xs : List Candidate} → lo ≤ rank_of x → Fine x → Rising (suc (rank_of x)) xs → Rising lo (x ∷ xs)

insert-rises : (x : Candidate) → Fine x → (xs : List Candidate) (lo : ℕ) → Rising lo xs → lo ≤ rank_of x → is_one xs x.name ≡ false → Rising lo (insert_by goes_before x xs)
insert-rises x f [] lo r l n = rise l f rise-end
insert-rises x f (y ∷ ys) lo (rise u g r) l n =
    go (leb (rank_of x) (rank_of y)) refl (λ m. insert-rises x f ys (suc (rank_of y)) r m (or_parts (eqb x.name y.name) (is_one ys x.name) n).1)
  where
    other : x.name ≡ y.name → ⊥
    other = eqb-false x.name y.name (or_parts (eqb x.name y.name) (is_one ys x.name) n).0

    go : (t : Bool) → leb (rank_of x) (rank_of y) ≡ t → (suc (rank_of y) ≤ rank_of x → Rising (suc (rank_of y)) (insert_by goes_before x ys)) → Rising lo (cond (goes_before x y) (x ∷ (y ∷ ys)) (y ∷ insert_by goes_before x ys))
    go true q k =
        let m : rank_of x < rank_of y = below_of_lem (rank_of x) (rank_of y) (leb-true (rank_of x) (rank_of y) q) (λ e. other (sym (rank-name f) ∙ ap (◌% argument_range) e ∙ rank-name g)) in
        rw (goes-rank x y f g ∙ q) (rise l f (rise m g r))
    go false q k = rw (goes-rank x y f g ∙ q) (rise u g (k (leb-false (rank_of x) (rank_of y) q)))

-- candidates, each fine and of a name of its own
pub data Apart : List Candidate → Type 0 where
  apart-end : Apart []
  apart : {x : Candidate} {xs : List Candidate} → Fine x → is_one xs x.name ≡ false → Apart xs → Apart (x ∷ xs)

sort-rises : {xs : List Candidate} → Apart xs → Rising 0 (sort_by goes_before xs)
sort-rises apart-end = rise-end
sort-rises (apart {x = x} {xs = xs} f n a) = insert-rises x f (sort_by goes_before xs) 0 (sort-rises a) (omega arith) (sort-one x.name xs ∙ n)

-- ---- the candidates among movable blocks, where no name stands twice

pub record Named (es : List Item) : Type 0 where
  pub fits : (e : Item) → Of e es → KeyFits e.key
  pub once : (n : ℕ) → count (has_name n) es ≤ 1

rest-once : (n : ℕ) (e : Item) (es : List Item) → count (has_name n) (e ∷ es) ≤ 1 → count (has_name n) es ≤ 1
rest-once n e es l = go (has_name n e) l
  where
    go : (t : Bool) → cond t (suc (count (has_name n) es)) (count (has_name n) es) ≤ 1 → count (has_name n) es ≤ 1
    go true l = omega arith
    go false l = l

pub rest-named : (e : Item) (es : List Item) → Named (e ∷ es) → Named es
rest-named e es n = record { fits = λ d o. n.fits d (of-there o); once = λ i. rest-once i e es (n.once i) }

apart-candidates : (ck : ℕ) (es : List Item) → Named es → Apart (candidates ck es)
apart-candidates ck [] n = apart-end
apart-candidates ck (e ∷ es) n = go e.key (n.fits e of-here) (λ i q. first i q (n.once i)) (apart-candidates ck es (rest-named e es n))
  where
    first : (i : ℕ) → has_name i e ≡ true → count (has_name i) (e ∷ es) ≤ 1 → count (has_name i) es ≡ 0
    first i q l = let c : count (has_name i) (e ∷ es) ≡ suc (count (has_name i) es) = rw q in omega arith

    go : (k : Key) → KeyFits k → ((i : ℕ) → key_named i k ≡ true → count (has_name i) es ≡ 0) → Apart (candidates ck es) → Apart (key_candidate ck k ++ candidates ck es)
    go (of_handle h) u f a = a
    go (of_name i s) u f a = by s.lock
      where
        by : (t : Bool) → Apart (cond t [] (record { name = i; age = age ck s; dirty = s.dirty } ∷ []) ++ candidates ck es)
        by true = a
        by false =
            apart {x = record { name = i; age = age ck s; dirty = s.dirty }} (record { name-ok = u.0; age-ok = omega arith })
            (sym (sort-one i (candidates ck es)) ∙ turn_one ck i es ∙ none-hit unlocked i es (f i (eq-eqb i i refl))) a

-- in their turn the ranks rise
pub turn-rises : (ck : ℕ) (es : List Item) → Named es → Rising 0 (in_turn ck es)
turn-rises ck es n = sort-rises (apart-candidates ck es n)
