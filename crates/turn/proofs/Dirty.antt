-- The first dirty candidate in turn is the one of least rank.
use Rattle.std.proofs.Common.{◌≡◌, ℕ, suc, ◌%◌, ◌≤◌, min, Bool, true, false, cond, not, ◌&&◌, ltb, List, [], ◌∷◌, ◌++◌, refl, ap, ◌∙◌, arith, ltb-false, le-ltb}
use mathlib.Core.Option.{none, some}
use Rattle.block_type.specs.Limits.{argument_range}
use Rattle.kinds.specs.Kinds.{Key, of_handle, of_name, Item}
use Rattle.calls.specs.Sort.{insert_by, sort_by}
use Rattle.calls.specs.Pages.{Candidate, age, goes_before, key_candidate, candidates, in_turn, first_dirty}
use Rattle.turn.specs.Rank.{rank_range, rank, key_dirty_rank, least_dirty}
use Rattle.turn.proofs.Ranks.{rank_of, rank_below, rank-name, Rising, rise, Named, turn-rises}
use Rattle.turn.proofs.Fronts.{front}

-- the least rank of a dirty one, rank_range where there is none
abbrev dirty_rank : Candidate → ℕ
dirty_rank x = cond x.dirty (rank_of x) rank_range

abbrev least_of : List Candidate → ℕ
least_of [] = rank_range
least_of (x ∷ xs) = min (dirty_rank x) (least_of xs)

insert-least : (x : Candidate) (xs : List Candidate) → least_of (insert_by goes_before x xs) ≡ min (dirty_rank x) (least_of xs)
insert-least x [] = refl
insert-least x (y ∷ ys) = go (goes_before x y) (insert-least x ys)
  where
    go : (t : Bool) → least_of (insert_by goes_before x ys) ≡ min (dirty_rank x) (least_of ys) → least_of (cond t (x ∷ (y ∷ ys)) (y ∷ insert_by goes_before x ys)) ≡ min (dirty_rank x) (min (dirty_rank y) (least_of ys))
    go true r = refl
    go false r = omega (arith, r)

sort-least : (xs : List Candidate) → least_of (sort_by goes_before xs) ≡ least_of xs
sort-least [] = refl
sort-least (x ∷ xs) = insert-least x (sort_by goes_before xs) ∙ ap (min (dirty_rank x)) (sort-least xs)

pub least-most : (ck : ℕ) (es : List Item) → least_dirty ck es ≤ rank_range
least-most ck [] = omega arith
least-most ck (e ∷ es) = omega (arith, least-most ck es)

candidates-least : (ck : ℕ) (es : List Item) → least_of (candidates ck es) ≡ least_dirty ck es
candidates-least ck [] = refl
candidates-least ck (e ∷ es) = go e.key (candidates-least ck es)
  where
    go : (k : Key) → least_of (candidates ck es) ≡ least_dirty ck es → least_of (key_candidate ck k ++ candidates ck es) ≡ min (key_dirty_rank ck k) (least_dirty ck es)
    go (of_handle h) q = omega (arith, q, least-most ck es)
    go (of_name n s) q = by s.lock
      where
        by : (t : Bool) → least_of (cond t [] (record { name = n; age = age ck s; dirty = s.dirty } ∷ []) ++ candidates ck es) ≡ min (cond (not t && s.dirty) (rank ck n s) rank_range) (least_dirty ck es)
        by true = omega (arith, q, least-most ck es)
        by false = ap (min (cond s.dirty (rank ck n s) rank_range)) q

-- ---- in rising ranks the first dirty one has the least

of-most : (xs : List Candidate) → least_of xs ≤ rank_range
of-most [] = omega arith
of-most (x ∷ xs) = omega (arith, of-most xs)

of_low : (xs : List Candidate) (lo : ℕ) → Rising lo xs → lo ≤ rank_range → lo ≤ least_of xs
of_low [] lo r l = l
of_low (x ∷ xs) lo (rise u f r) l = go x.dirty (of_low xs (suc (rank_of x)) r (rank_below f))
  where
    go : (d : Bool) → suc (rank_of x) ≤ least_of xs → lo ≤ min (cond d (rank_of x) rank_range) (least_of xs)
    go true k = omega arith
    go false k = omega arith

front-dirty : (t : ℕ) → t ≤ rank_range → (xs : List Candidate) (lo : ℕ) → Rising lo xs → first_dirty (front t xs) ≡ cond (ltb (least_of xs) t) (some (least_of xs % argument_range)) none
front-dirty t m [] lo r = rw (le-ltb rank_range t m)
front-dirty t m (x ∷ xs) lo (rise u f r) = go (ltb (rank_of x) t) x.dirty refl refl (front-dirty t m xs (suc (rank_of x)) r)
  where
    low : suc (rank_of x) ≤ least_of xs
    low = of_low xs (suc (rank_of x)) r (rank_below f)

    here : (d : Bool) → rank_of x ≤ min (cond d (rank_of x) rank_range) (least_of xs)
    here true = omega (arith, low)
    here false = omega (arith, low, rank_below f)

    go : (a d : Bool) → ltb (rank_of x) t ≡ a → x.dirty ≡ d → first_dirty (front t xs) ≡ cond (ltb (least_of xs) t) (some (least_of xs % argument_range)) none
        → first_dirty (cond a (x ∷ front t xs) []) ≡ cond (ltb (min (cond d (rank_of x) rank_range) (least_of xs)) t) (some (min (cond d (rank_of x) rank_range) (least_of xs) % argument_range)) none
    go true true p q k =
        let e : min (rank_of x) (least_of xs) ≡ rank_of x = omega (arith, low) in
        rw (e, q, p, rank-name f)
    go true false p q k =
        let e : min rank_range (least_of xs) ≡ least_of xs = omega (arith, of-most xs) in
        rw (e, q) k
    go false d p q k = rw (le-ltb (min (cond d (rank_of x) rank_range) (least_of xs)) t (omega (arith, here d, ltb-false (rank_of x) t p)))

-- of the candidates in their turn, below a limit
pub turn-dirty : (ck t : ℕ) → t ≤ rank_range → (es : List Item) → Named es
    → first_dirty (front t (in_turn ck es)) ≡ cond (ltb (least_dirty ck es) t) (some (least_dirty ck es % argument_range)) none
turn-dirty ck t m es n =
    front-dirty t m (in_turn ck es) 0 (turn-rises ck es n)
    ∙ ap (λ l. cond (ltb l t) (some (l % argument_range)) none) (sort-least (candidates ck es) ∙ candidates-least ck es)
