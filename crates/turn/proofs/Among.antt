-- The front of the candidates below a rank, each in its turn, are the unlocked pages of rank below that.
use Rattle.std.proofs.Common.{◌≡◌, ℕ, suc, ◌≤◌, Bool, true, false, cond, not, ◌&&◌, ◌||◌, eqb, ltb, List, [], ◌∷◌, ◌++◌, sym, refl, ap, ◌∙◌, arith, ltb-false, le-ltb, eq-eqb}
use Rattle.kinds.specs.Kinds.{Key, of_handle, of_name, Item, key_named}
use Rattle.calls.specs.Sort.{insert_by, sort_by}
use Rattle.calls.specs.Pages.{Candidate, age, goes_before, key_candidate, candidates, in_turn, is_one, key_among, among}
use Rattle.calls.proofs.Pages.{Of, hit, page-hit}
use Rattle.turn.specs.Rank.{rank, key_below, goes}
use Rattle.turn.proofs.Ranks.{rank_of, Rising, rise, Named, turn-rises}
use Rattle.turn.proofs.Fronts.{front}

-- some candidate of rank below the limit t has the name n
abbrev reached : ℕ → ℕ → List Candidate → Bool
reached t n [] = false
reached t n (x ∷ xs) = (eqb n x.name && ltb (rank_of x) t) || reached t n xs

or_swap : (a b c : Bool) → a || (b || c) ≡ b || (a || c)
or_swap true true c = refl
or_swap true false c = refl
or_swap false b c = refl

module _ (t n : ℕ) where
  insert-reached : (x : Candidate) (xs : List Candidate) → reached t n (insert_by goes_before x xs) ≡ (eqb n x.name && ltb (rank_of x) t) || reached t n xs
  insert-reached x [] = refl
  insert-reached x (y ∷ ys) = go (goes_before x y) (insert-reached x ys)
    where
      go : (u : Bool) → reached t n (insert_by goes_before x ys) ≡ (eqb n x.name && ltb (rank_of x) t) || reached t n ys
          → reached t n (cond u (x ∷ (y ∷ ys)) (y ∷ insert_by goes_before x ys)) ≡ (eqb n x.name && ltb (rank_of x) t) || ((eqb n y.name && ltb (rank_of y) t) || reached t n ys)
      go true r = refl
      go false r = ap ((eqb n y.name && ltb (rank_of y) t) ||◌) r ∙ or_swap (eqb n y.name && ltb (rank_of y) t) (eqb n x.name && ltb (rank_of x) t) (reached t n ys)

  sort-reached : (xs : List Candidate) → reached t n (sort_by goes_before xs) ≡ reached t n xs
  sort-reached [] = refl
  sort-reached (x ∷ xs) = insert-reached x (sort_by goes_before xs) ∙ ap ((eqb n x.name && ltb (rank_of x) t) ||◌) (sort-reached xs)

  -- no rank is below the first of rising ones
  none-reached : (xs : List Candidate) (lo : ℕ) → Rising lo xs → t ≤ lo → reached t n xs ≡ false
  none-reached [] lo r l = refl
  none-reached (x ∷ xs) lo (rise u f r) l = rw (le-ltb (rank_of x) t (omega arith)) (go (eqb n x.name) (none-reached xs (suc (rank_of x)) r (omega arith)))
    where
      go : (a : Bool) → reached t n xs ≡ false → (a && false) || reached t n xs ≡ false
      go true q = q
      go false q = q

  front-one : (xs : List Candidate) (lo : ℕ) → Rising lo xs → is_one (front t xs) n ≡ reached t n xs
  front-one [] lo r = refl
  front-one (x ∷ xs) lo (rise u f r) = go (ltb (rank_of x) t) refl (eqb n x.name) refl (front-one xs (suc (rank_of x)) r)
    where
      go : (a : Bool) → ltb (rank_of x) t ≡ a → (b : Bool) → eqb n x.name ≡ b → is_one (front t xs) n ≡ reached t n xs → is_one (cond a (x ∷ front t xs) []) n ≡ (b && a) || reached t n xs
      go true p true q k = rw q
      go true p false q k = rw q k
      go false p true q k = sym (none-reached xs (suc (rank_of x)) r (omega (arith, ltb-false (rank_of x) t p)))
      go false p false q k = sym (none-reached xs (suc (rank_of x)) r (omega (arith, ltb-false (rank_of x) t p)))

  candidates-reached : (ck : ℕ) (es : List Item) → reached t n (candidates ck es) ≡ hit (goes ck t) n es
  candidates-reached ck [] = refl
  candidates-reached ck (e ∷ es) = one e.key (candidates-reached ck es)
    where
      one : (k : Key) → reached t n (candidates ck es) ≡ hit (goes ck t) n es → reached t n (key_candidate ck k ++ candidates ck es) ≡ (key_named n k && key_below ck t k) || hit (goes ck t) n es
      one (of_handle h) r = r
      one (of_name i s) r = by s.lock (eqb n i) refl
        where
          by : (u v : Bool) → eqb n i ≡ v → reached t n (cond u [] (record { name = i; age = age ck s; dirty = s.dirty } ∷ []) ++ candidates ck es) ≡ (v && (not u && ltb (rank ck i s) t)) || hit (goes ck t) n es
          by true true q = r
          by true false q = r
          by false true q = rw q (ap (ltb (rank ck i s) t ||◌) r)
          by false false q = rw q r

-- of the blocks themselves, where no name stands twice
pub front-among : (ck t : ℕ) (es : List Item) → Named es → (e : Item) → Of e es → among (front t (in_turn ck es)) e ≡ goes ck t e
front-among ck t es m e o = go e.key (λ n q. page-hit (goes ck t) n o q (m.once n))
  where
    go : (k : Key) → ((n : ℕ) → key_named n k ≡ true → hit (goes ck t) n es ≡ key_below ck t k) → key_among (front t (in_turn ck es)) k ≡ key_below ck t k
    go (of_handle h) g = refl
    go (of_name n s) g =
        front-one t n (in_turn ck es) 0 (turn-rises ck es m) ∙ sort-reached t n (candidates ck es) ∙ candidates-reached t n ck es ∙ g n (eq-eqb n n refl)
