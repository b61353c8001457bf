-- The front of a list of candidates below a rank: the shortest list that is enough is such a front.
use Rattle.std.proofs.Common.{◌≡◌, ℕ, suc, ◌<◌, ◌≤◌, Bool, true, false, cond, ltb, List, [], ◌∷◌, sym, refl, ap, ◌∙◌, arith, ltb-true, le-ltb, lt-ltb}
use Rattle.format.proofs.Bool.{not-both}
use Rattle.calls.specs.Pages.{Candidate, shortest}
use Rattle.turn.proofs.Ranks.{rank_of, Rising, rise}

-- those of rank below the limit t, up to the first that is not
abbrev pub front : ℕ → List Candidate → List Candidate
front t [] = []
front t (x ∷ xs) = cond (ltb (rank_of x) t) (x ∷ front t xs) []

-- t is the least limit from lo on whose front is enough
pub shortest-front : (t : ℕ) (ok : List Candidate → Bool) (xs : List Candidate) (lo : ℕ) → Rising lo xs → ok (front t xs) ≡ true
    → ((u : ℕ) → lo ≤ u → u < t → ok (front u xs) ≡ false) → shortest ok xs ≡ front t xs
shortest-front t ok [] lo r y n = refl
shortest-front t ok (x ∷ xs) lo (rise l f r) y n =
    go (ok []) (ltb (rank_of x) t) refl refl (λ a b. shortest-front t (λ ys. ok (x ∷ ys)) xs (suc (rank_of x)) r a b)
  where
    -- nothing of the list is below its first rank
    nothing : front (rank_of x) (x ∷ xs) ≡ []
    nothing = rw (le-ltb (rank_of x) (rank_of x) (omega arith))

    later : (u : ℕ) → suc (rank_of x) ≤ u → front u (x ∷ xs) ≡ x ∷ front u xs
    later u m = rw (lt-ltb (rank_of x) u m)

    go : (a b : Bool) → ok [] ≡ a → ltb (rank_of x) t ≡ b
        → (ok (x ∷ front t xs) ≡ true → ((u : ℕ) → suc (rank_of x) ≤ u → u < t → ok (x ∷ front u xs) ≡ false) → shortest (λ ys. ok (x ∷ ys)) xs ≡ front t xs)
        → cond a [] (x ∷ shortest (λ ys. ok (x ∷ ys)) xs) ≡ cond b (x ∷ front t xs) []
    go true true p q k = absurd (not-both p (sym (ap ok nothing) ∙ n (rank_of x) l (ltb-true (rank_of x) t q)))
    go true false p q k = refl
    go false true p q k =
        let m = ltb-true (rank_of x) t q in
        ap (x ∷◌) (k (sym (ap ok (later t m)) ∙ y) (λ u v w. sym (ap ok (later u v)) ∙ n u (omega arith) w))
    go false false p q k = let e : front t (x ∷ xs) ≡ [] = rw q in absurd (not-both (sym (ap ok e) ∙ y) p)
