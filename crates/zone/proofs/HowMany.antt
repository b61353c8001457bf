-- How many blocks pass a test, after each change of a zone's bays.
use mathlib.Core.Path.{◌≡◌, refl, ap, ◌∙◌}
use mathlib.Core.Bool.{Bool, true, false, cond}
use mathlib.Core.Option.{Option, none, some}
use mathlib.Core.List.{List, [], ◌∷◌, ◌++◌, map, append-nil}
use Prim.Native.Nat.{ℕ, suc, ◌+◌, ◌≤◌}
use native.Mathlib.Omega.{arith}
use borrow.Author.Tests.{leb-true}
use Rattle.calls.specs.Bays.{Bays, last, more, map_s, on_fixed, on_last, sum_s, last_s}
use Rattle.zone.specs.PickBays.{on_low}
use Rattle.kinds.specs.Kinds.{Item, item_size, is, on_data}
use Rattle.calls.specs.State.{new_fixed, alter, get, sized, alter_fixed, Fixed, fsize}
use Rattle.bay.specs.Bay.{Cell, bay_sum, items, gap, join_bays, compact_bay, take_high, release, edit, reshape}
use Rattle.bay.specs.Counted.{remove, count}
use Rattle.bay.proofs.Each.{Each, nothing, just, each-some, each-cond, each_weaken}
use Rattle.bay.proofs.Perm.{perm-count}
use Rattle.bay.proofs.Holes.{put_keeps}
use Rattle.bay.proofs.Laws.{cut-less, tidy-items, items-weld, items-gap, release-items, edit-items}
use Rattle.zone.proofs.Sums.{on_low-sum, on_high-sum, on_join-sum, map_s-sum, map_s-zero, on_fixed-sum, on_last-sum}
use Rattle.zone.proofs.Own.{own-shaped}
use Rattle.zone.specs.Search.{own, reaches, place_low, place_high, join_at}

-- counts after each change of a bay
pub count-append : (ok : Item → Bool) (a b : List Item) → count ok (a ++ b) ≡ count ok a + count ok b
count-append ok [] b = omega arith
count-append ok (e ∷ a) b = go (ok e) (count-append ok a b)
  where
    go : (t : Bool) → count ok (a ++ b) ≡ count ok a + count ok b → cond t (suc (count ok (a ++ b))) (count ok (a ++ b)) ≡ cond t (suc (count ok a)) (count ok a) + count ok b
    go true q = omega arith
    go false q = q

pub count-remove-same : (ok : Item → Bool) (a : List Item) → count ok (remove ok a) ≡ 0
count-remove-same ok [] = refl
count-remove-same ok (e ∷ a) = go (ok e) refl (count-remove-same ok a)
  where
    go : (t : Bool) → ok e ≡ t → count ok (remove ok a) ≡ 0 → count ok (cond t (remove ok a) (e ∷ remove ok a)) ≡ 0
    go true q r = r
    go false q r = rw q r

pub count-remove-other : (p ok : Item → Bool) (a : List Item) → ((e : Item) → ok e ≡ true → p e ≡ false) → count p (remove ok a) ≡ count p a
count-remove-other p ok [] n = refl
count-remove-other p ok (e ∷ a) n = go (ok e) refl (count-remove-other p ok a n)
  where
    go : (t : Bool) → ok e ≡ t → count p (remove ok a) ≡ count p a → count p (cond t (remove ok a) (e ∷ remove ok a)) ≡ count p (e ∷ a)
    go true q r = rw (n e q) r
    go false q r = rw r

pub count-remove-le : (p ok : Item → Bool) (a : List Item) → count p (remove ok a) ≤ count p a
count-remove-le p ok [] = omega arith
count-remove-le p ok (e ∷ a) = go (ok e) (p e) (count-remove-le p ok a)
  where
    one : (u : Bool) → count p (remove ok a) ≤ count p a → cond u (suc (count p (remove ok a))) (count p (remove ok a)) ≤ cond u (suc (count p a)) (count p a)
    one true r = omega arith
    one false r = r

    less : (u : Bool) → count p (remove ok a) ≤ count p a → count p (remove ok a) ≤ cond u (suc (count p a)) (count p a)
    less true r = omega arith
    less false r = r

    go : (t u : Bool) → count p (remove ok a) ≤ count p a → count p (cond t (remove ok a) (e ∷ remove ok a)) ≤ cond (p e) (suc (count p a)) (count p a)
    go true u r = less (p e) r
    go false u r = one (p e) r

alter-same : (p ok : Item → Bool) (g : Item → Item) → ((e : Item) → p (g e) ≡ p e) → (e : Item) → p (alter ok g e) ≡ p e
alter-same p ok g q e = go (ok e)
  where
    go : (t : Bool) → p (cond t (g e) e) ≡ p e
    go true = q e
    go false = refl

count-alter : (p ok : Item → Bool) (g : Item → Item) → ((e : Item) → p (g e) ≡ p e) → (a : List Item) → count p (map (alter ok g) a) ≡ count p a
count-alter p ok g q [] = refl
count-alter p ok g q (e ∷ a) = rw (alter-same p ok g q e, count-alter p ok g q a)

pub get-count : (ok : Item → Bool) (a : List Item) → Each (λ (e : Item). 1 ≤ count ok a) (get ok a)
get-count ok [] = nothing
get-count ok (e ∷ a) = go (ok e) (get-count ok a)
  where
    go : (t : Bool) → Each (λ (e : Item). 1 ≤ count ok a) (get ok a) → Each (λ (e : Item). 1 ≤ cond t (suc (count ok a)) (count ok a)) (cond t (some e) (get ok a))
    go true q = just (omega arith)
    go false q = q

pub get-its : (ok : Item → Bool) (a : List Item) → Each (λ (e : Item). ok e ≡ true) (get ok a)
get-its ok [] = nothing
get-its ok (e ∷ a) = each-cond (ok e) (λ q. just q) (get-its ok a)

pub each_all : {A : Type 0} {P : ℕ → A → Type 0} {o : Option A} → ((k : ℕ) → Each (P k) o) → Each (λ (a : A). (k : ℕ) → P k a) o
each_all {o = none} f = nothing
each_all {o = some a} f = just (λ k. each-some (f k))

pub cond-add : (t : Bool) (n : ℕ) → cond t (suc n) n ≡ cond t 1 0 + n
cond-add true n = omega arith
cond-add false n = omega arith

-- ---- over all bays

abbrev pub many : (Item → Bool) → Bays (List Cell) Fixed → ℕ
many p s = sum_s (λ (b : List Cell). count p (items b)) s

module _ (p : Item → Bool) where
  pub low-many : (i : Item) (s : Bays (List Cell) Fixed) → Each (λ (u : Bays (List Cell) Fixed). many p u ≡ cond (p i) 1 0 + many p s) (place_low i s)
  low-many i s = on_low-sum (λ (b : List Cell). count p (items b)) _ _ _ (λ b e. perm-count p (put_keeps i b (leb-true (item_size i) (bay_sum b) e)).perm ∙ cond-add (p i) (count p (items b))) s

  pub high-many : (n end : ℕ) (s : Bays (List Cell) Fixed) → Each (λ (r : Fixed × Bays (List Cell) Fixed). many p r.1 ≡ many p s) (place_high n end s)
  high-many n end s = on_high-sum (λ (b : List Cell). count p (items b)) (reaches n) (take_high n) (new_fixed n) [] (λ (x : Fixed). x.place) end refl (λ b e. ap (count p) (cut-less n b (leb-true n (bay_sum b) e)).same) s

  pub join-many : (q : ℕ) (s : Bays (List Cell) Fixed) → Each (λ (u : Bays (List Cell) Fixed). many p u ≡ many p s) (join_at q s)
  join-many q s = on_join-sum (λ (b : List Cell). count p (items b)) _ (λ (b : List Cell) (x : Fixed) (c : List Cell). join_bays b (gap (fsize x) c)) (λ b c x. ap (count p) (items-weld b (gap (fsize x) c) ∙ ap (items b ++◌) (items-gap (fsize x) c)) ∙ count-append p (items b) (items c)) s

  pub edit-many : (ok : Item → Bool) (g : Item → Item) → ((e : Item) → p (g e) ≡ p e) → (s : Bays (List Cell) Fixed) → many p (map_s (edit ok g) s) ≡ many p s
  edit-many ok g q s = map_s-sum _ (λ (b : List Cell). count p (items b)) (edit ok g) (λ b. ap (count p) (edit-items ok g b) ∙ count-alter p ok g q (items b)) s

  pub own-many : (h a : ℕ) → ((e : Item) → p (on_data (sized a) e) ≡ p e) → (s : Bays (List Cell) Fixed) → Each (λ (u : Bays (List Cell) Fixed). many p u ≡ many p s) (on_low (own h a) (reshape h a) s)
  own-many h a q s = each_weaken (λ u r. omega (arith, r)) (on_low-sum (λ (b : List Cell). count p (items b)) 0 (own h a) (reshape h a) (λ b t. ap (count p) (own-shaped h a b t).same ∙ count-alter p (is h) (on_data (sized a)) q (items b) ∙ omega arith) s)

  pub fixed-many : (q : ℕ) (f : List ℕ → List ℕ) (s : Bays (List Cell) Fixed) → many p (on_fixed (alter_fixed q f) s) ≡ many p s
  fixed-many q f s = on_fixed-sum (λ (b : List Cell). count p (items b)) (alter_fixed q f) s

  pub compact-many : (s : Bays (List Cell) Fixed) → many p (map_s compact_bay s) ≡ many p s
  compact-many s = map_s-sum _ (λ (b : List Cell). count p (items b)) compact_bay (λ b. ap (count p) (tidy-items b)) s

  pub grow-many : (n : ℕ) (s : Bays (List Cell) Fixed) → many p (on_last (λ (b : List Cell). join_bays b (gap n [])) s) ≡ many p s
  grow-many n s = on_last-sum (λ (b : List Cell). count p (items b)) _ s (ap (count p) (items-weld (last_s s) (gap n []) ∙ ap (items (last_s s) ++◌) (items-gap n []) ∙ append-nil (items (last_s s))))

  pub cut-many : (n : ℕ) (s : Bays (List Cell) Fixed) → n ≤ bay_sum (last_s s) → many p (on_last (take_high n) s) ≡ many p s
  cut-many n s l = on_last-sum (λ (b : List Cell). count p (items b)) _ s (ap (count p) (cut-less n (last_s s) l).same)

  -- blocks that become free
  pub release_other : (ok : Item → Bool) → ((e : Item) → ok e ≡ true → p e ≡ false) → (s : Bays (List Cell) Fixed) → many p (map_s (release ok) s) ≡ many p s
  release_other ok n s = map_s-sum _ (λ (b : List Cell). count p (items b)) (release ok) (λ b. ap (count p) (release-items ok b) ∙ count-remove-other p ok (items b) n) s

  pub release-le : (ok : Item → Bool) (s : Bays (List Cell) Fixed) → many p (map_s (release ok) s) ≤ many p s
  release-le ok (last b) = rw (release-items ok b) (count-remove-le p ok (items b))
  release-le ok (more b x s) = let r : count p (items (release ok b)) ≤ count p (items b) = rw (release-items ok b) (count-remove-le p ok (items b)) in omega (arith, release-le ok s)

pub release-gone : (p : Item → Bool) (s : Bays (List Cell) Fixed) → many p (map_s (release p) s) ≡ 0
release-gone p s = map_s-zero (λ (b : List Cell). count p (items b)) (release p) (λ b. ap (count p) (release-items p b) ∙ count-remove-same p (items b)) s
