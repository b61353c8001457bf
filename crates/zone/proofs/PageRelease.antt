-- Pages that become free one after the other: to free a list of pages is to free the first and then the others, and the dropping that is left once the
-- first is gone is the dropping of the others.
use mathlib.Core.Path.{◌≡◌, refl, ap, ap₂, sym, ◌∙◌}
use mathlib.Core.Bool.{Bool, true, false, cond, ◌||◌}
use mathlib.Core.List.{List, [], ◌∷◌, ◌++◌}
use Prim.Native.Nat.{ℕ, zero, suc, ◌+◌, ◌≤◌, ◌<◌, max}
use native.Mathlib.Omega.{arith}
use native.Mathlib.Nat.{zero-add, add-zero, add_assoc}
use lib.Dec.{eqb, leb}
use borrow.Author.Tests.{eq-eqb, ne_eqb, eqb-true, eqb-false}
use Rattle.kinds.specs.Kinds.{Key, of_handle, of_name, Item, key_named, has_name, item_size}
use Rattle.calls.specs.Bays.{Bays, last, more, map_s, max_s, concat_s}
use Rattle.calls.specs.State.{Fixed}
use Rattle.calls.specs.Pages.{Candidate, unlocked, in_turn, is_one, key_among, among, freed, shortest, sum_without, dropping}
use Rattle.calls.proofs.Pages.{Of, turn-among, without-same}
use Rattle.bay.specs.Bay.{Cell, free, held, bay_sum, items, merge, gap, release}
use Rattle.bay.specs.Counted.{remove}
use Rattle.bay.proofs.Laws.{release-items}
use Rattle.bay.proofs.Sound.{Sound, s-nil, s-end, s-free, s-held, Block}
use Rattle.zone.specs.PickBays.{AllS}
use Rattle.zone.specs.Work.{Zone, clear_out, make_room}
use Rattle.zone.proofs.HowMany.{many}
use Rattle.zone.proofs.Dropping.{released-sum, many-flat}
use Rattle.zone.proofs.PageTurn.{others-go}

-- ---- one bay

gap-some : (n : ℕ) (cs : List Cell) → 0 < n → gap n cs ≡ merge n cs
gap-some zero cs l = absurd (omega arith)
gap-some (suc n) cs l = refl

gap-gap : (a b : ℕ) (cs : List Cell) → gap (a + b) cs ≡ gap a (gap b cs)
gap-gap zero b cs = ap (λ (n : ℕ). gap n cs) (zero-add b)
gap-gap (suc a) zero cs = ap (λ (n : ℕ). gap n cs) (add-zero (suc a))
gap-gap (suc a) (suc b) [] = gap-some (suc a + suc b) [] (omega arith)
gap-gap (suc a) (suc b) (free k ∷ cs) = gap-some (suc a + suc b) (free k ∷ cs) (omega arith) ∙ ap (λ (n : ℕ). free n ∷ cs) (add_assoc (suc a) (suc b) k)
gap-gap (suc a) (suc b) (held e ∷ cs) = gap-some (suc a + suc b) (held e ∷ cs) (omega arith)

release-gap : (u : Item → Bool) (n : ℕ) (cs : List Cell) → release u (gap n cs) ≡ gap n (release u cs)
release-gap u zero cs = refl
release-gap u (suc n) [] = refl
release-gap u (suc n) (free k ∷ cs) = gap-gap (suc n) k (release u cs)
release-gap u (suc n) (held e ∷ cs) = refl

-- freed by either test: by the one, and then by the other
module _ (t u v : Item → Bool) (f : (e : Item) → v e ≡ t e || u e) where
  release-twice : (cs : List Cell) → release v cs ≡ release u (release t cs)
  release-twice [] = refl
  release-twice (free n ∷ cs) = ap (gap n) (release-twice cs) ∙ sym (release-gap u n (release t cs))
  release-twice (held e ∷ cs) = rw (f e) (go (t e) (release-twice cs))
    where
      go : (b : Bool) → release v cs ≡ release u (release t cs)
          → cond (b || u e) (gap (item_size e) (release v cs)) (held e ∷ release v cs) ≡ release u (cond b (gap (item_size e) (release t cs)) (held e ∷ release t cs))
      go true q = ap (gap (item_size e)) q ∙ sym (release-gap u (item_size e) (release t cs))
      go false q = ap (λ (d : List Cell). cond (u e) (gap (item_size e) d) (held e ∷ d)) q

  freed-twice : (es : List Item) → freed v es ≡ freed t es + freed u (remove t es)
  freed-twice [] = refl
  freed-twice (e ∷ es) = rw (f e) (go (t e) (u e) refl (freed-twice es))
    where
      go : (b d : Bool) → u e ≡ d → freed v es ≡ freed t es + freed u (remove t es)
          → cond (b || d) (item_size e + freed v es) (freed v es) ≡ cond b (item_size e + freed t es) (freed t es) + freed u (cond b (remove t es) (e ∷ remove t es))
      go true d p q = omega arith
      go false true p q = rw p (omega arith)
      go false false p q = rw p q

  map_s-twice : (s : Bays (List Cell) Fixed) → map_s (release v) s ≡ map_s (release u) (map_s (release t) s)
  map_s-twice (last b) = ap last (release-twice b)
  map_s-twice (more b x s) = ap₂ (λ (d : List Cell) (r : Bays (List Cell) Fixed). more d x r) (release-twice b) (map_s-twice s)

  one-sum : (b : List Cell) → bay_sum (release t b) + freed u (items (release t b)) ≡ bay_sum b + freed v (items b)
  one-sum b = omega (arith, released-sum t b, ap (freed u) (release-items t b), freed-twice (items b))

  sum_twice : (s : Bays (List Cell) Fixed) → sum_without items bay_sum u (map_s (release t) s) ≡ sum_without items bay_sum v s
  sum_twice (last b) = one-sum b
  sum_twice (more b x s) = ap₂ max (one-sum b) (sum_twice s)

-- nothing freed
release-none : (u : Item → Bool) → ((e : Item) → u e ≡ false) → {cs : List Cell} → Sound cs → release u cs ≡ cs
release-none u f s-nil = refl
release-none u f (s-end {n = n} b) = one n b
  where
    one : (n : ℕ) → Block n → gap n [] ≡ free n ∷ []
    one zero b = absurd (omega (arith, b.some_bytes))
    one (suc n) b = refl
release-none u f (s-free {n = n} {e = e} {cs = cs} b s) = ap (gap n) (release-none u f s) ∙ one n b
  where
    one : (n : ℕ) → Block n → gap n (held e ∷ cs) ≡ free n ∷ held e ∷ cs
    one zero b = absurd (omega (arith, b.some_bytes))
    one (suc n) b = refl
release-none u f (s-held {e = e} b s) = rw (f e) (ap (held e ∷◌) (release-none u f s))

pub map_s-none : (u : Item → Bool) → ((e : Item) → u e ≡ false) → (s : Bays (List Cell) Fixed) → AllS Sound s → map_s (release u) s ≡ s
map_s-none u f (last b) d = ap last (release-none u f d)
map_s-none u f (more b x s) d = ap₂ (λ (c : List Cell) (r : Bays (List Cell) Fixed). more c x r) (release-none u f d.0) (map_s-none u f s d.1)

freed-none : (u : Item → Bool) → ((e : Item) → u e ≡ false) → (es : List Item) → freed u es ≡ 0
freed-none u f [] = refl
freed-none u f (e ∷ es) = rw (f e) (freed-none u f es)

pub sum-none : (u : Item → Bool) → ((e : Item) → u e ≡ false) → (s : Bays (List Cell) Fixed) → sum_without items bay_sum u s ≡ max_s bay_sum s
sum-none u f (last b) = omega (arith, freed-none u f (items b))
sum-none u f (more b x s) = ap₂ max (omega (arith, freed-none u f (items b))) (sum-none u f s)

pub none-among : (e : Item) → among [] e ≡ false
none-among e = go e.key
  where
    go : (k : Key) → key_among [] k ≡ false
    go (of_handle h) = refl
    go (of_name n s) = refl

-- ---- a list of pages: the first, and then the others

eqb_swap : (a b : ℕ) → eqb a b ≡ eqb b a
eqb_swap a b = go (eqb a b) refl
  where
    go : (t : Bool) → eqb a b ≡ t → t ≡ eqb b a
    go true q = sym (eq-eqb b a (sym (eqb-true a b q)))
    go false q = sym (ne_eqb b a (λ p. eqb-false a b q (sym p)))

among-more : (x : Candidate) (xs : List Candidate) (e : Item) → among (x ∷ xs) e ≡ has_name x.name e || among xs e
among-more x xs e = go e.key
  where
    go : (k : Key) → key_among (x ∷ xs) k ≡ key_named x.name k || key_among xs k
    go (of_handle h) = refl
    go (of_name n s) = ap (◌|| is_one xs n) (eqb_swap n x.name)

shortest-same : (f g : List Candidate → Bool) → ((ys : List Candidate) → f ys ≡ g ys) → (xs : List Candidate) → shortest f xs ≡ shortest g xs
shortest-same f g q [] = refl
shortest-same f g q (x ∷ xs) = ap₂ (λ (t : Bool) (ys : List Candidate). cond t [] (x ∷ ys)) (q []) (shortest-same (λ ys. f (x ∷ ys)) (λ ys. g (x ∷ ys)) (λ ys. q (x ∷ ys)) xs)

pub items-released : (ok : Item → Bool) (s : Bays (List Cell) Fixed) → concat_s items (map_s (release ok) s) ≡ remove ok (concat_s items s)
items-released ok (last b) = release-items ok b
items-released ok (more b x s) = ap₂ ◌++◌ (release-items ok b) (items-released ok s) ∙ sym (remove-append (items b) (concat_s items s))
  where
    remove-append : (a b : List Item) → remove ok (a ++ b) ≡ remove ok a ++ remove ok b
    remove-append [] b = refl
    remove-append (e ∷ a) b = go (ok e) (remove-append a b)
      where
        go : (t : Bool) → remove ok (a ++ b) ≡ remove ok a ++ remove ok b → cond t (remove ok (a ++ b)) (e ∷ remove ok (a ++ b)) ≡ cond t (remove ok a) (e ∷ remove ok a) ++ remove ok b
        go true q = q
        go false q = ap (e ∷◌) q

-- ---- the dropping

module _ (need : ℕ) (z : Zone) where
  -- the sum is there: nothing goes
  pub none_dropped : leb need (max_s bay_sum z.bays) ≡ true → dropping items bay_sum need z ≡ []
  none_dropped q = go (in_turn z.clock (concat_s items z.bays)) (ap (leb need) (sum-none (among []) none-among z.bays) ∙ q)
    where
      go : (xs : List Candidate) → leb need (sum_without items bay_sum (among []) z.bays) ≡ true → shortest (λ ys. leb need (sum_without items bay_sum (among ys) z.bays)) xs ≡ []
      go [] q = refl
      go (x ∷ xs) q = rw q

  pub room-there : AllS Sound z.bays → leb need (max_s bay_sum z.bays) ≡ true → make_room need z ≡ z
  room-there d q = ap (λ (xs : List Candidate). clear_out (among xs) z) (none_dropped q) ∙ ap (λ (b : Bays (List Cell) Fixed). record { buf = z.buf; len = z.len; clock = z.clock; chain = z.chain; bays = b }) (map_s-none (among []) none-among z.bays d)

  -- nobody is there to go
  pub none_left : in_turn z.clock (concat_s items z.bays) ≡ [] → dropping items bay_sum need z ≡ []
  none_left q = ap (shortest (λ ys. leb need (sum_without items bay_sum (among ys) z.bays))) q

  module _ (f : (n : ℕ) → many (has_name n) z.bays ≤ 1) (x : Candidate) (xs : List Candidate) (q : in_turn z.clock (concat_s items z.bays) ≡ x ∷ xs) where
    -- the first goes
    abbrev pub left : Zone
    left = clear_out (has_name x.name) z

    pub left-turn : in_turn left.clock (concat_s items left.bays) ≡ xs
    left-turn =
        ap (in_turn z.clock) (items-released (has_name x.name) z.bays)
        ∙ others-go z.clock (concat_s items z.bays) (λ n. omega (arith, f n, many-flat (has_name n) items z.bays)) x xs q

    pub first-dropped : leb need (max_s bay_sum z.bays) ≡ false → dropping items bay_sum need z ≡ x ∷ dropping items bay_sum need left
    first-dropped r =
        ap (shortest (λ ys. leb need (sum_without items bay_sum (among ys) z.bays))) q
        ∙ (rw (sum-none (among []) none-among z.bays, r) (ap (x ∷◌)
        (shortest-same _ (λ ys. leb need (sum_without items bay_sum (among ys) left.bays)) (λ ys. ap (leb need) (sym (sum_twice (has_name x.name) (among ys) (among (x ∷ ys)) (among-more x ys) z.bays))) xs
        ∙ ap (shortest (λ ys. leb need (sum_without items bay_sum (among ys) left.bays))) (sym left-turn))))

    pub first-room : leb need (max_s bay_sum z.bays) ≡ false → make_room need z ≡ make_room need left
    first-room r =
        ap (λ (ys : List Candidate). clear_out (among ys) z) (first-dropped r)
        ∙ ap (λ (b : Bays (List Cell) Fixed). record { buf = z.buf; len = z.len; clock = z.clock; chain = z.chain; bays = b }) (map_s-twice (has_name x.name) (among (dropping items bay_sum need left)) _ (among-more x (dropping items bay_sum need left)) z.bays)

    -- with every unlocked page gone the sums are what they were
    pub first-emptied : sum_without items bay_sum unlocked left.bays ≡ sum_without items bay_sum unlocked z.bays
    first-emptied =
        sum_twice (has_name x.name) unlocked (λ (e : Item). has_name x.name e || unlocked e) (λ e. refl) z.bays
        ∙ without-same items bay_sum (λ (e : Item). has_name x.name e || unlocked e) unlocked z.bays either
      where
        either : (e : Item) → Of e (concat_s items z.bays) → has_name x.name e || unlocked e ≡ unlocked e
        either e o = go (has_name x.name e) refl
          where
            go : (t : Bool) → has_name x.name e ≡ t → t || unlocked e ≡ unlocked e
            go true p = sym (ap (◌|| among xs e) p) ∙ sym (among-more x xs e) ∙ ap (λ (ys : List Candidate). among ys e) (sym q)
                ∙ turn-among z.clock (concat_s items z.bays) (λ n. omega (arith, f n, many-flat (has_name n) items z.bays)) e o
            go false p = refl
