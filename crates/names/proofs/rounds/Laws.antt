-- The laws of the loops over names: a walk that puts names into trees, a walk that looks them up, and the two together.
use mathlib.Core.Path.{◌≡◌, refl, sym, ◌∙◌}
use mathlib.Core.List.{List, ◌∷◌}
use mathlib.Core.Bool.{Bool, true, false, cond, not, ◌&&◌, ◌||◌}
use Prim.Native.Nat.{ℕ, ◌+◌, ◌<◌, ◌≤◌}
use native.Mathlib.Decide.{ℕ_discrete}
use native.Mathlib.Omega.{arith}
use lib.Dec.{ltb}
use borrow.Author.Tests.{ltb-true, ltb-false, not-true}
use lib.ListN.{length, drop}
use Rattle.block_type.specs.Limits.{smallest_block}
use Rattle.format.specs.WellFormed.{size_of}
use Rattle.format.specs.WellFormed.{is_page, name_of, distinct}
use Rattle.format.specs.Occurs.{occurs, one}
use Rattle.format.proofs.Walk.{end-names}
use Rattle.names.specs.Pages.{Pages, Step, names_at, some}
use Rattle.format.proofs.Bool.{not-both}
use Rattle.names.specs.declared.trees.Trees.{Trees}
use Rattle.names.specs.Tree.{node_at}
use Rattle.names.specs.Steps.{has_name, held, place_of, Put, Taken, Holding, Filled, Round}
use Rattle.names.proofs.Pages.{stepped}
use Rattle.names.proofs.rounds.Distinct.{split-twice, split-once}
use Rattle.names.proofs.trees.More.{held_none}

-- ---- the name of one block

module _ (z : List ℕ) (at : ℕ) (t : Bool) (is : t ≡ is_page (drop at z)) where
  pub take-page : (before after : Trees) (x : ℕ) (done : Bool) → t ≡ true → x ≡ name_of (drop at z) → Put before after x done → Taken z before after at done
  take-page before after x done y e p =
      record {
        is_free = λ l. rw (← is, y) (p.is_free l);
        is_links = λ l. rw (← is, y, ← e) (p.is_links l);
        is_keys = λ l. rw (← is, y, ← e) (p.is_keys l);
        more = λ l k. rw (← is, y, ← e) (p.more l k);
        same = p.same;
        page = λ n. sym is ∙ y;
        why = λ n. rw (← e) (p.why n);
      }

  pub take-other : (g : Trees) → not t ≡ true → Taken z g g at (not t)
  take-other g y =
      record {
        is_free = λ l. rw (← is, not-true t y) (omega arith);
        is_links = λ l. rw (← is, not-true t y);
        is_keys = λ l. rw (← is, not-true t y);
        more = λ l k. rw (← is, not-true t y) (omega arith);
        same = λ e. refl;
        page = λ e. absurd (not-both y e);
        why = λ e. absurd (not-both y e);
      }

  pub met-page : (g : Trees) (x : ℕ) (r : Bool) → t ≡ true → x ≡ name_of (drop at z) → r ≡ has_name g x → r ≡ (is_page (drop at z) && has_name g (name_of (drop at z)))
  met-page g x r y e q = rw (← is, y, ← e) q

  pub met-other : (g : Trees) → t ≡ false → t ≡ (is_page (drop at z) && has_name g (name_of (drop at z)))
  met-other g y = rw (← is, y)

-- ---- names that are looked up

-- some name from a block on, where that is known of the block and of those behind
some-step : (f : ℕ → Bool) (z : List ℕ) (at n : ℕ) → Step z at n → some f (names_at z at) ≡ ((is_page (drop at z) && f (name_of (drop at z))) || some f (names_at z (at + n)))
unfolding some
some-step f z at n s = rw s.heads (go (is_page (drop at z)))
  where
    go : (t : Bool) → some f (cond t (name_of (drop at z) ∷ names_at z (at + n)) (names_at z (at + n))) ≡ ((t && f (name_of (drop at z))) || some f (names_at z (at + n)))
    go true = refl
    go false = refl

module _ (t : Trees) (z : List ℕ) (from at : ℕ) (inv : some (has_name t) (names_at z at) ≡ some (has_name t) (names_at z from)) where
  abbrev f : ℕ → Bool
  f = has_name t

  pub look-found : (m : Bool) → Pages z at → at < length z → m ≡ (is_page (drop at z) && f (name_of (drop at z))) → m ≡ true → true ≡ some f (names_at z from)
  look-found m g l e y = rw (← e, y) at (sym (some-step f z at (size_of (drop at z)) (stepped z at g l (size_of (drop at z)) refl)) ∙ inv)

  pub look-step : (m : Bool) (n : ℕ) → m ≡ (is_page (drop at z) && f (name_of (drop at z))) → m ≡ false → Step z at n → some f (names_at z (at + n)) ≡ some f (names_at z from)
  look-step m n e y s = rw (← e, y) at (sym (some-step f z at n s) ∙ inv)

  pub look-end : length z ≤ at → false ≡ some f (names_at z from)
  unfolding some
  look-end l = rw (end-names z at l) at inv

-- ---- names that are put

pub holding-start : (z : List ℕ) (t : Trees) (from : ℕ) → t.free ≡ 1 → Holding z t from from
holding-start z t from e =
    record {
      past = omega arith;
      far = λ h. let q : ⊥ = omega arith in absurd q;
      counts = λ x. omega (arith, held_none t e x);
    }

module _ (z : List ℕ) (t : Trees) (from at : ℕ) (i : Holding z t from at) where
  -- a block of n bytes more
  pub holding-step : (t' : Trees) (done : Bool) (n : ℕ) → Taken z t t' at done → done ≡ true → smallest_block ≤ n
      → names_at z at ≡ cond (is_page (drop at z)) (name_of (drop at z) ∷ names_at z (at + n)) (names_at z (at + n)) → Holding z t' from (at + n)
  unfolding occurs
  holding-step t' done n k y l s =
      record {
        past = omega (arith, i.past);
        far = λ h. omega (arith, i.past);
        counts = λ x. go x (is_page (drop at z)) (k.more y x) (rw s at (i.counts x));
      }
    where
      go : (x : ℕ) (b : Bool) → held t' x ≡ held t x + cond b (one x (name_of (drop at z))) 0
          → held t x + occurs x (cond b (name_of (drop at z) ∷ names_at z (at + n)) (names_at z (at + n))) ≡ occurs x (names_at z from)
          → held t' x + occurs x (names_at z (at + n)) ≡ occurs x (names_at z from)
      go x true m c = omega arith
      go x false m c = omega arith

  pub fill_end : Pages z at → length z ≤ at → Filled z t from at
  fill_end g l = record { next = g; past = i.past; far = λ h. let q : ⊥ = omega arith in absurd q; counts = i.counts }

  pub fill_stop : (t' : Trees) (done : Bool) → Pages z at → Taken z t t' at done → done ≡ false → Filled z t' from at
  fill_stop t' done g k e =
      rw (k.same e)
      (record { next = g; past = i.past; far = λ h. i.far busy; counts = i.counts })
    where
      place : ℕ
      place = place_of t (name_of (drop at z))

      -- something is in the trees
      busy : 1 < t.free
      busy = go (ℕ_discrete (node_at t.links place) 0)
        where
          go : Dec (node_at t.links place ≡ 0) → 1 < t.free
          go (yes n) = omega (arith, k.why e n, t.grown.links.two)
          go (no n) = omega (arith, t.grown.below place)

-- ---- a round

pub round-twice : (z : List ℕ) (g : Trees) (from at : ℕ) (t : Bool) → Filled z g from at → t ≡ some (has_name g) (names_at z at) → t ≡ true → distinct (names_at z from) ≡ false
round-twice z g from at t f e y = split-twice (has_name g) (names_at z from) (names_at z at) f.counts (sym e ∙ y)

pub round-on : (z : List ℕ) (g : Trees) (from at : ℕ) (t : Bool) → from < length z → Filled z g from at → t ≡ some (has_name g) (names_at z at) → t ≡ false → Round z from at
round-on z g from at t l f e y =
    record {
      pages = f.next;
      far = go (ltb at (length z)) refl;
      rest = split-once (has_name g) (names_at z from) (names_at z at) f.counts (sym e ∙ y);
    }
  where
    go : (b : Bool) → ltb at (length z) ≡ b → from < at
    go true q = f.far (ltb-true at (length z) q)
    go false q = omega (arith, ltb-false at (length z) q)

-- ---- all rounds

module _ (z : List ℕ) (first at : ℕ) (inv : distinct (names_at z at) ≡ distinct (names_at z first)) where
  pub rounds-twice : distinct (names_at z at) ≡ false → false ≡ distinct (names_at z first)
  rounds-twice e = sym e ∙ inv

  pub rounds-on : (next : ℕ) → Round z at next → distinct (names_at z next) ≡ distinct (names_at z first)
  rounds-on next r = sym r.rest ∙ inv

  pub rounds-end : length z ≤ at → true ≡ distinct (names_at z first)
  unfolding distinct
  rounds-end l = rw (end-names z at l) at inv
