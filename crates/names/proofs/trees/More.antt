-- A name more in the trees: a search for any other name finds what it found, and nothing else.
use mathlib.Core.Path.{◌≡◌, refl, sym, ap, ◌∙◌}
use mathlib.Core.List.{List}
use mathlib.Core.Bool.{Bool, true, false, cond}
use Prim.Native.Nat.{ℕ, zero, suc, ◌+◌, ◌*◌, ◌/◌, ◌%◌, ◌<◌}
use native.Mathlib.Decide.{ℕ_discrete}
use native.Mathlib.Omega.{arith}
use lib.Dec.{ltb}
use borrow.Author.Tests.{eq-eqb, eqb-true, ltb-true, lt-ltb}
use lib.ListN.{length, get_or, set, length-set}
use lib.Seq.{get_or-set_same, get_or-set_other}
use Rattle.format.proofs.Bool.{and_left, and_right, is_false, not-both}
use Rattle.format.proofs.Count.{one_same, one-other}
use Rattle.format.specs.Occurs.{one}
use Rattle.names.specs.Mix.{mixed, head_of}
use Rattle.names.specs.Tree.{branches, many_heads, name_bits, turned, node_at, key_at, ends, end_of, has, Tree}
use Rattle.names.specs.Steps.{has_name, held, place_of, Put}
use Rattle.names.specs.declared.trees.Trees.{Trees}
use Rattle.names.proofs.trees.Search.{ends-zero, ends-none, ends_same, ends-go}

-- the two parts of a search that finds
module _ (link key : List ℕ) (heads x : ℕ) where
  pub has-node : has link key heads x ≡ true → 0 < node_at link (end_of link key heads x)
  unfolding has
  has-node h = ltb-true 0 _ (and_left _ _ h)

  pub has_key : has link key heads x ≡ true → key_at link key (end_of link key heads x) ≡ x
  unfolding has
  has_key h = eqb-true _ x (and_right (ltb 0 (node_at link (end_of link key heads x))) _ h)

  has_of : (p : ℕ) → end_of link key heads x ≡ p → 0 < node_at link p → key_at link key p ≡ x → has link key heads x ≡ true
  unfolding has
  has_of p e n k = rw (e, lt-ltb 0 (node_at link p) n, eq-eqb (key_at link key p) x k)

-- the node `node` is new: it has the name x, and it is linked at q, where nothing was
module _ (link key : List ℕ) (heads node x q : ℕ) (t : Tree link key heads node) (free : node < length key) (there : q < length link) (none : get_or link q 0 ≡ 0) where
  abbrev link' : List ℕ
  link' = set link q node

  abbrev key' : List ℕ
  key' = set key node x

  -- what stands where a node was stays
  node_stays : (p : ℕ) → 0 < get_or link p 0 → get_or link' p 0 ≡ get_or link p 0
  node_stays p l = get_or-set_other link q p node 0 (λ e. let z : get_or link p 0 ≡ 0 = rw e none in omega arith)

  key-stays : (p : ℕ) → 0 < get_or link p 0 → key_at link' key' p ≡ key_at link key p
  key-stays p l = rw (node_stays p l) (get_or-set_other key node (get_or link p 0) x 0 (λ e. omega (arith, t.below p)))

  -- the new node's place
  node-new : get_or link' q 0 ≡ node
  node-new = get_or-set_same link q node 0 there

  key-new : key_at link' key' q ≡ x
  key-new = rw node-new (get_or-set_same key node x 0 free)

  -- a search that came to a node comes there again
  ends-again : (y n p bits : ℕ) → 0 < node_at link (ends link key heads y n p bits) → ends link' key' heads y n p bits ≡ ends link key heads y n p bits
  ends-again y zero p bits l = ends-zero link' key' heads y p bits ∙ sym (ends-zero link key heads y p bits)
  ends-again y (suc n) p bits l =
      go (ℕ_discrete (node_at link p) 0) (ℕ_discrete (key_at link key p) y) (ends-again y n (heads + node_at link p * branches + bits % branches) (bits / branches))
    where
      go : Dec (node_at link p ≡ 0) → Dec (key_at link key p ≡ y)
          → (0 < node_at link (ends link key heads y n (heads + node_at link p * branches + bits % branches) (bits / branches))
          → ends link' key' heads y n (heads + node_at link p * branches + bits % branches) (bits / branches) ≡ ends link key heads y n (heads + node_at link p * branches + bits % branches) (bits / branches))
          → ends link' key' heads y (suc n) p bits ≡ ends link key heads y (suc n) p bits
      go (yes e) k more = let h = (rw (ends-none link key heads y (suc n) p bits e) at l) in let z : ⊥ = omega arith in absurd z
      go (no e) (yes k) more =
          let h : 0 < node_at link p = omega arith in
          ends_same link' key' heads y (suc n) p bits (key-stays p h ∙ k) ∙ sym (ends_same link key heads y (suc n) p bits k)
      go (no e) (no k) more =
          let h : 0 < node_at link p = omega arith in
          let s = node_stays p h in
          let o = ends-go link key heads y n p bits e k in
          ends-go link' key' heads y n p bits (λ z. e (sym s ∙ z)) (λ z. k (sym (key-stays p h) ∙ z))
          ∙ ap (λ (i : ℕ). ends link' key' heads y n (heads + i * branches + bits % branches) (bits / branches)) s
          ∙ more (rw o at l)
          ∙ sym o

  -- a search for x, which came to q, finds it there
  ends-new : (n p bits : ℕ) → ends link key heads x n p bits ≡ q → ends link' key' heads x n p bits ≡ q
  ends-new zero p bits h = ends-zero link' key' heads x p bits ∙ sym (ends-zero link key heads x p bits) ∙ h
  ends-new (suc n) p bits h =
      go (ℕ_discrete (node_at link p) 0) (ℕ_discrete (key_at link key p) x) (ends-new n (heads + node_at link p * branches + bits % branches) (bits / branches))
    where
      go : Dec (node_at link p ≡ 0) → Dec (key_at link key p ≡ x)
          → (ends link key heads x n (heads + node_at link p * branches + bits % branches) (bits / branches) ≡ q
          → ends link' key' heads x n (heads + node_at link p * branches + bits % branches) (bits / branches) ≡ q)
          → ends link' key' heads x (suc n) p bits ≡ q
      go (yes e) k more =
          let s : p ≡ q = sym (ends-none link key heads x (suc n) p bits e) ∙ h in
          ends_same link' key' heads x (suc n) p bits (rw s key-new) ∙ s
      go (no e) (yes k) more =
          let s : p ≡ q = sym (ends_same link key heads x (suc n) p bits k) ∙ h in
          absurd (e (rw s none))
      go (no e) (no k) more =
          let l : 0 < node_at link p = omega arith in
          let s = node_stays p l in
          ends-go link' key' heads x n p bits (λ z. e (sym s ∙ z)) (λ z. k (sym (key-stays p l) ∙ z))
          ∙ ap (λ (i : ℕ). ends link' key' heads x n (heads + i * branches + bits % branches) (bits / branches)) s
          ∙ more (sym (ends-go link key heads x n p bits e k) ∙ h)

  has-again : (y : ℕ) → has link key heads y ≡ true → has link' key' heads y ≡ true
  unfolding end_of
  has-again y h =
      let l = has-node link key heads y h in
      let p = end_of link key heads y in
      has_of link' key' heads y p (ends-again y name_bits (head_of heads (mixed y)) (turned (mixed y)) l) (rw (node_stays p l) l) (key-stays p l ∙ has_key link key heads y h)

  module _ (sought : q ≡ end_of link key heads x) where
    has_new : has link' key' heads x ≡ true
    unfolding end_of
    has_new = has_of link' key' heads x q (ends-new name_bits (head_of heads (mixed x)) (turned (mixed x)) (sym sought)) (rw node-new t.used) key-new

    new-below : (p : ℕ) → get_or link' p 0 < node + 1
    new-below p = go (ℕ_discrete p q)
      where
        go : Dec (p ≡ q) → get_or link' p 0 < node + 1
        go (yes e) = rw e (omega (arith, node-new))
        go (no e) = omega (arith, get_or-set_other link q p node 0 e, t.below p)

    new-found : (i : ℕ) → 0 < i → i < node + 1 → has link' key' heads (get_or key' i 0) ≡ true
    new-found i l h = go (ℕ_discrete i node)
      where
        go : Dec (i ≡ node) → has link' key' heads (get_or key' i 0) ≡ true
        go (yes e) = rw (e, get_or-set_same key node x 0 free) has_new
        go (no e) = rw (get_or-set_other key node i x 0 e) (has-again (get_or key i 0) (t.found i l (omega arith)))

    pub tree-more : Tree link' key' heads (node + 1)
    tree-more =
        record {
          links = record {
            some = t.links.some;
            few = t.links.few;
            two = rw (length-set key node x) t.links.two;
            short = rw (length-set key node x) t.links.short;
            sizes = rw (length-set key node x, length-set link q node) t.links.sizes;
            within = λ p. omega (arith, new-below p, length-set key node x);
          };
          used = omega arith;
          room = omega (arith, length-set key node x);
          below = new-below;
          found = new-found;
        }

    -- x was not there
    has_no : has link key heads x ≡ false
    has_no = is_false _ (λ h. let l = has-node link key heads x h in let e : node_at link (end_of link key heads x) ≡ 0 = rw (← sought) none in omega arith)

    -- no other name is found that was not found
    has-only : (y : ℕ) → (y ≡ x → ⊥) → has link' key' heads y ≡ true → has link key heads y ≡ true
    has-only y ne h =
        let p = end_of link' key' heads y in
        let i = get_or link' p 0 in
        let k : get_or key' i 0 ≡ y = has_key link' key' heads y h in
        go p (has-node link' key' heads y h) k
      where
        go : (p : ℕ) → 0 < get_or link' p 0 → get_or key' (get_or link' p 0) 0 ≡ y → has link key heads y ≡ true
        go p l k = at (ℕ_discrete (get_or link' p 0) node)
          where
            at : Dec (get_or link' p 0 ≡ node) → has link key heads y ≡ true
            at (yes e) = absurd (ne (sym k ∙ rw (e, get_or-set_same key node x 0 free)))
            at (no e) =
                let s = get_or-set_other key node (get_or link' p 0) x 0 e in
                rw (← k, s) (t.found (get_or link' p 0) l (omega (arith, new-below p)))

    pub held_more : (y : ℕ) → cond (has link' key' heads y) 1 0 ≡ cond (has link key heads y) 1 0 + one y x
    held_more y = go (ℕ_discrete y x) (has link key heads y) refl
      where
        go : Dec (y ≡ x) → (b : Bool) → has link key heads y ≡ b → cond (has link' key' heads y) 1 0 ≡ cond (has link key heads y) 1 0 + one y x
        go (yes e) b h = rw (e, has_new, has_no) (omega (arith, one_same x x refl))
        go (no e) true h = rw (h, has-again y h, one-other y x e)
        go (no e) false h = rw (h, is_false _ (λ w. not-both (has-only y e w) h), one-other y x e)

-- ---- what `insert` leaves

module _ (t : Trees) (x : ℕ) where
  nothing : (node_at t.links (place_of t x) ≡ 0 → t.free ≡ length t.keys) → Put t t x false
  nothing h =
      record {
        is_free = λ y. absurd (not-both y refl);
        is_links = λ y. absurd (not-both y refl);
        is_keys = λ y. absurd (not-both y refl);
        more = λ y. absurd (not-both y refl);
        same = λ e. refl;
        why = λ e. h;
      }

  pub insert-full : t.free ≡ length t.keys → Put t t x false
  insert-full e = nothing (λ z. e)

  pub insert-there : (p : ℕ) → p ≡ place_of t x → (get_or t.links p 0 ≡ 0 → ⊥) → Put t t x false
  insert-there p s ne = nothing (λ z. absurd (ne (rw s z)))

  module _ (p : ℕ) (ne : t.free ≡ length t.keys → ⊥) (e : p ≡ place_of t x) (l : p < length t.links) (none : get_or t.links p 0 ≡ 0) where
    free : t.free < length t.keys
    free = omega (arith, t.grown.room)

    pub insert-tree : Tree (set t.links p t.free) (set t.keys t.free x) many_heads (t.free + 1)
    insert-tree = tree-more t.links t.keys many_heads t.free x p t.grown free l none e

    pub insert-new : (after : Trees) → after.links ≡ set t.links p t.free → after.keys ≡ set t.keys t.free x → after.free ≡ t.free + 1 → Put t after x true
    insert-new after el ek ef =
        record {
          is_free = λ _. ef;
          is_links = λ _. rw e at el;
          is_keys = λ _. ek;
          more = λ _ y. rw (el, ek) (held_more t.links t.keys many_heads t.free x p t.grown free l none e y);
          same = λ n. absurd (not-both refl n);
          why = λ n. absurd (not-both refl n);
        }

-- trees with no node
pub held_none : (t : Trees) → t.free ≡ 1 → (x : ℕ) → held t x ≡ 0
held_none t e x = rw (is_false (has_name t x) (λ h. let l = has-node t.links t.keys many_heads x h in omega (arith, e, t.grown.below (place_of t x))))
