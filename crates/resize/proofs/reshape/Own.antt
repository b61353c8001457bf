-- The block of a live handle stands in the bay that a change by its handle changes.
use mathlib.Core.Path.{◌≡◌, refl, sym, ap, ◌∙◌, subst}
use mathlib.Core.Bool.{Bool, true, false, cond, not, false≢true}
use mathlib.Core.Option.{Option, none, some, get_or}
use mathlib.Core.List.{List, [], ◌∷◌, ◌++◌, map, append_assoc, map-append}
use Prim.Native.Nat.{ℕ, suc, ◌+◌, ◌≤◌}
use native.Mathlib.Nat.{add-zero, add_assoc}
use native.Mathlib.Omega.{arith}
use Rattle.kinds.specs.Kinds.{Item, header_of, item_size, is}
use Rattle.kinds.proofs.KindLaws.{is-header}
use Rattle.calls.specs.Bays.{Bays, last, more, over, or_else, find_s, on_lowest}
use Rattle.calls.specs.State.{Fixed, fsize, get, own_sum}
use Rattle.calls.specs.Table.{is_none}
use Rattle.calls.proofs.Counted.{get_none}
use Rattle.bay.specs.Bay.{Cell, free, held, bay_size, bay_sum, items}
use Rattle.bay.specs.Counted.{count, live}
use Rattle.structure.specs.Structure.{Block, cell, fixed, place_of}
use Rattle.access.specs.Edit.{data_of}
use Rattle.zone.specs.Group.{flat_bay, flatten}
use Rattle.zone.specs.Work.{has}
use Rattle.bays.specs.At.{At, at_last, at_here, at_later}
use Rattle.bays.proofs.At.{no-sizes, later-sizes}
use Rattle.resize.specs.reshape.Own.{Own, data_at}

-- ---- in one bay

-- the block of handle h is there, or none
data InBay (h : ℕ) (b : List Cell) : Type 0 where
  gone : count (is h) (items b) ≡ 0 → InBay h b
  there : (left : List Cell) (mine : Item) (right : List Cell) → b ≡ left ++ (held mine ∷ right) → is h mine ≡ true → count (is h) (items left) ≡ 0
      → count (is h) (items b) ≡ suc (count (is h) (items right)) → has h b ≡ true → InBay h b

in-bay : (h : ℕ) (b : List Cell) → InBay h b
in-bay h [] = gone refl
in-bay h (free n ∷ b) = go (in-bay h b)
  where
    go : InBay h b → InBay h (free n ∷ b)
    go (gone q) = gone q
    go (there l m r p i f c t) = there (free n ∷ l) m r (ap (free n ∷◌) p) i f c t
in-bay h (held e ∷ b) = go (is h e) refl (in-bay h b)
  where
    go : (t : Bool) → is h e ≡ t → InBay h b → InBay h (held e ∷ b)
    go true q i = there [] e b refl q refl (rw q) (rw q)
    go false q (gone c) = gone (rw q c)
    go false q (there l m r p i f c t) = there (held e ∷ l) m r (ap (held e ∷◌) p) i (rw q f) (rw q c) (rw q t)

has-none : (h : ℕ) (b : List Cell) → count (is h) (items b) ≡ 0 → has h b ≡ false
has-none h b q = ap (λ (o : Option Item). not (is_none o)) (get_none (is h) (items b) q)

-- cells without the handle are passed
place-past : (h p : ℕ) (cs : List Cell) (r : List Block) → count (is h) (items cs) ≡ 0 → place_of (is h) p (map cell cs ++ r) ≡ place_of (is h) (p + bay_size cs) r
unfolding place_of
place-past h p [] r q = ap (λ (k : ℕ). place_of (is h) k r) (sym (add-zero p))
place-past h p (free n ∷ cs) r q = place-past h (p + n) cs r q ∙ ap (λ (k : ℕ). place_of (is h) k r) (add_assoc p n (bay_size cs))
place-past h p (held e ∷ cs) r q = go (is h e) q (place-past h (p + item_size e) cs r)
  where
    go : (t : Bool) → cond t (suc (count (is h) (items cs))) (count (is h) (items cs)) ≡ 0 → (count (is h) (items cs) ≡ 0 → place_of (is h) (p + item_size e) (map cell cs ++ r) ≡ place_of (is h) (p + item_size e + bay_size cs) r)
        → cond t (p + header_of e) (place_of (is h) (p + item_size e) (map cell cs ++ r)) ≡ place_of (is h) (p + (item_size e + bay_size cs)) r
    go true q f = absurd (omega arith)
    go false q f = f q ∙ ap (λ (k : ℕ). place_of (is h) k r) (add_assoc p (item_size e) (bay_size cs))

data-past : (h : ℕ) (cs : List Cell) (r : List Block) → count (is h) (items cs) ≡ 0 → data_of h (map cell cs ++ r) ≡ data_of h r
unfolding data_of
data-past h [] r q = refl
data-past h (free n ∷ cs) r q = data-past h cs r q
data-past h (held e ∷ cs) r q = go (is h e) q (data-past h cs r)
  where
    go : (t : Bool) → cond t (suc (count (is h) (items cs))) (count (is h) (items cs)) ≡ 0 → (count (is h) (items cs) ≡ 0 → data_of h (map cell cs ++ r) ≡ data_of h r) → cond t e.bytes (data_of h (map cell cs ++ r)) ≡ data_of h r
    go true q f = absurd (omega arith)
    go false q f = f q

-- ---- among the bays, the first block being at p

pub record OwnAt (h p : ℕ) (s : Bays (List Cell) Fixed) : Type 0 where
  pub own : Own h s
  pub place : place_of (is h) p (flatten s) ≡ data_at p own

-- the sum of the bay that has the handle, by whether the first bay has it
abbrev sum_in : ℕ → List Cell → Option ℕ
sum_in h b = over (λ (e : Item). bay_sum b) (get (is h) (items b))

has-sum : (h : ℕ) (b : List Cell) → has h b ≡ true → sum_in h b ≡ some (bay_sum b)
has-sum h b t = go (get (is h) (items b)) t
  where
    go : (o : Option Item) → not (is_none o) ≡ true → over (λ (e : Item). bay_sum b) o ≡ some (bay_sum b)
    go none q = absurd (false≢true q)
    go (some e) q = refl

-- found in the bay b, behind which are the blocks r
module _ (h p : ℕ) (s : Bays (List Cell) Fixed) (b : List Cell) (r : List Block) (fl : flatten s ≡ map cell b ++ r)
    (at : (f : List Cell → List Cell) → has h b ≡ true → At f s (on_lowest (has h) f s) [] b r) (sum : has h b ≡ true → own_sum items bay_sum h s ≡ bay_sum b) where
  found : (left : List Cell) (mine : Item) (right : List Cell) → b ≡ left ++ (held mine ∷ right) → is h mine ≡ true → count (is h) (items left) ≡ 0 → count (is h) (items right) ≡ 0 → has h b ≡ true → OwnAt h p s
  unfolding place_of data_of
  found left mine right e i f o t =
      let fl' : flatten s ≡ map cell left ++ (cell (held mine) ∷ (map cell right ++ r)) =
      fl ∙ ap (λ (c : List Cell). map cell c ++ r) e ∙ ap (◌++ r) (map-append cell left (held mine ∷ right)) ∙ append_assoc (map cell left) (cell (held mine) ∷ map cell right) r in
      record {
        own = record {
          before = [];
          left = left;
          mine = mine;
          right = right;
          after = r;
          its = i;
          head = is-header h mine i;
          first = f;
          only = o;
          bytes = ap (data_of h) fl' ∙ data-past h left (cell (held mine) ∷ (map cell right ++ r)) f ∙ (rw i);
          sum = sum t ∙ ap bay_sum e;
          at = λ g. subst (λ (c : List Cell). At g s (on_lowest (has h) g s) [] c r) e (at g t);
        };
        place = ap (place_of (is h) p) fl' ∙ place-past h p left (cell (held mine) ∷ (map cell right ++ r)) f ∙ (rw i (omega (arith, no-sizes)));
      }

pub own_of : (h : ℕ) (s : Bays (List Cell) Fixed) (p : ℕ) → live h s ≤ 1 → (place_of (is h) p (flatten s) ≡ 0 → ⊥) → OwnAt h p s
unfolding place_of data_of
own_of h (last b) p l ne = go (in-bay h b)
  where
    go : InBay h b → OwnAt h p (last b)
    go (gone q) = absurd (ne (place-past h p b [] q))
    go (there left mine right e i f c t) = found h p (last b) b [] refl (λ g k. at_last) (λ k. ap (λ (o : Option ℕ). get_or o 0) (has-sum h b k)) left mine right e i f (omega arith) t
own_of h (more b x s) p l ne = go (in-bay h b) (own_of h s (p + bay_size b + fsize x))
  where
    go : InBay h b → (live h s ≤ 1 → (place_of (is h) (p + bay_size b + fsize x) (flatten s) ≡ 0 → ⊥) → OwnAt h (p + bay_size b + fsize x) s) → OwnAt h p (more b x s)
    go (there left mine right e i f c t) ih =
        found h p (more b x s) b (fixed x.bytes ∷ flatten s) refl
        (λ g k. subst (λ (u : Bool). At g (more b x s) (cond u (more (g b) x s) (more b x (on_lowest (has h) g s))) [] b (fixed x.bytes ∷ flatten s)) (sym k) at_here)
        (λ k. ap (λ (o : Option ℕ). get_or (or_else o (find_s (sum_in h) s)) 0) (has-sum h b k))
        left mine right e i f (omega arith) t
    go (gone q) ih =
        let pp : place_of (is h) p (flatten (more b x s)) ≡ place_of (is h) (p + bay_size b + fsize x) (flatten s) = place-past h p b (fixed x.bytes ∷ flatten s) q in
        let w = ih (omega arith) (λ k. ne (pp ∙ k)) in
        let o = w.own in
        record {
          own = record {
            before = flat_bay b (fixed x.bytes ∷ o.before);
            left = o.left;
            mine = o.mine;
            right = o.right;
            after = o.after;
            its = o.its;
            head = o.head;
            first = o.first;
            only = o.only;
            bytes = data-past h b (fixed x.bytes ∷ flatten s) q ∙ o.bytes;
            sum = ap (λ (u : Option Item). get_or (or_else (over (λ (e : Item). bay_sum b) u) (find_s (sum_in h) s)) 0) (get_none (is h) (items b) q) ∙ o.sum;
            at = λ g. subst (λ (u : Bool). At g (more b x s) (cond u (more (g b) x s) (more b x (on_lowest (has h) g s))) (flat_bay b (fixed x.bytes ∷ o.before)) (o.left ++ (held o.mine ∷ o.right)) o.after)
                (sym (has-none h b q)) (at_later (o.at g));
          };
          place = omega (arith, pp, w.place, later-sizes b x o.before);
        }
