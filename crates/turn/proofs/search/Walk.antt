-- One walk over all blocks: what it has seen and what is left are the bays' sums, the limits next to the walk's, and the least rank of a dirty page.
use Rattle.std.proofs.Common.{◌≡◌, ℕ, ◌+◌, ◌<◌, ◌≤◌, min, max, Bool, true, false, cond, not, ◌&&◌, ltb, List, [], ◌∷◌, length, drop, Option, Some, None, sym, refl, ap, ◌∙◌, ap₂, arith, ltb-false, ltb-true, le-ltb, lt-ltb}
use borrow.Author.Tests.{eqb-false}
use Rattle.block_type.specs.Limits.{free_code, fixed_code}
use Rattle.format.specs.WellFormed.{type_of}
use Rattle.kinds.specs.Kinds.{Key, of_handle, of_name, Item, item_size}
use Rattle.kinds.proofs.KindLaws.{facts, not_free}
use Rattle.calls.specs.Bays.{Bays, last, more, concat_s}
use Rattle.calls.specs.State.{Fixed}
use Rattle.calls.specs.Pages.{freed}
use Rattle.bay.specs.Bay.{Cell, free, held, cell_size, items, bay_sum}
use Rattle.structure.specs.Structure.{Block, cell, fixed, size, code}
use Rattle.zone.specs.Group.{in_front, group, flatten}
use Rattle.zone.proofs.GroupLaws.{flatten-group}
use Rattle.access.specs.row.Row.{blocks_of, block_at, Stepped}
use Rattle.access.proofs.row.Laws.{row-end}
use Rattle.bays.specs.Places.{bays_at}
use Rattle.turn.specs.Rank.{rank_range, limit_range, rank, key_below, goes, key_loose_rank, loose_rank, dirty_rank_b, ranked_b, rank_found, least_dirty}
use Rattle.turn.specs.declared.rank.Ranked.{Ranked}
use Rattle.turn.proofs.rank.Page.{loose_in, loose-is, dirty_in, dirty-is}
use Rattle.turn.specs.Walk.{part, best_past, sum_past, under_past, over_past, unders, overs, Past}
use Rattle.turn.specs.Limit.{sum_below, Weighed}
use Rattle.turn.proofs.Dirty.{least-most}
use Rattle.turn.proofs.Law.{without_more}

-- ---- the sums

-- where the walk ends, from what it has seen and the blocks that are left
abbrev pub ends : ℕ → ℕ → ℕ → ℕ → List Block → ℕ
ends ck t best sum [] = max best sum
ends ck t best sum (b ∷ bs) = ends ck t (best_past b best sum) (sum_past ck t b sum) bs

module _ (ck t : ℕ) where
  -- a bay's sum, were the pages gone
  abbrev own : List Cell → ℕ
  own b = bay_sum b + freed (goes ck t) (items b)

  -- the largest, where the first bay has `sum` more
  abbrev ahead : ℕ → Bays (List Cell) Fixed → ℕ
  ahead sum (last b) = sum + own b
  ahead sum (more b x s) = max (sum + own b) (sum_below ck t s)

  own-front : (c : Cell) (b : List Cell) → own (c ∷ b) ≡ part ck t c + own b
  own-front (free n) b = omega arith
  own-front (held e) b = go (goes ck t e)
    where
      go : (u : Bool) → bay_sum b + cond u (item_size e + freed (goes ck t) (items b)) (freed (goes ck t) (items b)) ≡ cond u (item_size e) 0 + (bay_sum b + freed (goes ck t) (items b))
      go true = omega arith
      go false = omega arith

  ahead-front : (sum : ℕ) (c : Cell) (s : Bays (List Cell) Fixed) → ahead (sum + part ck t c) s ≡ ahead sum (in_front c s)
  ahead-front sum c (last b) = omega (arith, own-front c b)
  ahead-front sum c (more b x s) = omega (arith, own-front c b)

  ahead_none : (s : Bays (List Cell) Fixed) → ahead 0 s ≡ sum_below ck t s
  ahead_none (last b) = omega arith
  ahead_none (more b x s) = omega arith

  ends_is : (best sum p : ℕ) (bs : List Block) → ends ck t best sum bs ≡ max best (ahead sum (group p bs))
  ends_is best sum p [] = omega arith
  ends_is best sum p (cell c ∷ bs) = ends_is best (sum + part ck t c) (p + cell_size c) bs ∙ ap (max best) (ahead-front sum c (group (p + cell_size c) bs))
  ends_is best sum p (fixed d ∷ bs) =
      let q = p + size (fixed d) in
      omega (arith, ends_is (max best sum) 0 q bs, ahead_none (group q bs))

  all-is : (z : List ℕ) (first : ℕ) → ends ck t 0 0 (blocks_of (drop first z)) ≡ sum_below ck t (bays_at z first)
  all-is z first = omega (arith, ends_is 0 0 first (blocks_of (drop first z)), ahead_none (bays_at z first))

-- ---- the limits next to t

-- a page goes where its rank is below the limit
goes-loose : (ck t : ℕ) → t ≤ rank_range → (e : Item) → goes ck t e ≡ ltb (loose_rank ck e) t
goes-loose ck t m e = go e.key
  where
    go : (k : Key) → key_below ck t k ≡ ltb (key_loose_rank ck k) t
    go (of_handle h) = sym (le-ltb rank_range t m)
    go (of_name n s) = by s.lock
      where
        by : (l : Bool) → not l && ltb (rank ck n s) t ≡ ltb (cond l rank_range (rank ck n s)) t
        by true = sym (le-ltb rank_range t m)
        by false = refl

module _ (ck t : ℕ) where
  under-from : (under : ℕ) (bs : List Block) → under ≤ unders ck t under bs
  under-from under [] = omega arith
  under-from under (b ∷ bs) = omega (arith, step b, under-from (under_past ck t b under) bs)
    where
      step : (b : Block) → under ≤ under_past ck t b under
      step (cell (free n)) = omega arith
      step (cell (held e)) = omega arith
      step (fixed d) = omega arith

  pub over-most : (over : ℕ) (b : Block) → over_past ck t b over ≤ over
  over-most over (cell (free n)) = omega arith
  over-most over (cell (held e)) = omega arith
  over-most over (fixed d) = omega arith

  over-to : (over : ℕ) (bs : List Block) → overs ck t over bs ≤ over
  over-to over [] = omega arith
  over-to over (b ∷ bs) = omega (arith, over-most over b, over-to (over_past ck t b over) bs)

  under-most : (under : ℕ) (bs : List Block) → under ≤ t → unders ck t under bs ≤ t
  under-most under [] l = l
  under-most under (b ∷ bs) l = under-most (under_past ck t b under) bs (step b)
    where
      by : (r : ℕ) (u : Bool) → ltb r t ≡ u → max under (cond u (r + 1) 0) ≤ t
      by r true q = omega (arith, ltb-true r t q)
      by r false q = omega arith

      step : (b : Block) → under_past ck t b under ≤ t
      step (cell (free n)) = l
      step (cell (held e)) = by (loose_rank ck e) (ltb (loose_rank ck e) t) refl
      step (fixed d) = l

  over-past : t ≤ rank_range → (over : ℕ) (bs : List Block) → t < over → t < overs ck t over bs
  over-past m over [] l = l
  over-past m over (b ∷ bs) l = over-past m (over_past ck t b over) bs (step b)
    where
      by : (r : ℕ) (u : Bool) → ltb r t ≡ u → t < min over (cond u limit_range (r + 1))
      by r true q = omega arith
      by r false q = omega (arith, ltb-false r t q)

      step : (b : Block) → t < over_past ck t b over
      step (cell (free n)) = l
      step (cell (held e)) = by (loose_rank ck e) (ltb (loose_rank ck e) t) refl
      step (fixed d) = l

  -- with a limit between them the same pages go
  snapped : (v best sum under over : ℕ) (bs : List Block) → t ≤ rank_range → v ≤ rank_range → unders ck t under bs ≤ v → v < overs ck t over bs
      → ends ck v best sum bs ≡ ends ck t best sum bs
  snapped v best sum under over [] m l p q = refl
  snapped v best sum under over (cell (free n) ∷ bs) m l p q = snapped v best (sum + n) under over bs m l p q
  snapped v best sum under over (fixed d ∷ bs) m l p q = snapped v (max best sum) 0 under over bs m l p q
  snapped v best sum under over (cell (held e) ∷ bs) m l p q =
      ap (λ (f : Bool). ends ck v best (sum + cond f (item_size e) 0) bs) (goes-loose ck v l e ∙ tests ∙ sym (goes-loose ck t m e))
      ∙ snapped v best (sum + part ck t (held e)) (under_past ck t (cell (held e)) under) (over_past ck t (cell (held e)) over) bs m l p q
    where
      by : (r : ℕ) (u : Bool) → ltb r t ≡ u → max under (cond u (r + 1) 0) ≤ v → v < min over (cond u limit_range (r + 1)) → ltb r v ≡ u
      by r true e a b = lt-ltb r v (omega arith)
      by r false e a b = le-ltb r v (omega arith)

      tests : ltb (loose_rank ck e) v ≡ ltb (loose_rank ck e) t
      tests =
          by (loose_rank ck e) (ltb (loose_rank ck e) t) refl (omega (arith, p, under-from (under_past ck t (cell (held e)) under) bs)) (omega (arith, q, over-to (over_past ck t (cell (held e)) over) bs))

  -- ---- the walk: what it has seen and the blocks cs that are left make up what all blocks bs tell

  pub record Walked (bs cs : List Block) (best sum under over : ℕ) : Type 0 where
    pub ends-are : ends ck t best sum cs ≡ ends ck t 0 0 bs
    pub unders-are : unders ck t under cs ≡ unders ck t 0 bs
    pub overs-are : overs ck t over cs ≡ overs ck t limit_range bs

  pub walk_start : (bs : List Block) → Walked bs bs 0 0 0 limit_range
  walk_start bs = record { ends-are = refl; unders-are = refl; overs-are = refl }

  pub walk-next : (z : List ℕ) (bs : List Block) (at n best sum under over best' sum' under' over' : ℕ) → Stepped z at n
      → Past ck t (block_at z at) n best sum under over best' sum' under' over' → Walked bs (blocks_of (drop at z)) best sum under over
      → Walked bs (blocks_of (drop (at + n) z)) best' sum' under' over'
  walk-next z bs at n best sum under over best' sum' under' over' st p w =
      let cs = blocks_of (drop (at + n) z) in
      record {
        ends-are = ap₂ (λ a b. ends ck t a b cs) p.best_is p.sum_is ∙ ap (ends ck t best sum) (sym st.blocks) ∙ w.ends-are;
        unders-are = ap (λ a. unders ck t a cs) p.under_is ∙ ap (unders ck t under) (sym st.blocks) ∙ w.unders-are;
        overs-are = ap (λ a. overs ck t a cs) p.over_is ∙ ap (overs ck t over) (sym st.blocks) ∙ w.overs-are;
      }

  pub walk-done : (z : List ℕ) (first at best sum under over r : ℕ) → t ≤ rank_range → length z ≤ at → r ≡ max best sum
      → Walked (blocks_of (drop first z)) (blocks_of (drop at z)) best sum under over → Weighed ck t (bays_at z first) r under over
  walk-done z first at best sum under over r m l er w =
      record { sum_is = er ∙ ap (ends ck t best sum) (sym none) ∙ w.ends-are ∙ all-is ck t z first; under_is = under_all; over_is = over-all; same = at_limit under low (omega (arith, low-to, high-past)); to = low-to; next = below; past = high-past }
    where
      bs : List Block
      bs = blocks_of (drop first z)

      none : blocks_of (drop at z) ≡ []
      none = row-end z at l

      flat : flatten (bays_at z first) ≡ bs
      flat = flatten-group first bs

      under_all : under ≡ unders ck t 0 (flatten (bays_at z first))
      under_all = ap (unders ck t under) (sym none) ∙ w.unders-are ∙ ap (unders ck t 0) (sym flat)

      over-all : over ≡ overs ck t limit_range (flatten (bays_at z first))
      over-all = ap (overs ck t over) (sym none) ∙ w.overs-are ∙ ap (overs ck t limit_range) (sym flat)

      low : unders ck t 0 bs ≤ under
      low = omega (arith, sym w.unders-are ∙ ap (unders ck t under) none)

      high : over ≤ overs ck t limit_range bs
      high = omega (arith, sym w.overs-are ∙ ap (overs ck t over) none)

      low-to : under ≤ t
      low-to = omega (arith, sym w.unders-are ∙ ap (unders ck t under) none, under-most 0 bs (omega arith))

      high-past : t < over
      high-past = omega (arith, sym w.overs-are ∙ ap (overs ck t over) none, over-past m limit_range bs (omega arith))

      at_limit : (v : ℕ) → unders ck t 0 bs ≤ v → v < over → sum_below ck v (bays_at z first) ≡ sum_below ck t (bays_at z first)
      at_limit v p q =
          sym (all-is ck v z first) ∙ snapped v 0 0 0 limit_range bs m (omega (arith, q, high, over-to limit_range bs)) p (omega (arith, q, high)) ∙ all-is ck t z first

      below : (v : ℕ) → v < over → sum_below ck v (bays_at z first) ≤ sum_below ck t (bays_at z first)
      below v q = go (ltb v t) refl
        where
          go : (b : Bool) → ltb v t ≡ b → sum_below ck v (bays_at z first) ≤ sum_below ck t (bays_at z first)
          go true e = without_more items bay_sum ck v t (omega (arith, ltb-true v t e)) (bays_at z first)
          go false e = omega (arith, at_limit v (omega (arith, low, low-to, ltb-false v t e)) q)

  -- ---- one block

  module _ (z : List ℕ) (at n k best sum under over : ℕ) (st : Stepped z at n) (ek : k ≡ type_of (drop at z)) where
    pub past-fixed : (r : ℕ) → k ≡ fixed_code → r ≡ max best sum → Past ck t (block_at z at) n best sum under over r 0 under over
    past-fixed r e er = go (block_at z at) (st.kind ∙ sym ek ∙ e)
      where
        go : (b : Block) → code b ≡ fixed_code → Past ck t b n best sum under over r 0 under over
        go (cell (free m)) q = absurd (omega arith)
        go (cell (held i)) q = absurd ((facts i).movable q)
        go (fixed d) q = record { best_is = er; sum_is = refl; small = omega arith; under_is = refl; over_is = refl }

    pub past-free : k ≡ free_code → Past ck t (block_at z at) n best sum under over best (sum + n) under over
    past-free e = go (block_at z at) (st.kind ∙ sym ek ∙ e) st.bytes
      where
        go : (b : Block) → code b ≡ free_code → size b ≡ n → Past ck t b n best sum under over best (sum + n) under over
        go (cell (free m)) q l = record { best_is = refl; sum_is = omega arith; small = omega arith; under_is = refl; over_is = refl }
        go (cell (held i)) q l = absurd (eqb-false _ free_code (not_free i) q)
        go (fixed d) q l = absurd (omega arith)

    module _ (nx : k ≡ fixed_code → ⊥) (nf : k ≡ free_code → ⊥) (m : t ≤ rank_range) (o : Option Ranked) (eo : o ≡ ranked_b ck (block_at z at)) where
      past-held : (sum' under' over' : ℕ) → sum' ≡ sum + cond (ltb (loose_in o) t) n 0 → sum' ≤ sum + n → under' ≡ max under (cond (ltb (loose_in o) t) (loose_in o + 1) 0)
          → over' ≡ min over (cond (ltb (loose_in o) t) limit_range (loose_in o + 1)) → Past ck t (block_at z at) n best sum under over best sum' under' over'
      past-held sum' under' over' es ls eu ev = go (block_at z at) (ek ∙ sym st.kind) st.bytes eo
        where
          go : (b : Block) → k ≡ code b → size b ≡ n → o ≡ ranked_b ck b → Past ck t b n best sum under over best sum' under' over'
          go (cell (free m)) q y l = absurd (nf q)
          go (fixed d) q y l = absurd (nx q)
          go (cell (held i)) q y l =
              let r : loose_in o ≡ loose_rank ck i = ap loose_in l ∙ loose-is ck i in
              record {
                best_is = refl;
                sum_is = es ∙ ap (sum +◌) (ap₂ (λ (h : ℕ) (e : ℕ). cond (ltb h t) e 0) r (sym y) ∙ ap (λ (f : Bool). cond f (item_size i) 0) (sym (goes-loose ck t m i)));
                small = ls;
                under_is = eu ∙ ap (max under) (ap (λ (h : ℕ). cond (ltb h t) (h + 1) 0) r);
                over_is = ev ∙ ap (min over) (ap (λ (h : ℕ). cond (ltb h t) limit_range (h + 1)) r);
              }

      -- where it does not go, whether it has a rank or not
      past-kept : (over' : ℕ) → t ≤ loose_in o → over' ≡ min over (loose_in o + 1) → Past ck t (block_at z at) n best sum under over best sum under over'
      past-kept over' l ev =
          let f = le-ltb (loose_in o) t l in
          past-held sum under over' (rw f (omega arith)) (omega arith) (rw f (omega arith)) (rw f ev)

      pub past-none : o ≡ None → over ≤ limit_range → Past ck t (block_at z at) n best sum under over best sum under over
      past-none q l = let e : loose_in o ≡ rank_range = ap loose_in q in past-kept over (omega arith) (omega (arith, e))

      module _ (r : Ranked) (q : o ≡ Some r) where
        pub past-stays : (over' : ℕ) → t ≤ r.rank → over' ≡ min over (r.rank + 1) → Past ck t (block_at z at) n best sum under over best sum under over'
        past-stays over' l ev = let e : loose_in o ≡ r.rank = ap loose_in q in past-kept over' (omega (arith, e)) (omega (arith, e))

        pub past-goes : (under' : ℕ) → r.rank < t → over ≤ limit_range → under' ≡ max under (r.rank + 1) → Past ck t (block_at z at) n best sum under over best (sum + n) under' over
        past-goes under' l h eu =
            let e : loose_in o ≡ r.rank = ap loose_in q in
            let f = lt-ltb (loose_in o) t (omega (arith, e)) in
            past-held (sum + n) under' over (rw f refl) (omega arith) (rw f (omega (arith, e))) (rw f (omega arith))

-- ---- the least rank of a dirty page

abbrev pub least_in : ℕ → List Block → ℕ
least_in ck [] = rank_range
least_in ck (b ∷ bs) = min (dirty_rank_b ck b) (least_in ck bs)

module _ (ck : ℕ) where
  front-free : (n : ℕ) (s : Bays (List Cell) Fixed) → concat_s items (in_front (free n) s) ≡ concat_s items s
  front-free n (last b) = refl
  front-free n (more b x s) = refl

  front-held : (e : Item) (s : Bays (List Cell) Fixed) → concat_s items (in_front (held e) s) ≡ e ∷ concat_s items s
  front-held e (last b) = refl
  front-held e (more b x s) = refl

  least-is : (p : ℕ) (bs : List Block) → least_in ck bs ≡ least_dirty ck (concat_s items (group p bs))
  least-is p [] = refl
  least-is p (cell (free n) ∷ bs) =
      rw (front-free n (group (p + n) bs)) (omega (arith, least-is (p + n) bs, least-most ck (concat_s items (group (p + n) bs))))
  least-is p (cell (held e) ∷ bs) = rw (front-held e (group (p + item_size e) bs), least-is (p + item_size e) bs)
  least-is p (fixed d ∷ bs) = let q = p + size (fixed d) in omega (arith, least-is q bs, least-most ck (concat_s items (group q bs)))

  pub dirty-start : (z : List ℕ) (first : ℕ) → min rank_range (least_in ck (blocks_of (drop first z))) ≡ least_dirty ck (concat_s items (bays_at z first))
  dirty-start z first = omega (arith, least-is first (blocks_of (drop first z)), least-most ck (concat_s items (bays_at z first)))

  -- one block more, of which rank_at says o; l is the least rank before it
  module _ (z : List ℕ) (at n : ℕ) (st : Stepped z at n) (o : Option Ranked) (eo : o ≡ ranked_b ck (block_at z at)) (w : ℕ) (l : Option ℕ)
      (inv : min (rank_found l) (least_in ck (blocks_of (drop at z))) ≡ w) where
    dirty-next : (m : ℕ) → m ≡ min (rank_found l) (dirty_in o) → min m (least_in ck (blocks_of (drop (at + n) z))) ≡ w
    dirty-next m e = omega (arith, ap (least_in ck) st.blocks, ap dirty_in eo, dirty-is ck (block_at z at), inv)

    pub dirty-none : o ≡ None → rank_found l ≤ rank_range → min (rank_found l) (least_in ck (blocks_of (drop (at + n) z))) ≡ w
    dirty-none q m = dirty-next (rank_found l) (omega (arith, ap dirty_in q))

    module _ (p : Ranked) (q : o ≡ Some p) where
      pub dirty-clean : p.dirty ≡ false → rank_found l ≤ rank_range → min (rank_found l) (least_in ck (blocks_of (drop (at + n) z))) ≡ w
      dirty-clean d m = let e : dirty_in o ≡ rank_range = ap dirty_in q ∙ ap (λ (f : Bool). cond f p.rank rank_range) d in dirty-next (rank_found l) (omega (arith, e))

      module _ (d : p.dirty ≡ true) where
        rank-of : dirty_in o ≡ p.rank
        rank-of = ap dirty_in q ∙ ap (λ (f : Bool). cond f p.rank rank_range) d

        pub dirty-first : l ≡ None → p.rank < rank_range → min p.rank (least_in ck (blocks_of (drop (at + n) z))) ≡ w
        dirty-first y m = dirty-next p.rank (omega (arith, rank-of, ap rank_found y))

        module _ (r : ℕ) (y : l ≡ Some r) where
          pub dirty-keeps : r ≤ p.rank → min r (least_in ck (blocks_of (drop (at + n) z))) ≡ w
          dirty-keeps m = dirty-next r (omega (arith, rank-of, ap rank_found y))

          pub dirty-less : p.rank < r → min p.rank (least_in ck (blocks_of (drop (at + n) z))) ≡ w
          dirty-less m = dirty-next p.rank (omega (arith, rank-of, ap rank_found y))

  pub dirty-done : (z : List ℕ) (at least w : ℕ) → length z ≤ at → least ≤ rank_range → min least (least_in ck (blocks_of (drop at z))) ≡ w → least ≡ w
  dirty-done z at least w l m inv = omega (arith, ap (least_in ck) (row-end z at l), inv)
