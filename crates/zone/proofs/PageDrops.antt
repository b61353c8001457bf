-- The dropping of a create, call by call: while no bay's sum reaches the need, the next page goes by the call drop, and what the create leaves and answers
-- stays the same; or a dirty page is next.
use mathlib.Core.Path.{◌≡◌, refl, ap, ap₂, sym, ◌∙◌, subst}
use mathlib.Core.Bool.{Bool, true, false, cond, not, true≢false}
use mathlib.Core.Option.{none, some}
use mathlib.Core.List.{List, [], ◌∷◌, ◌++◌}
use Prim.Native.Nat.{ℕ, ◌-◌, ◌≤◌, ◌<◌, max}
use native.Mathlib.Omega.{arith}
use lib.Dec.{eqb, leb}
use lib.ListN.{drop, replicate}
use lib.Seq.{drop_at}
use borrow.Author.Tests.{leb-true, leb-false, eqb-true, eqb-false}
use Rattle.block_type.specs.Limits.{page_limit, page_need, argument_range}
use Rattle.format.specs.WellFormed.{masters_field, clock_field}
use Rattle.structure.specs.Structure.{len, encode}
use Rattle.kinds.specs.Kinds.{has_name}
use Rattle.calls.specs.Calls.{create_page, drop_page, on_page, told}
use Rattle.calls.specs.Bays.{max_s, concat_s}
use Rattle.calls.specs.State.{Out}
use Rattle.calls.specs.Pages.{Candidate, unlocked, in_turn, among, first_dirty, sum_without, dropping}
use Rattle.calls.specs.Table.{is_none, refusal_of}
use Rattle.calls.proofs.Order.{create-number}
use Rattle.bay.specs.Bay.{Cell, bay_sum, items}
use Rattle.zone.specs.Work.{Zone, facts, work, clear_out, make_room, page_created}
use Rattle.zone.specs.Call.{in_line, result_of, replacing, outcome, call}
use Rattle.zone.specs.Promise.{Promise}
use Rattle.zone.specs.Claim.{PageCard, pages_in, free_in}
use Rattle.zone.specs.Growth.{largest_of}
use Rattle.zone.specs.PageSays.{Meets, met, further, Age, Before, Next, Drops, enough, goes, Stops, at_dirty, goes_further, leaving}
use Rattle.zone.proofs.HowMany.{many, release-le}
use Rattle.zone.proofs.Dropping.{dropped-enough}
use Rattle.zone.proofs.Keep.{Whole, len-line}
use Rattle.zone.proofs.Grouped.{work-whole}
use Rattle.zone.proofs.Run.{Stored, length-line, call-worked}
use Rattle.zone.proofs.MetBlocks.{free_walk}
use Rattle.zone.proofs.GrowthNumber.{largest-sum}
use Rattle.zone.proofs.PageRelease.{none_dropped, room-there, none_left, sum-none, none-among, left-turn, first-dropped, first-room, first-emptied}
use Rattle.zone.proofs.PageNext.{cand_of, first_next, one-met, names-once, both}
use Rattle.zone.proofs.PageNumbers.{none-many, met-many}
use Rattle.zone.proofs.PageAsked.{met-case, drop-whole, drop-stored, drop-called, left-stay, left-pages}
use Rattle.zone.proofs.Fields.{clock-read}

-- ---- bytes written twice

tail_is : (bs : List ℕ) (z v : Zone) → Whole z → Whole v → v.len ≡ z.len → replacing bs (in_line z) (in_line v) ≡ encode (in_line v) ++ drop z.len bs
tail_is bs z v w u q =
    let a : len (in_line z) - len (in_line v) ≡ 0 = omega (arith, len-line z w, len-line v u) in
    let b : max (len (in_line z)) (len (in_line v)) ≡ z.len = omega (arith, len-line z w, len-line v u) in
    ap₂ (λ (i j : ℕ). encode (in_line v) ++ (replicate i 0 ++ drop j bs)) a b

pub twice-written : (bs : List ℕ) (z u v : Zone) → Whole z → Whole u → Whole v → u.len ≡ z.len → v.len ≡ z.len
    → replacing (replacing bs (in_line z) (in_line u)) (in_line u) (in_line v) ≡ replacing bs (in_line z) (in_line v)
twice-written bs z u v w w₁ w₂ p q =
    tail_is (replacing bs (in_line z) (in_line u)) u v w₁ w₂ (q ∙ sym p)
    ∙ ap (encode (in_line v) ++◌) (ap (drop u.len) (tail_is bs z u w w₁ p) ∙ drop_at (encode (in_line u)) (drop z.len bs) u.len (length-line u w₁))
    ∙ sym (tail_is bs z v w w₂ q)

-- ---- cards

pub meets-leaving : {x : PageCard} (k : ℕ) (l : List PageCard) → Meets x l → (x.name ≡ k → ⊥) → Meets x (leaving k l)
meets-leaving {x} k (y ∷ l) met n = go (eqb k y.name) refl
  where
    go : (t : Bool) → eqb k y.name ≡ t → Meets y (cond t (leaving k l) (y ∷ leaving k l))
    go true q = absurd (n (sym (eqb-true k y.name q)))
    go false q = met
meets-leaving {x} k (y ∷ l) (further m) n = go (eqb k y.name) (meets-leaving k l m n)
  where
    go : (t : Bool) → Meets x (leaving k l) → Meets x (cond t (leaving k l) (y ∷ leaving k l))
    go true m = m
    go false m = further m
meets-leaving {x = x} k [] x3 n = elim x3 [ ]

pub leaving-meets : {x : PageCard} (k : ℕ) (l : List PageCard) → Meets x (leaving k l) → Meets x l
leaving-meets {x} k (y ∷ l) m = go (eqb k y.name) m (λ i. leaving-meets k l i)
  where
    one : (y : PageCard) {i j : List PageCard} → Meets x (y ∷ i) → (Meets x i → Meets x j) → Meets x (y ∷ j)
    one y met f = met
    one y (further m) f = further (f m)

    go : (t : Bool) → Meets x (cond t (leaving k l) (y ∷ leaving k l)) → (Meets x (leaving k l) → Meets x l) → Meets x (y ∷ l)
    go true m f = further (f m)
    go false m f = one y m f
leaving-meets {x = x} k [] m = elim m [ ]

pub leaving-other : {x : PageCard} (k : ℕ) (l : List PageCard) → Meets x (leaving k l) → x.name ≡ k → ⊥
leaving-other {x} k (y ∷ l) m e = go (eqb k y.name) refl m (λ i. leaving-other k l i e)
  where
    go : (t : Bool) → eqb k y.name ≡ t → Meets x (cond t (leaving k l) (y ∷ leaving k l)) → (Meets x (leaving k l) → ⊥) → ⊥
    go true q m f = f m
    go false q m f = met-case ⊥ m (λ p. eqb-false k y.name q (sym e ∙ ap (λ (c : PageCard). c.name) p)) f
leaving-other {x = x} k [] m e = elim m [ ]

-- ---- a zone that can have the page, but for a dirty one

pub record Ready (n c : ℕ) (z : Zone) : Type 0 where
  pub small : leb c page_limit ≡ true
  pub absent : many (has_name n) z.bays ≡ 0
  pub emptied : leb (page_need c) (sum_without items bay_sum unlocked z.bays) ≡ true

pub record Cleared (n c : ℕ) (bs : List ℕ) (z : Zone) : Type 0 where
  pub mid : List ℕ
  pub dropped : Drops (page_need c) bs mid
  pub clean : first_dirty (dropping items bay_sum (page_need c) z) ≡ none
  pub whole : Whole (make_room (page_need c) z)
  pub stored : Stored mid (make_room (page_need c) z)
  pub same : n < argument_range → call (on_page n (create_page c)) mid ≡ call (on_page n (create_page c)) bs
  pub locked : (x : PageCard) → Meets x (pages_in bs) → x.lock ≡ true → Meets x (pages_in mid)
  pub unsaved : (x : PageCard) → Meets x (pages_in bs) → x.dirty ≡ true → Meets x (pages_in mid)
  pub fewer : (x : PageCard) → Meets x (pages_in mid) → Meets x (pages_in bs)
  pub turn : (x y : PageCard) (a b : ℕ) → Meets x (pages_in bs) → Meets y (pages_in bs) → x.lock ≡ false → y.lock ≡ false → Age (clock_field bs) x.stamp a → Age (clock_field bs) y.stamp b
      → Before a x.name b y.name → Meets x (pages_in mid) → Meets y (pages_in mid)
  pub masters : masters_field mid ≡ masters_field bs

pub data Ends (n c : ℕ) (bs : List ℕ) (z : Zone) : Type 0 where
  reaches : Cleared n c bs z → Ends n c bs z
  stops : (v : ℕ) → first_dirty (dropping items bay_sum (page_need c) z) ≡ some v → Stops (page_need c) v bs → Ends n c bs z

pub ready-number : (n c : ℕ) (z : Zone) → Ready n c z → refusal_of (on_page n (create_page c)) (facts true z) ≡ cond (is_none (first_dirty (dropping items bay_sum (page_need c) z))) 0 12
ready-number n c z r = create-number n c (facts true z) refl ∙ (rw (none-many n z r.absent, r.small, r.emptied))

module _ (n c : ℕ) (bs : List ℕ) (z : Zone) (w : Whole z) (s : Stored bs z) (r : Ready n c z) where
  pub largest-read : largest_of (free_in bs) ≡ max_s bay_sum z.bays
  largest-read = ap largest_of (free_walk bs z w s) ∙ largest-sum z.bays

  at_once : leb (page_need c) (max_s bay_sum z.bays) ≡ true → Ends n c bs z
  at_once t =
      let e : make_room (page_need c) z ≡ z = room-there (page_need c) z w.sound t in
      reaches (record {
        mid = bs;
        dropped = enough {bs = bs} (omega (arith, leb-true (page_need c) (max_s bay_sum z.bays) t, largest-read));
        clean = ap first_dirty (none_dropped (page_need c) z t);
        whole = subst Whole (sym e) w;
        stored = subst (Stored bs) (sym e) s;
        same = λ y. refl;
        locked = λ x m l. m;
        unsaved = λ x m l. m;
        fewer = λ x m. m;
        turn = λ x y a b m o i j g h k l. o;
        masters = refl;
      })

  -- nobody is left to go: the sum is there
  pub all_done : in_turn z.clock (concat_s items z.bays) ≡ [] → leb (page_need c) (max_s bay_sum z.bays) ≡ true
  all_done q =
      ap (leb (page_need c)) (sym (sum-none (among []) none-among z.bays) ∙ ap (λ (xs : List Candidate). sum_without items bay_sum (among xs) z.bays) (sym (none_left (page_need c) z q)))
      ∙ dropped-enough (page_need c) z w.apart.apart (ap not r.emptied)

  -- ---- the page p goes next

  module _ (p : PageCard) (xs : List Candidate) (next : Next bs p) (q : in_turn z.clock (concat_s items z.bays) ≡ cand_of z.clock p ∷ xs) where
    here : 1 ≤ many (has_name p.name) z.bays
    here = met-many bs z w s next.there

    abbrev pub without : Zone
    without = clear_out (has_name p.name) z

    abbrev pub then : List ℕ
    then = replacing bs (in_line z) (in_line without)

    pub then-whole : Whole without
    then-whole = drop-whole bs z w s p.name here

    pub then-stored : Stored then without
    then-stored = drop-stored bs z w s p.name here

    pub then-called : Promise (on_page p.name drop_page) bs (told 0 0) then
    then-called = sym (drop-called bs z w s p.name here)

    pub then_ready : Ready n c without
    then_ready = record {
      small = r.small;
      absent = omega (arith, release-le (has_name n) (has_name p.name) z.bays, r.absent);
      emptied = ap (leb (page_need c)) (first-emptied (page_need c) z w.apart.apart (cand_of z.clock p) xs q) ∙ r.emptied;
    }

    pub then-turn : in_turn without.clock (concat_s items without.bays) ≡ xs
    then-turn = left-turn (page_need c) z w.apart.apart (cand_of z.clock p) xs q

    -- another one
    then-other : (x : PageCard) → Meets x (pages_in bs) → (x ≡ p → ⊥) → Meets x (pages_in then)
    then-other x m f = rw (left-pages bs z w s p.name here then then-stored) (meets-leaving p.name (pages_in bs) m (λ e. f (one-met m next.there e (names-once bs z w s x.name))))

    then-locked : (x : PageCard) → Meets x (pages_in bs) → x.lock ≡ true → Meets x (pages_in then)
    then-locked x m l = then-other x m (λ e. true≢false (sym l ∙ ap (λ (y : PageCard). y.lock) e ∙ next.loose))

    then-unsaved : p.dirty ≡ false → (x : PageCard) → Meets x (pages_in bs) → x.dirty ≡ true → Meets x (pages_in then)
    then-unsaved d x m l = then-other x m (λ e. true≢false (sym l ∙ ap (λ (y : PageCard). y.dirty) e ∙ d))

    then-clock : clock_field then ≡ clock_field bs
    then-clock = clock-read then without then-whole then-stored ∙ sym (clock-read bs z w s)

    -- where one stays, so does another behind it
    then-turned : (x y : PageCard) (a b : ℕ) → Meets x (pages_in bs) → Meets y (pages_in bs) → x.lock ≡ false → y.lock ≡ false → Age (clock_field bs) x.stamp a → Age (clock_field bs) y.stamp b
        → Before a x.name b y.name → Meets x (pages_in then) → Meets y (pages_in then)
    then-turned x y a b m o i j g h t u =
        then-other y o
        (λ e.
        let k : Age (clock_field bs) p.stamp b = subst (λ (c : PageCard). Age (clock_field bs) c.stamp b) e h in
        let l : Before a x.name b p.name = subst (λ (c : PageCard). Before a x.name b c.name) e t in
        leaving-other p.name (pages_in bs) (rw (left-pages bs z w s p.name here then then-stored) at u) (both l (next.before x b a m i k g)))

    then-fewer : (x : PageCard) → Meets x (pages_in then) → Meets x (pages_in bs)
    then-fewer x m = leaving-meets p.name (pages_in bs) (rw (left-pages bs z w s p.name here then then-stored) at m)

    module _ (short : leb (page_need c) (max_s bay_sum z.bays) ≡ false) where
      lacks : largest_of (free_in bs) < page_need c
      lacks = omega (arith, leb-false (page_need c) (max_s bay_sum z.bays) short, largest-read)

      pub then-dirty : first_dirty (dropping items bay_sum (page_need c) z) ≡ cond p.dirty (some p.name) (first_dirty (dropping items bay_sum (page_need c) without))
      then-dirty = ap first_dirty (first-dropped (page_need c) z w.apart.apart (cand_of z.clock p) xs q short)

      then-room : make_room (page_need c) z ≡ make_room (page_need c) without
      then-room = first-room (page_need c) z w.apart.apart (cand_of z.clock p) xs q short

      -- the create on what is left is the same
      pub then_same : p.dirty ≡ false → first_dirty (dropping items bay_sum (page_need c) without) ≡ none → n < argument_range → call (on_page n (create_page c)) then ≡ call (on_page n (create_page c)) bs
      then_same d k y =
          let a : refusal_of (on_page n (create_page c)) (facts true z) ≡ 0 = ready-number n c z r ∙ (rw (then-dirty, d, k)) in
          let b : refusal_of (on_page n (create_page c)) (facts true without) ≡ 0 = ready-number n c without then_ready ∙ (rw k) in
          let o : Out (List Cell) = work (on_page n (create_page c)) without in
          let v : Whole o.next = work-whole (on_page n (create_page c)) without y then-whole b in
          call-worked then without then-whole then-stored (on_page n (create_page c)) b
          ∙ ap (result_of o.answer) (twice-written bs z without o.next w then-whole v refl refl)
          ∙ ap (λ (u : Zone). outcome bs (in_line z) (page_created n c u)) (sym then-room)
          ∙ sym (call-worked bs z w s (on_page n (create_page c)) a)

      at-page : (d : Bool) → p.dirty ≡ d → Ends n c then without → Ends n c bs z
      at-page true d k = stops p.name (then-dirty ∙ (rw d)) (at_dirty lacks next d refl)
      at-page false d (stops v e t) = stops v (then-dirty ∙ (rw d) ∙ e) (goes_further lacks next d then-called t)
      at-page false d (reaches k) = reaches (record {
        mid = k.mid;
        dropped = goes lacks next d then-called k.dropped;
        clean = then-dirty ∙ (rw d) ∙ k.clean;
        whole = subst Whole (sym then-room) k.whole;
        stored = subst (Stored k.mid) (sym then-room) k.stored;
        same = λ y. k.same y ∙ then_same d k.clean y;
        locked = λ x m l. k.locked x (then-locked x m l) l;
        unsaved = λ x m l. k.unsaved x (then-unsaved d x m l) l;
        fewer = λ x m. then-fewer x (k.fewer x m);
        turn = λ x y a b m o i j g h t l.
            let u : Meets x (pages_in then) = k.fewer x l in
            k.turn x y a b u (then-turned x y a b m o i j g h t u) i j (rw then-clock g) (rw then-clock h) t l;
        masters = k.masters ∙ (left-stay bs z w s p.name here then then-stored).masters;
      })

    pub at_next : Ends n c then without → Ends n c bs z
    at_next k = go (leb (page_need c) (max_s bay_sum z.bays)) refl
      where
        go : (t : Bool) → leb (page_need c) (max_s bay_sum z.bays) ≡ t → Ends n c bs z
        go true t = at_once t
        go false t = at-page t p.dirty refl k

-- from any zone: by those whose turn comes
pub ends : (n c : ℕ) (ts : List Candidate) (bs : List ℕ) (z : Zone) → Whole z → Stored bs z → Ready n c z → in_turn z.clock (concat_s items z.bays) ≡ ts → Ends n c bs z
ends n c [] bs z w s r q = at_once n c bs z w s r (all_done n c bs z w s r q)
ends n c (x ∷ xs) bs z w s r q =
    let f = first_next bs z w s x xs q in
    let p : PageCard = f.card in
    let k : in_turn z.clock (concat_s items z.bays) ≡ cand_of z.clock p ∷ xs = q ∙ ap (◌∷ xs) f.is in
    at_next n c bs z w s r p xs f.next k
    (ends n c xs (then n c bs z w s r p xs f.next k) (without n c bs z w s r p xs f.next k) (then-whole n c bs z w s r p xs f.next k) (then-stored n c bs z w s r p xs f.next k) (then_ready n c bs z w s r p xs f.next k) (then-turn n c bs z w s r p xs f.next k))
