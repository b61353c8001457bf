-- Records by rising handle: through the masters, or sorted, they are the same list.
use mathlib.Core.Path.{◌≡◌, refl, ap, ap₂, sym, ◌∙◌}
use mathlib.Core.Bool.{Bool, true, false, cond}
use mathlib.Core.Option.{Option, none, some}
use mathlib.Core.List.{List, [], ◌∷◌, ◌++◌, map, append_assoc}
use Prim.Native.Nat.{ℕ, zero, suc, ◌+◌, ◌≤◌, ◌<◌}
use native.Mathlib.Omega.{arith}
use lib.ListN.{length, length-append}
use lib.Dec.{eqb, leb}
use borrow.Author.Tests.{eqb-true, eqb-false, eq-eqb, ne_eqb, leb-true, leb-false, le-leb, lt-leb}
use Rattle.block_type.specs.Limits.{master_size, zone_header}
use Rattle.kinds.specs.Kinds.{Item, item, masters_of, is}
use Rattle.kinds.proofs.KindLaws.{Owned, own-handle, own-none, owned, is-self, is_same}
use Rattle.calls.specs.Roster.{Card}
use Rattle.calls.specs.Bays.{Bays, last, more, or_else, find_s, sum_s, concat_s}
use Rattle.calls.specs.State.{get, card, listed, Fixed, handles_from, live_count}
use Rattle.calls.specs.Counted.{count}
use Rattle.calls.proofs.Counted.{get_none}
use Rattle.ledger.specs.Ledger as Book
use Rattle.ledger.specs.Ledger.{Ledger, entries_of, sorted_by_handle}
use Rattle.ledger.proofs.Sorted.{insert}
use Rattle.ledger.proofs.Sorted.{sorted-long}
use Rattle.bay.specs.Bay.{Cell, items}
use Rattle.zone.specs.Work as Work
use Rattle.zone.specs.Work.{Zone, card_if, cards_of}
use Rattle.zone.proofs.Keep.{Whole, masters-are}
use Rattle.zone.proofs.Grouped.{single-live}
use Rattle.zone.proofs.Matches.{Matches, matches, handle-same, live_same}
use Rattle.zone.proofs.Handles.{occurs, masters, occurs-below, occurs-once}
use Rattle.zone.proofs.HowMany.{count-append}

-- ---- how many there are

length-all : {B : Type 0} (f : B → List Card) (s : Bays B Fixed) → length (concat_s f s) ≡ sum_s (λ b. length (f b)) s
length-all f (last b) = refl
length-all f (more b x s) = length-append (f b) (concat_s f s) ∙ ap (length (f b) +◌) (length-all f s)

-- ---- a record more, among those that are found through rising handles

pub cards-same : (f g : ℕ → Option Item) → ((h : ℕ) → f h ≡ g h) → (hs : List ℕ) → cards_of f hs ≡ cards_of g hs
cards-same f g e [] = refl
cards-same f g e (h ∷ hs) = ap₂ (λ (o : Option Item) (cs : List Card). card_if h o ++ cs) (e h) (cards-same f g e hs)

-- before the first handle
insert-front : (c : Card) (f : ℕ → Option Item) (k n : ℕ) → c.handle ≤ k → insert c (cards_of f (handles_from k n)) ≡ c ∷ cards_of f (handles_from k n)
insert-front c f k zero l = refl
insert-front c f k (suc n) l = go (f k) (insert-front c f (k + master_size) n (omega arith))
  where
    go : (o : Option Item) → insert c (cards_of f (handles_from (k + master_size) n)) ≡ c ∷ cards_of f (handles_from (k + master_size) n)
        → insert c (card_if k o ++ cards_of f (handles_from (k + master_size) n)) ≡ c ∷ (card_if k o ++ cards_of f (handles_from (k + master_size) n))
    go none q = q
    go (some e) q = rw (le-leb c.handle k l)

module _ (e : Item) (h : ℕ) (f : ℕ → Option Item) where
  -- f, with the block e found by h
  abbrev also : ℕ → Option Item
  also k = cond (eqb k h) (some e) (f k)

  also-above : (k n : ℕ) → h < k → cards_of also (handles_from k n) ≡ cards_of f (handles_from k n)
  also-above k zero l = refl
  also-above k (suc n) l = rw (ne_eqb k h (λ q. omega arith)) (ap (card_if k (f k) ++◌) (also-above (k + master_size) n (omega arith)))

  insert-at : f h ≡ none → (k n : ℕ) → 1 ≤ occurs h (handles_from k n) → insert (card e h) (cards_of f (handles_from k n)) ≡ cards_of also (handles_from k n)
  insert-at z k zero o = absurd (omega arith)
  insert-at z k (suc n) o = go (eqb h k) refl o (λ p. insert-at z (k + master_size) n p)
    where
      found : (o : Option Item) → k < h → insert (card e h) (cards_of f (handles_from (k + master_size) n)) ≡ cards_of also (handles_from (k + master_size) n)
          → insert (card e h) (card_if k o ++ cards_of f (handles_from (k + master_size) n)) ≡ card_if k o ++ cards_of also (handles_from (k + master_size) n)
      found none l q = q
      found (some i) l q = rw (lt-leb h k l) (ap (card i k ∷◌) q)

      above : (t : Bool) → leb (k + master_size) h ≡ t → 1 ≤ occurs h (handles_from (k + master_size) n) → k < h
      above true q o = omega (arith, leb-true (k + master_size) h q)
      above false q o = absurd (omega (arith, occurs-below h (k + master_size) n (leb-false (k + master_size) h q)))

      go : (t : Bool) → eqb h k ≡ t → 1 ≤ cond t (suc (occurs h (handles_from (k + master_size) n))) (occurs h (handles_from (k + master_size) n))
          → (1 ≤ occurs h (handles_from (k + master_size) n) → insert (card e h) (cards_of f (handles_from (k + master_size) n)) ≡ cards_of also (handles_from (k + master_size) n))
          → insert (card e h) (card_if k (f k) ++ cards_of f (handles_from (k + master_size) n)) ≡ card_if k (also k) ++ cards_of also (handles_from (k + master_size) n)
      go true q o r =
          let p : h ≡ k = eqb-true h k q in
          let none-there : f k ≡ none = ap f (sym p) ∙ z in
          rw (eq-eqb k h (sym p), none-there, also-above (k + master_size) n (omega arith))
          (insert-front (card e h) f (k + master_size) n (omega arith) ∙ ap (λ (x : ℕ). card e x ∷ cards_of f (handles_from (k + master_size) n)) p)
      go false q o r = rw (ne_eqb k h (λ p. eqb-false h k q (sym p))) (found (f k) (above (leb (k + master_size) h) refl o) (r o))

-- ---- all records

-- the blocks es, each of whose handles is a master, and once
sorted : (es : List Item) (m : ℕ) → ((h : ℕ) → count (is h) es ≤ masters m h) → cards_of (λ h. get (is h) es) (handles_from zone_header m) ≡ sorted_by_handle (listed es)
sorted [] m o = nothing (handles_from zone_header m)
  where
    nothing : (hs : List ℕ) → cards_of (λ h. none) hs ≡ []
    nothing [] = refl
    nothing (h ∷ hs) = nothing hs
sorted (e ∷ es) m o = go (owned e) o (λ q. sorted es m q)
  where
    -- a block's handle is no other's
    others : (e : Item) → ((h : ℕ) → cond (is h e) (suc (count (is h) es)) (count (is h) es) ≤ masters m h) → (h : ℕ) → count (is h) es ≤ masters m h
    others e o h = fewer (is h e) (o h)
      where
        fewer : (t : Bool) → cond t (suc (count (is h) es)) (count (is h) es) ≤ masters m h → count (is h) es ≤ masters m h
        fewer true q = omega arith
        fewer false q = q

    go : {e : Item} → Owned e → ((h : ℕ) → cond (is h e) (suc (count (is h) es)) (count (is h) es) ≤ masters m h)
        → (((h : ℕ) → count (is h) es ≤ masters m h) → cards_of (λ h. get (is h) es) (handles_from zone_header m) ≡ sorted_by_handle (listed es))
        → cards_of (λ h. cond (is h e) (some e) (get (is h) es)) (handles_from zone_header m) ≡ sorted_by_handle (map (card e) (masters_of e) ++ listed es)
    go (own-handle h d) o r =
        let e : Item = item h d in
        let once : suc (count (is h) es) ≤ masters m h = rw (is-self h d) at (o h) in
        cards-same _ _ (λ k. rw (is_same k h e (is-self h d))) (handles_from zone_header m)
        ∙ sym (insert-at e h (λ k. get (is k) es) (get_none (is h) es (omega (arith, once, occurs-once h zone_header m))) zone_header m (omega (arith, once)))
        ∙ ap (insert (card e h)) (r (others e o))
    go (own-none e p q n) o r =
        cards-same _ _ (λ h. rw (n h)) (handles_from zone_header m) ∙ r (others e o) ∙ ap (λ (hs : List ℕ). sorted_by_handle (map (card e) hs ++ listed es)) (sym p)

-- ---- in bays; `all` are a bay's blocks

module _ {B : Type 0} (all : B → List Item) where
  get-append : (h : ℕ) (a b : List Item) → get (is h) (a ++ b) ≡ or_else (get (is h) a) (get (is h) b)
  get-append h [] b = refl
  get-append h (e ∷ a) b = go (is h e) (get-append h a b)
    where
      go : (t : Bool) → get (is h) (a ++ b) ≡ or_else (get (is h) a) (get (is h) b) → cond t (some e) (get (is h) (a ++ b)) ≡ or_else (cond t (some e) (get (is h) a)) (get (is h) b)
      go true q = refl
      go false q = q

  find-flat : (h : ℕ) (s : Bays B Fixed) → find_s (λ b. get (is h) (all b)) s ≡ get (is h) (concat_s all s)
  find-flat h (last b) = refl
  find-flat h (more b x s) = ap (or_else (get (is h) (all b))) (find-flat h s) ∙ sym (get-append h (all b) (concat_s all s))

  listed-append : (a b : List Item) → listed (a ++ b) ≡ listed a ++ listed b
  listed-append [] b = refl
  listed-append (e ∷ a) b = ap (map (card e) (masters_of e) ++◌) (listed-append a b) ∙ sym (append_assoc (map (card e) (masters_of e)) (listed a) (listed b))

  listed-flat : (s : Bays B Fixed) → concat_s (λ b. listed (all b)) s ≡ listed (concat_s all s)
  listed-flat (last b) = refl
  listed-flat (more b x s) = ap (listed (all b) ++◌) (listed-flat s) ∙ sym (listed-append (all b) (concat_s all s))

  count-flat : (h : ℕ) (s : Bays B Fixed) → sum_s (λ b. count (is h) (all b)) s ≡ count (is h) (concat_s all s)
  count-flat h (last b) = refl
  count-flat h (more b x s) = ap (count (is h) (all b) +◌) (count-flat h s) ∙ sym (count-append (is h) (all b) (concat_s all s))

  -- THROUGH THE MASTERS, or sorted
  pub in_order_lem : (s : Bays B Fixed) (m : ℕ) → ((h : ℕ) → sum_s (λ b. count (is h) (all b)) s ≤ masters m h)
      → cards_of (λ h. find_s (λ b. get (is h) (all b)) s) (handles_from zone_header m) ≡ sorted_by_handle (concat_s (λ b. listed (all b)) s)
  in_order_lem s m o =
      cards-same _ _ (λ h. find-flat h s) (handles_from zone_header m)
      ∙ sorted (concat_s all s) m (λ h. omega (arith, o h, count-flat h s))
      ∙ ap sorted_by_handle (sym (listed-flat s))

-- ---- of a zone, and of the ledger that is one with it

module _ (z : Zone) (w : Whole z) where
  pub zone-sorted : Work.cards z ≡ sorted_by_handle (concat_s (λ (b : List Cell). listed (items b)) z.bays)
  zone-sorted = rw (masters-are z w) (in_order_lem items z.bays w.m (λ h. omega (arith, w.owned.owns h)))

  -- as many as there are live handles
  pub cards-long : length (Work.cards z) ≡ live_count items z
  cards-long = ap length zone-sorted ∙ sorted-long (concat_s (λ (b : List Cell). listed (items b)) z.bays) ∙ length-all (λ (b : List Cell). listed (items b)) z.bays

pub roster-same : {z : Zone} {k : Ledger} → Whole z → Matches z k → Work.cards z ≡ Book.cards k
roster-same w (matches {buf = buf} {len = len} {clock = clock} {chain = chain} {s = s} {t = t} l) =
    let z : Zone = record { buf = buf; len = len; clock = clock; chain = chain; bays = s } in
    rw (masters-are z w)
    (cards-same _ _ (handle-same l (single-live z w) w.apart.apart) (handles_from zone_header w.m)
    ∙ in_order_lem entries_of t w.m (λ h. omega (arith, live_same l h, w.owned.owns h)))
