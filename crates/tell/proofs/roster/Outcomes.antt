-- A roster says what its definition in its own terms says.
use mathlib.Core.Path.{◌≡◌, refl, ap, sym, ◌∙◌, subst}
use mathlib.Core.Bool.{Bool, true, false, cond}
use mathlib.Core.Option.{Option, none, some}
use mathlib.Core.List.{List, [], ◌∷◌, ◌++◌}
use Prim.Native.Nat.{ℕ, zero, suc, ◌+◌, ◌*◌, ◌≤◌}
use native.Mathlib.Omega.{arith}
use lib.ListN.{length, drop, length-append, length-drop}
use lib.Seq.{drop_at}
use lib.Dec.{eqb, leb}
use borrow.Author.Tests.{eqb-true, leb-true, leb-false}
use Rattle.bigendian.specs.BigEndian.{Bytes}
use Rattle.block_type.specs.Limits.{master_size, zone_header, argument_range, record_size}
use Rattle.format.specs.WellFormed.{well_formed, zone_of, count_of, masters_field, offsets}
use Rattle.kinds.specs.Kinds.{Item, item}
use Rattle.structure.specs.IsZone.{IsZone}
use Rattle.structure.proofs.IsZone.{whole_of}
use Rattle.access.specs.Edit.{place_in, data_in}
use Rattle.calls.specs.Calls.{by_handle, Answer, size, roster, told, told_with}
use Rattle.calls.specs.Roster.{Card, card_bytes}
use Rattle.calls.proofs.Roster.{length-bytes, Small, cards-back}
use Rattle.calls.specs.State.{handles_from, master_count}
use Rattle.bay.specs.Bay.{items}
use Rattle.zone.specs.Work.{card_if, cards_of, cards}
use Rattle.zone.specs.Call.{Result, call, zone_in}
use Rattle.zone.specs.RosterSays.{Rising, rise_none, rise_more, In, in_here, in_there, Lists, Says, RosterSays}
use Rattle.zone.proofs.Once.{block_of}
use Rattle.bay.proofs.Each.{Each, each-some}
use Rattle.zone.proofs.Handles.{occurs, Found, found}
use Rattle.zone.proofs.Keep.{Whole, masters-are}
use Rattle.zone.proofs.Run.{well-whole}
use Rattle.tell.specs.roster.Listed as Listed
use Rattle.tell.specs.roster.Listed.{block_in, all_cards}
use Rattle.tell.proofs.roster.Entries.{data-small}
use Rattle.tell.proofs.roster.Order.{zone-is, all-cards, how-many}
use Rattle.tell.proofs.Outcomes.{unchanged}
use Rattle.tell.proofs.roster.Laws.{accepted, refused_too_short}

-- ---- through the masters

cards-rise : (f : ℕ → Option Item) (j k n : ℕ) → j ≤ k → Rising j (cards_of f (handles_from k n))
cards-rise f j k zero l = rise_none
cards-rise f j k (suc n) l = go (f k) (cards-rise f j (k + master_size) n (omega arith)) (cards-rise f (suc k) (k + master_size) n (omega arith))
  where
    go : (o : Option Item) → Rising j (cards_of f (handles_from (k + master_size) n)) → Rising (suc k) (cards_of f (handles_from (k + master_size) n))
        → Rising j (card_if k o ++ cards_of f (handles_from (k + master_size) n))
    go none r t = r
    go (some e) r t = rise_more l t

cards-live : (f : ℕ → Option Item) (h : ℕ) (e : Item) → f h ≡ some e → (hs : List ℕ) → 1 ≤ occurs h hs → In h (length e.bytes) (cards_of f hs)
cards-live f h e q [] o = absurd (omega arith)
cards-live f h e q (k ∷ hs) o = go (eqb h k) refl o (λ p. cards-live f h e q hs p)
  where
    later : (x : Option Item) → In h (length e.bytes) (cards_of f hs) → In h (length e.bytes) (card_if k x ++ cards_of f hs)
    later none i = i
    later (some d) i = in_there i

    go : (t : Bool) → eqb h k ≡ t → 1 ≤ cond t (suc (occurs h hs)) (occurs h hs) → (1 ≤ occurs h hs → In h (length e.bytes) (cards_of f hs))
        → In h (length e.bytes) (card_if k (f k) ++ cards_of f hs)
    go true p o r = let x : f k ≡ some e = ap f (sym (eqb-true h k p)) ∙ q in rw x (in_here (sym (eqb-true h k p)) refl)
    go false p o r = later (f k) (r o)

cards-only : (f : ℕ → Option Item) (h n : ℕ) (hs : List ℕ) → In h n (cards_of f hs) → (e : Item) × (f h ≡ some e) × (length e.bytes ≡ n)
cards-only f h n (k ∷ hs) i = go (f k) refl i (λ j. cards-only f h n hs j)
  where
    go : (o : Option Item) → f k ≡ o → In h n (card_if k o ++ cards_of f hs) → (In h n (cards_of f hs) → (e : Item) × (f h ≡ some e) × (length e.bytes ≡ n))
        → (e : Item) × (f h ≡ some e) × (length e.bytes ≡ n)
    go none q j r = r j
    go (some e) q (in_here p a) r = (e, ap f (sym p) ∙ q, a)
    go (some e) q (in_there j) r = r j
cards-only f h n [] i = elim i [ ]

cards-small : (z : List ℕ) → IsZone z → (k n : ℕ) → k + master_size * n ≤ argument_range → Small (cards_of (block_in z) (offsets k n))
unfolding offsets
cards-small z i k zero l = tt
cards-small z i k (suc n) l = go (eqb (place_in z k) 0) (cards-small z i (k + master_size) n (omega arith))
  where
    go : (t : Bool) → Small (cards_of (block_in z) (offsets (k + master_size) n)) → Small (card_if k (cond t none (some (item k (data_in z k)))) ++ cards_of (block_in z) (offsets (k + master_size) n))
    go true m = m
    go false m = (omega arith, data-small z k i, m)

-- ---- of a zone

module _ (s : List ℕ) (y : Bytes s) (w : well_formed s ≡ true) where
  abbrev find : ℕ → Option Item
  find h = block_of h (zone_in s).bays

  small : Small (cards (zone_in s))
  unfolding all_cards Listed.live_cards
  small =
      let i = zone-is s y w in
      subst Small (all-cards s y w) (cards-small (zone_of s) i zone_header (masters_field (zone_of s)) (omega (arith, (whole_of (zone_of s) i).few)))

  size-found : (h : ℕ) (e : Item) → find h ≡ some e → (call (size (by_handle h)) s).answer ≡ told 0 (length e.bytes)
  size-found h e q = rw (w, q)

  -- what is found has a master
  mastered : (h : ℕ) (e : Item) → find h ≡ some e → 1 ≤ occurs h (handles_from zone_header (master_count items (zone_in s)))
  mastered h e q =
      let z = zone_in s in
      let k : Whole z = well-whole s y w in
      rw (masters-are z k) (omega (arith, (each-some (subst (Each (Found k.m h z)) q (found k.m h z))).once-live, k.owned.owns h))

  lists : Lists s (cards (zone_in s))
  lists = record {
    rising = cards-rise find 0 zone_header (master_count items (zone_in s)) (omega arith);
    live = λ h n a. there h n a (find h) refl;
    only = λ h n i. let f = cards-only find h n (handles_from zone_header (master_count items (zone_in s))) i in size-found h f.0 f.1 ∙ ap (told 0) f.2;
  }
    where
      there : (h n : ℕ) → (call (size (by_handle h)) s).answer ≡ told 0 n → (o : Option Item) → find h ≡ o → In h n (cards (zone_in s))
      there h n a none q = absurd (omega (arith, ap (λ (x : Answer). x.number) (rw (w, q) at a)))
      there h n a (some e) q =
          subst (λ (k : ℕ). In h k (cards (zone_in s))) (ap (λ (x : Answer). x.value) (sym (size-found h e q) ∙ a))
          (cards-live find h e q (handles_from zone_header (master_count items (zone_in s))) (mastered h e q))

pub roster-says : RosterSays
roster-says zone after lent left v y p = go (well_formed zone) refl (leb (record_size * count_of zone) (length lent)) refl
  where
    q : told_with 0 v left ≡ (call (roster lent) zone).answer
    q = ap (λ (r : Result). r.answer) p

    go : (u : Bool) → well_formed zone ≡ u → (t : Bool) → leb (record_size * count_of zone) (length lent) ≡ t → Says zone after lent left v
    go true w true l =
        let cs : List Card = cards (zone_in zone) in
        let a = q ∙ accepted zone y w lent (leb-true _ _ l) in
        let vs : v ≡ length cs = ap (λ (x : Answer). x.value) a in
        let bs : left ≡ card_bytes cs ++ drop (record_size * length cs) lent = ap (λ (x : Answer). x.bytes) a in
        let fit : record_size * length cs ≤ length lent = omega (arith, leb-true (record_size * count_of zone) (length lent) l, how-many zone y w) in
        record {
          still = ap (λ (r : Result). r.bytes) p ∙ unchanged (roster lent) zone y refl;
          long = ap length bs ∙ omega (arith, fit, length-append (card_bytes cs) (drop (record_size * length cs) lent), length-bytes cs, length-drop (record_size * length cs) lent);
          room = omega (arith, fit, vs);
          lists = rw (vs, bs) (subst (Lists zone) (sym (cards-back cs (drop (record_size * length cs) lent) (small zone y w))) (lists zone y w));
          later = rw (vs, bs) (drop_at (card_bytes cs) (drop (record_size * length cs) lent) (record_size * length cs) (length-bytes cs));
        }
    go true w false l = absurd (omega (arith, ap (λ (x : Answer). x.number) (q ∙ refused_too_short zone y w lent (leb-false _ _ l))))
    go false w t l = absurd (omega (arith, ap (λ (x : Answer). x.number) (rw w at q)))
