-- Who goes next is one page; so where the dropping is said to stop at a dirty page, the create is refused with 12 and that page's name, and where it is
-- said to end, the create is accepted.
use mathlib.Core.Path.{◌≡◌, refl, ap, sym, ◌∙◌, subst}
use mathlib.Core.Bool.{Bool, false, cond, true≢false}
use mathlib.Core.Option.{none, some}
use mathlib.Core.List.{List, [], ◌∷◌}
use Prim.Native.Nat.{ℕ, ◌+◌, ◌-◌, ◌%◌, ◌<◌}
use native.Mathlib.Omega.{arith}
use lib.Dec.{leb}
use borrow.Author.Tests.{le-leb, lt-leb}
use Rattle.block_type.specs.Limits.{stamp_range, page_need, argument_range}
use Rattle.format.specs.WellFormed.{clock_field}
use Rattle.calls.specs.Calls.{create_page, drop_page, on_page, told}
use Rattle.calls.specs.Bays.{max_s, concat_s}
use Rattle.calls.specs.Pages.{Candidate, in_turn, first_dirty, dropping}
use Rattle.bay.specs.Bay.{bay_sum, items}
use Rattle.zone.specs.Work.{Zone}
use Rattle.zone.specs.Call.{Result, call}
use Rattle.zone.specs.Promise.{Promise}
use Rattle.zone.specs.Claim.{PageCard, free_in}
use Rattle.zone.specs.Growth.{largest_of}
use Rattle.zone.specs.PageSays.{Age, Next, Drops, enough, goes, Stops, at_dirty, goes_further}
use Rattle.zone.proofs.Keep.{Whole}
use Rattle.zone.proofs.Run.{Stored}
use Rattle.zone.proofs.Fields.{clock-read}
use Rattle.zone.proofs.PageRelease.{none_dropped}
use Rattle.zone.proofs.PageNext.{cand_of, first_next, one-met, names-once, stamp-small, both}
use Rattle.zone.proofs.PageDrops.{Ready, largest-read, all_done, without, then, then-whole, then-stored, then-called, then_ready, then-dirty, then_same}

-- an age there is
aged : (ck stamp : ℕ) → ck < stamp_range → stamp < stamp_range → Age ck stamp ((ck + stamp_range - stamp) % stamp_range)
aged ck stamp l m = (omega arith, omega arith)

module _ (bs : List ℕ) (z : Zone) (w : Whole z) (s : Stored bs z) where
  pub one-next : {x y : PageCard} → Next bs x → Next bs y → x ≡ y
  one-next {x} {y} p q =
      let c : clock_field bs < stamp_range = omega (arith, clock-read bs z w s, w.ticks.byte) in
      let a = aged (clock_field bs) x.stamp c (stamp-small _ p.there) in
      let b = aged (clock_field bs) y.stamp c (stamp-small _ q.there) in
      one-met p.there q.there (both (p.before y _ _ q.there q.loose a b) (q.before x _ _ p.there p.loose b a)) (names-once bs z w s x.name)

-- a page that is next, while no sum reaches the need: it is the first candidate's
module _ (n c : ℕ) (bs : List ℕ) (z : Zone) (w : Whole z) (s : Stored bs z) (r : Ready n c z) (x : PageCard) (next : Next bs x) (l : largest_of (free_in bs) < page_need c) where
  pub short : leb (page_need c) (max_s bay_sum z.bays) ≡ false
  short = lt-leb (page_need c) (max_s bay_sum z.bays) (omega (arith, l, largest-read n c bs z w s r))

  pub its-turn : (xs : List Candidate) × (in_turn z.clock (concat_s items z.bays) ≡ cand_of z.clock x ∷ xs)
  its-turn = go (in_turn z.clock (concat_s items z.bays)) refl
    where
      go : (ts : List Candidate) → in_turn z.clock (concat_s items z.bays) ≡ ts → (xs : List Candidate) × (in_turn z.clock (concat_s items z.bays) ≡ cand_of z.clock x ∷ xs)
      go [] q = absurd (true≢false (sym (all_done n c bs z w s r q) ∙ short))
      go (t ∷ ts) q = let h = first_next bs z w s t ts q in (ts, q ∙ ap (◌∷ ts) (h.is ∙ ap (cand_of z.clock) (one-next bs z w s h.next next)))

  -- it goes by the call drop, to mid
  pub record Gone (mid : List ℕ) : Type 0 where
    pub left : Zone
    pub whole : Whole left
    pub stored : Stored mid left
    pub ready : Ready n c left
    pub clean : x.dirty ≡ false → first_dirty (dropping items bay_sum (page_need c) z) ≡ first_dirty (dropping items bay_sum (page_need c) left)
    pub same : x.dirty ≡ false → first_dirty (dropping items bay_sum (page_need c) left) ≡ none → n < argument_range → call (on_page n (create_page c)) mid ≡ call (on_page n (create_page c)) bs

  pub gone : (mid : List ℕ) → Promise (on_page x.name drop_page) bs (told 0 0) mid → Gone mid
  gone mid p =
      let xs : List Candidate = its-turn.0 in
      let q : in_turn z.clock (concat_s items z.bays) ≡ cand_of z.clock x ∷ xs = its-turn.1 in
      let e : then n c bs z w s r x xs next q ≡ mid = ap (λ (o : Result). o.bytes) (then-called n c bs z w s r x xs next q ∙ sym p) in
      record {
        left = without n c bs z w s r x xs next q;
        whole = then-whole n c bs z w s r x xs next q;
        stored = subst (λ (b : List ℕ). Stored b (without n c bs z w s r x xs next q)) e (then-stored n c bs z w s r x xs next q);
        ready = then_ready n c bs z w s r x xs next q;
        clean = λ d. then-dirty n c bs z w s r x xs next q short ∙ ap (λ (t : Bool). cond t (some x.name) (first_dirty (dropping items bay_sum (page_need c) (without n c bs z w s r x xs next q)))) d;
        same = λ d k y. ap (call (on_page n (create_page c))) (sym e) ∙ then_same n c bs z w s r x xs next q short d k y;
      }

pub stop_is : (n c v : ℕ) {bs : List ℕ} → Stops (page_need c) v bs → (z : Zone) → Whole z → Stored bs z → Ready n c z → first_dirty (dropping items bay_sum (page_need c) z) ≡ some v
stop_is n c v (at_dirty {bs = bs} {x = x} l next d q) z w s r =
    let t = its-turn n c bs z w s r x next l in then-dirty n c bs z w s r x t.0 next t.1 (short n c bs z w s r x next l) ∙ (rw d) ∙ ap some q
stop_is n c v (goes_further {bs = bs} {mid = mid} {x = x} l next d p t) z w s r =
    let g = gone n c bs z w s r x next l mid p in g.clean d ∙ stop_is n c v t g.left g.whole g.stored g.ready

-- and where it comes to an end, the create is accepted and is the create on what is left
pub drop-is : (n c : ℕ) {bs mid : List ℕ} → Drops (page_need c) bs mid → (z : Zone) → Whole z → Stored bs z → Ready n c z
    → (first_dirty (dropping items bay_sum (page_need c) z) ≡ none) × (n < argument_range → call (on_page n (create_page c)) mid ≡ call (on_page n (create_page c)) bs)
drop-is n c (enough {bs = bs} l) z w s r = (ap first_dirty (none_dropped (page_need c) z (le-leb (page_need c) (max_s bay_sum z.bays) (omega (arith, l, largest-read n c bs z w s r)))), λ y. refl)
drop-is n c (goes {bs = bs} {mid = mid} {x = x} l next d p t) z w s r =
    let g = gone n c bs z w s r x next l mid p in
    let k = drop-is n c t g.left g.whole g.stored g.ready in
    (g.clean d ∙ k.0, λ y. k.1 y ∙ g.same d k.0 y)
