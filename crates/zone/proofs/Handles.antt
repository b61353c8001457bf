-- Every master is either a live block's or in the chain, and once: kept by each call.
use mathlib.Core.Path.{◌≡◌, refl, ap, ◌∙◌}
use mathlib.Core.Bool.{Bool, true, false, cond}
use mathlib.Core.List.{List, [], ◌∷◌, ◌++◌}
use Prim.Native.Nat.{ℕ, zero, suc, ◌+◌, ◌*◌, ◌≤◌, ◌<◌}
use native.Mathlib.Nat.{zero-add, suc-add}
use native.Mathlib.Omega.{arith}
use lib.Dec.{eqb}
use lib.ListN.{length}
use borrow.Author.Tests.{eqb-true, eqb-false, eq-eqb, ne_eqb}
use Rattle.block_type.specs.Limits.{zone_header, master_size}
use Rattle.calls.specs.Bays.{Bays, last, more, map_s}
use Rattle.zone.specs.PickBays.{AllS}
use Rattle.kinds.specs.Kinds.{Item, is}
use Rattle.kinds.proofs.KindLaws.{is-other, is_same}
use Rattle.calls.specs.State.{get, Fixed, new_item, handles_from}
use Rattle.bay.specs.Bay.{Cell, items, release, resized}
use Rattle.bay.specs.Counted.{count, live}
use Rattle.bay.proofs.Each.{Each, each_weaken, each_and, each-or_else}
use Rattle.zone.proofs.Sums.{find-each, sum-parts, find-sum}
use Rattle.zone.proofs.HowMany.{get-count, get-its, each_all, cond-add, low-many, high-many, join-many, edit-many, own-many, fixed-many, compact-many, grow-many, cut-many, release_other, release-gone}
use Rattle.zone.proofs.Walk.{Closed}
use Rattle.calls.specs.Pages.{new_page}
use Rattle.format.proofs.Bool.{is_false, not-both}
use Rattle.zone.specs.Work.{Zone}
use Rattle.zone.specs.Search.{lookup}

abbrev pub occurs : ℕ → List ℕ → ℕ
occurs h [] = 0
occurs h (k ∷ ks) = cond (eqb h k) (suc (occurs h ks)) (occurs h ks)

-- how often h is a master's offset
abbrev pub masters : ℕ → ℕ → ℕ
masters m h = occurs h (handles_from zone_header m)

-- each master is live or in the chain, and once
pub record Owns (m : ℕ) (z : Zone) : Type 0 where
  pub owns : (h : ℕ) → live h z.bays + occurs h z.chain ≡ masters m h

-- the masters are distinct
pub length-handles : (h n : ℕ) → length (handles_from h n) ≡ n
length-handles h zero = refl
length-handles h (suc n) = ap suc (length-handles (h + master_size) n)

pub occurs-below : (h k n : ℕ) → h < k → occurs h (handles_from k n) ≡ 0
occurs-below h k zero l = refl
occurs-below h k (suc n) l = rw (ne_eqb h k (λ e. omega arith)) (occurs-below h (k + master_size) n (omega arith))

pub occurs-once : (h k n : ℕ) → occurs h (handles_from k n) ≤ 1
occurs-once h k zero = omega arith
occurs-once h k (suc n) = go (eqb h k) refl (occurs-once h (k + master_size) n)
  where
    go : (t : Bool) → eqb h k ≡ t → occurs h (handles_from (k + master_size) n) ≤ 1 → cond t (suc (occurs h (handles_from (k + master_size) n))) (occurs h (handles_from (k + master_size) n)) ≤ 1
    go true e l = omega (arith, occurs-below h (k + master_size) n (omega (arith, eqb-true h k e)))
    go false e l = l

-- m handles, and n more behind them
pub handles-append : (h m n : ℕ) → handles_from h (m + n) ≡ handles_from h m ++ handles_from (h + master_size * m) n
handles-append h zero n = let q : h + master_size * 0 ≡ h = omega arith in rw (zero-add, q)
handles-append h (suc m) n =
    let q : h + master_size + master_size * m ≡ h + master_size * suc m = omega arith in
    rw suc-add (ap (h ∷◌) (handles-append (h + master_size) m n ∙ ap (λ (k : ℕ). handles_from (h + master_size) m ++ handles_from k n) q))

module _ (m : ℕ) where
  pub single : (z : Zone) → Owns m z → AllS (λ (b : List Cell). (h : ℕ) → count (is h) (items b) ≤ 1) z.bays
  single z g = all z.bays (λ h. sum-parts (λ (b : List Cell). count (is h) (items b)) 1 z.bays (omega (arith, g.owns h, occurs-once h zone_header m)))
    where
      all : (s : Bays (List Cell) Fixed) → ((h : ℕ) → AllS (λ (b : List Cell). count (is h) (items b) ≤ 1) s) → AllS (λ (b : List Cell). (h : ℕ) → count (is h) (items b) ≤ 1) s
      all (last b) f = f
      all (more b x s) f = ((λ h. (f h).0), all s (λ h. (f h).1))

  -- a free handle is a master's offset, and no block's
  pub chained : (z : Zone) → Owns m z → (h : ℕ) (hs : List ℕ) → z.chain ≡ h ∷ hs → (live h z.bays ≡ 0) × (1 ≤ masters m h)
  chained z g h hs q =
      let o : occurs h z.chain ≡ suc (occurs h hs) = ap (occurs h) q ∙ (rw (eq-eqb h h refl)) in
      (omega (arith, g.owns h, occurs-once h zone_header m, o), omega (arith, g.owns h, o))

  -- an item found by its handle
  pub record Found (h : ℕ) (z : Zone) (e : Item) : Type 0 where
    pub its : is h e ≡ true
    pub once-live : 1 ≤ live h z.bays

  -- what became of the live handles
  abbrev Lives : (ℕ → ℕ) → Bays (List Cell) Fixed → Bays (List Cell) Fixed → Type 0
  Lives f s u = (k : ℕ) → live k u ≡ f k + live k s

  -- the chain and the live handles stay
  steady : (z : Zone) (n : ℕ) (u : Bays (List Cell) Fixed) → ((k : ℕ) → live k u ≡ live k z.bays) → Owns m z → Owns m (record { buf = z.buf; len = n; clock = z.clock; chain = z.chain; bays = u })
  steady z n u r g = record { owns = λ k. ap (◌+ occurs k z.chain) (r k) ∙ g.owns k }

  dropped : (h : ℕ) (z : Zone) → Owns m z → 1 ≤ live h z.bays → (k : ℕ) (t : Bool) → eqb k h ≡ t
      → live k (map_s (release (is h)) z.bays) + cond t (suc (occurs k z.chain)) (occurs k z.chain) ≡ masters m k
  dropped h z g q k true e = rw (eqb-true k h e) (omega (arith, release-gone (is h) z.bays, g.owns h, occurs-once h zone_header m))
  dropped h z g q k false e = ap (◌+ occurs k z.chain) (release_other (is k) (is h) (λ i r. is-other k h i r (eqb-false k h e)) z.bays) ∙ g.owns k

  -- the item found is dropped and put again
  moved : (h : ℕ) (z : Zone) → Owns m z → (e : Item) → Found h z e → (u : Bays (List Cell) Fixed)
      → Lives (λ k. cond (is k e) 1 0) (map_s (release (is h)) z.bays) u → (k : ℕ) → live k u ≡ live k z.bays
  moved h z g e f u r k = go (eqb k h) refl (rw (is_same k h e f.its) at (r k))
    where
      go : (t : Bool) → eqb k h ≡ t → live k u ≡ cond t 1 0 + live k (map_s (release (is h)) z.bays) → live k u ≡ live k z.bays
      go true q l = omega (arith, dropped h z g f.once-live k true q, g.owns k)
      go false q l = omega (arith, dropped h z g f.once-live k false q, g.owns k)

  pub found : (h : ℕ) (z : Zone) → Each (Found h z) (lookup h z)
  found h z = each_weaken (λ e q. record { its = q.0; once-live = q.1 })
      (each_and (find-each (λ (e : Item). is h e ≡ true) (λ (b : List Cell). get (is h) (items b)) (λ b. get-its (is h) (items b)) z.bays)
      (find-sum (λ (b : List Cell). get (is h) (items b)) (λ (b : List Cell). count (is h) (items b)) (λ b. get-count (is h) (items b)) z.bays))

  pub owns-closed : Closed (Owns m)
  owns-closed = record {
    low = λ z h hs c lim q g. each_weaken (λ b r. record { owns = λ k. omega (arith, r k, g.owns k, cond-add (eqb k h) (occurs k hs), ap (occurs k) q) }) (each_all (λ k. low-many (is k) (new_item h c) z.bays));
    high = λ z n b lim g. each_weaken (λ r q. steady z z.len r.1 q g) (each_all (λ k. high-many (is k) n z.len z.bays));
    drop = λ z h g. each_weaken (λ e f. record { owns = λ k. dropped h z g f.once-live k (eqb k h) refl }) (found h z);
    join = λ z p g. each_weaken (λ b q. steady z z.len b q g) (each_all (λ k. join-many (is k) p z.bays));
    edit = λ z ok f y g. steady z z.len _ (λ k. edit-many (is k) ok f (λ e. y.same k e) z.bays) g;
    edit-fixed = λ z p f y g. steady z z.len _ (λ k. fixed-many (is k) p f z.bays) g;
    resize = λ z h a q g. each_weaken (λ e f lim. each_weaken (λ b r. steady z z.len b r g)
        (each-or_else (each_all (λ k. own-many (is k) h a (λ e. refl) z.bays)) (each_weaken (λ u r. moved h z g e f u r) (each_all (λ k. low-many (is k) (resized a e) (map_s (release (is h)) z.bays)))))) (found h z);
    compact_bay = λ z g. steady z z.len _ (λ k. compact-many (is k) z.bays) g;
    grow = λ z n q l o g. steady z _ _ (λ k. grow-many (is k) n z.bays) g;
    take_high = λ z j n q g. steady z _ _ (λ k. cut-many (is k) n z.bays (omega (arith, q))) g;
    page = λ z n ck c i lim k a g. each_weaken (λ b r. steady z z.len b (λ j. omega (arith, r j)) g) (each_all (λ k. low-many (is k) (new_page n ck c) z.bays));
    clear = λ z ok f g. steady z z.len _ (λ k. release_other (is k) ok (λ e q. is_false (is k e) (λ i. not-both q (f k e i))) z.bays) g;
    step = λ z g. record { owns = g.owns };
  }
