-- A search that may find nothing against the total change of bays that a call's work makes: nothing where the table's cause holds, and else just
-- that change.
use mathlib.Core.Path.{◌≡◌, refl, subst}
use mathlib.Core.Bool.{Bool, true, false, cond, ◌&&◌, not}
use mathlib.Core.List.{List}
use mathlib.Core.Option.{Option, none, some}
use Prim.Native.Nat.{ℕ, ◌+◌, ◌-◌, ◌≤◌}
use native.Mathlib.Omega.{arith}
use lib.ListN.{length}
use lib.Dec.{eqb, leb}
use Rattle.block_type.specs.Limits.{reloc_header}
use Rattle.calls.specs.Bays.{Bays, last, more, over, or_else, on_lowest, map_s, find_f, max_s}
use Rattle.kinds.specs.Kinds.{Item, item, is}
use Rattle.calls.specs.State.{get, Fixed, fsize, pointer, new_fixed, cut_high, join_over, join_at, own_sum}
use Rattle.calls.specs.Table.{below, is_none}
use Rattle.zone.specs.PickBays.{on_low, on_high, glue, on_join}
use Rattle.bay.specs.Bay.{Cell, bay_sum, items, release, reshape}
use Rattle.bay.specs.Counted.{count, room_for, live}
use Rattle.zone.specs.Work as Work
use Rattle.zone.specs.Work.{has}
use Rattle.zone.specs.Search as Search
use Rattle.zone.specs.Search.{own, resize_in}
use Rattle.zone.proofs.Missing.{Missing, gone, there, low-missing, high-missing, join-missing}
use Rattle.zone.proofs.Once.{often, count-get, block_of, Named, unnamed, named, get-named}
use Rattle.zone.proofs.ResizeMissing.{own-absent, own-missing, resize-missing, own_changed}

-- ---- nothing, or this

data Only {A : Type 0} (a : A) : Option A → Type 0 where
  no : Only a none
  yes : Only a (some a)

one_only : {A : Type 0} (t : Bool) (a : A) → Only a (cond t (some a) none)
one_only true a = yes
one_only false a = no

over-only : {A B : Type 0} (f : A → B) {a : A} {o : Option A} → Only a o → Only (f a) (over f o)
over-only f no = no
over-only f yes = yes

-- ---- what is done to bays

module _ {B F : Type 0} where
  low-only : (t : B → Bool) (f : B → B) (s : Bays B F) → Only (on_lowest t f s) (on_low t f s)
  low-only t f (last b) = one_only (t b) (last (f b))
  low-only t f (more b x s) = go (t b) (low-only t f s)
    where
      go : (u : Bool) → Only (on_lowest t f s) (on_low t f s)
          → Only (cond u (more (f b) x s) (more b x (on_lowest t f s))) (cond u (some (more (f b) x s)) (over (more b x) (on_low t f s)))
      go true k = yes
      go false k = over-only (more b x) k

module _ {B : Type 0} (μ : B → ℕ) (f : B → B) (e : B) (n : ℕ) where
  abbrev searched : ℕ → Bays B Fixed → Option (Fixed × Bays B Fixed)
  searched end s = on_high (λ (b : B). leb n (μ b)) f (new_fixed n) e (λ (x : Fixed). x.place) end s

  high-only : (end : ℕ) (s : Bays B Fixed) → Only (cut_high μ f e n end s) (searched end s)
  high-only end (last b) = one_only (leb n (μ b)) _
  high-only end (more b x s) = go (leb n (max_s μ s)) (leb n (μ b)) (high-missing μ n f (new_fixed n) e (λ (x : Fixed). x.place) end s) (high-only end s)
    where
      here : Fixed × Bays B Fixed
      here = (new_fixed n x.place, more (f b) (new_fixed n x.place) (more e x s))

      go : (u t : Bool) {r : Fixed × Bays B Fixed} {o : Option (Fixed × Bays B Fixed)} → Missing (not u) o → Only r o
          → Only (cond u (r.0, more b x r.1) here) (or_else (over (λ (r : Fixed × Bays B Fixed). (r.0, more b x r.1)) o) (cond t (some here) none))
      go true t there yes = yes
      go false t gone no = one_only t here

module _ {B : Type 0} (j : B → ℕ → B → B) where
  abbrev welded : B → Fixed → B → B
  welded b x c = j b (fsize x) c

  glue-is : (b : B) (x : Fixed) (s : Bays B Fixed) → glue welded b x s ≡ join_over j b x s
  glue-is b x (last c) = refl
  glue-is b x (more c y s) = refl

  join-only : (p : ℕ) (s : Bays B Fixed) → Only (join_at j p s) (on_join (λ (x : Fixed). eqb p (pointer x)) welded s)
  join-only p (last b) = no
  join-only p (more b x s) = rw (glue-is b x s) (go (eqb p (pointer x)) (join-only p s))
    where
      go : (u : Bool) → Only (join_at j p s) (on_join (λ (x : Fixed). eqb p (pointer x)) welded s)
          → Only (cond u (join_over j b x s) (more b x (join_at j p s))) (cond u (some (join_over j b x s)) (over (more b x) (on_join (λ (x : Fixed). eqb p (pointer x)) welded s)))
      go true k = yes
      go false k = over-only (more b x) k

-- a resize, where the handle stands at most once
module _ (h a : ℕ) where
  own-only : (s : Bays (List Cell) Fixed) → live h s ≤ 1 → Only (on_lowest (has h) (reshape h a) s) (own_changed h a s)
  own-only (last b) n = one_only (own h a b) _
  own-only (more b x s) n = go (count (is h) (items b)) (get (is h) (items b)) (count-get (is h) (items b) (omega arith)) n (λ l. own-only s l)
    where
      go : (k : ℕ) (o : Option Item) → k ≡ often o → k + live h s ≤ 1 → (live h s ≤ 1 → Only (on_lowest (has h) (reshape h a) s) (own_changed h a s))
          → Only (cond (not (is_none o)) (more (reshape h a b) x s) (more b x (on_lowest (has h) (reshape h a) s)))
          (cond (cond (eqb k 1) (room_for a (bay_sum b) o) false) (some (more (reshape h a b) x s)) (over (more b x) (own_changed h a s)))
      go k none e n r = rw e (over-only (more b x) (r (omega arith)))
      go k (some i) e n r = rw e (alone (leb (a - length i.bytes) (bay_sum b)) (own-absent h a s (omega arith)))
        where
          alone : (t : Bool) {o : Option (Bays (List Cell) Fixed)} → Missing true o → Only (more (reshape h a b) x s) (cond t (some (more (reshape h a b) x s)) (over (more b x) o))
          alone true m = yes
          alone false gone = no

pub block-named : (h : ℕ) (s : Bays (List Cell) Fixed) → Named h (block_of h s)
block-named h (last b) = get-named h (items b)
block-named h (more b x s) = go (get-named h (items b)) (block-named h s)
  where
    go : {o p : Option Item} → Named h o → Named h p → Named h (or_else o p)
    go unnamed q = q
    go named q = named

resize-only : (h a : ℕ) (d : List ℕ) (s : Bays (List Cell) Fixed) → live h s ≤ 1 → block_of h s ≡ some (item h d)
    → Only (Work.resize_in h a d s) (Search.resize_in h a (item h d) s)
resize-only h a d s n q =
    go (leb (a - length d) (own_sum items bay_sum h s))
    (subst (λ (o : Option Item). Missing (not (room_for a (own_sum items bay_sum h s) o)) (own_changed h a s)) q (own-missing h a s n))
    (own-only h a s n)
    (low-only _ _ (map_s (release (is h)) s))
  where
    go : (u : Bool) {v w : Bays (List Cell) Fixed} {o p : Option (Bays (List Cell) Fixed)} → Missing (not u) o → Only v o → Only w p → Only (cond u v w) (or_else o p)
    go true there yes k = yes
    go false gone no k = k

-- ---- nothing where the table's cause holds, else this

pub data Found {A : Type 0} (a : A) : Bool → Option A → Type 0 where
  lost : Found a true none
  got : Found a false (some a)

found : {A : Type 0} {a : A} {t : Bool} {o : Option A} → Missing t o → Only a o → Found a t o
found gone no = lost
found there yes = got

pub low-found : {B F : Type 0} (μ : B → ℕ) (n : ℕ) (f : B → B) (s : Bays B F) → Found (on_lowest (λ (b : B). leb n (μ b)) f s) (below (max_s μ s) n) (on_low (λ (b : B). leb n (μ b)) f s)
low-found μ n f s = found (low-missing μ n f s) (low-only (λ b. leb n (μ b)) f s)

pub high-found : {B : Type 0} (μ : B → ℕ) (f : B → B) (e : B) (n end : ℕ) (s : Bays B Fixed)
    → Found (cut_high μ f e n end s) (below (max_s μ s) n) (on_high (λ (b : B). leb n (μ b)) f (new_fixed n) e (λ (x : Fixed). x.place) end s)
high-found μ f e n end s = found (high-missing μ n f (new_fixed n) e (λ (x : Fixed). x.place) end s) (high-only μ f e n end s)

pub join-found : {B : Type 0} (j : B → ℕ → B → B) (p : ℕ) (s : Bays B Fixed)
    → Found (join_at j p s) (is_none (over (λ (x : Fixed). x.bytes) (find_f (λ (x : Fixed). eqb p (pointer x)) s))) (on_join (λ (x : Fixed). eqb p (pointer x)) (λ (b : B) (x : Fixed) (c : B). j b (fsize x) c) s)
join-found j p s = found (join-missing (λ (x : Fixed). x.bytes) (λ (x : Fixed). eqb p (pointer x)) _ s) (join-only j p s)

pub resize-found : (h a : ℕ) (d : List ℕ) (s : Bays (List Cell) Fixed) → live h s ≤ 1 → block_of h s ≡ some (item h d)
    → Found (Work.resize_in h a d s) (below (own_sum items bay_sum h s) (a - length d) && below (max_s bay_sum s) (reloc_header + a)) (Search.resize_in h a (item h d) s)
resize-found h a d s n q = found (resize-missing h a d s n q) (resize-only h a d s n q)
