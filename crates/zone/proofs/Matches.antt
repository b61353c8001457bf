-- A zone and a ledger that are one, and what the table asks of them: the same facts.
use mathlib.Core.Path.{◌≡◌, refl, ap, ap₂, sym}
use mathlib.Core.Bool.{Bool, true, cond}
use mathlib.Core.Option.{Option, get_or}
use mathlib.Core.List.{List}
use Prim.Native.Nat.{ℕ, ◌+◌, ◌≤◌}
use native.Mathlib.Omega.{arith}
use lib.ListN.{length}
use lib.Dec.{eqb}
use Rattle.block_type.specs.Limits.{added_bytes}
use Rattle.calls.specs.Calls.{Target, by_handle, by_pointer}
use Rattle.calls.specs.Bays.{Bays, over, or_else, find_s, find_f, sum_s, max_s, max_less, first_s}
use Rattle.kinds.specs.Kinds.{Item, is}
use Rattle.calls.specs.State.{get, listed, Fixed, pointer, content, own_sum}
use Rattle.ledger.specs.Ledger.{Bay, Ledger, entries_of, sum_of}
use Rattle.ledger.specs.Ledger as Book
use Rattle.ledger.proofs.Space.{live_in}
use Rattle.bay.specs.Bay.{Cell, items, bay_sum}
use Rattle.bay.specs.Counted.{count, live}
use Rattle.zone.specs.Work as Work
use Rattle.zone.specs.Work.{Zone}
use Rattle.bay.proofs.Perm.{perm-live}
use mathlib.Core.List.{Permᴰ}
use Prim.Native.Nat.{◌+◌}
use lib.Dec.{leb}
use Rattle.calls.specs.Bays.{concat_s}
use Rattle.kinds.specs.Kinds.{has_name}
use Rattle.calls.specs.Calls.{by_name}
use Rattle.calls.specs.Pages.{unlocked, among, freed, shortest, first_dirty, sum_without, dropping}
use Rattle.calls.proofs.Pages.{turn-perm}
use Rattle.bay.proofs.Perm.{perm-freed}
use Rattle.zone.proofs.HowMany.{many}
use Rattle.zone.proofs.Dropping.{many-flat}
use Rattle.zone.proofs.BaysLaws.{Like, like-last, like-more, first_s-like, max_s-like, max_less-like, sum_s-like}
use Rattle.zone.proofs.Fits.{Fits, Equal, same_sum, same-get, same_count, perm-append}

abbrev pub Paired : Bays (List Cell) Fixed → Bays Bay Fixed → Type 0
Paired s t = Like Fits Equal s t

-- all but the bays is shared
pub data Matches : Zone → Ledger → Type 0 where
  matches : {buf len clock : ℕ} {chain : List ℕ} {s : Bays (List Cell) Fixed} {t : Bays Bay Fixed} → Paired s t
      → Matches (record { buf = buf; len = len; clock = clock; chain = chain; bays = s }) (record { buf = buf; len = len; clock = clock; chain = chain; bays = t })

-- ---- what is found, where no handle stands twice

find-same : (ok : Item → Bool) {s : Bays (List Cell) Fixed} {t : Bays Bay Fixed} → Paired s t → many ok s ≤ 1 → find_s (λ (b : List Cell). get ok (items b)) s ≡ find_s (λ (c : Bay). get ok c.entries) t
find-same ok (like-last r) n = same-get r ok n
find-same ok (like-more r q l) n = ap₂ or_else (same-get r ok (omega arith)) (find-same ok l (omega arith))

own_same : (h : ℕ) {s : Bays (List Cell) Fixed} {t : Bays Bay Fixed} → Paired s t → live h s ≤ 1
    → find_s (λ (b : List Cell). over (λ (e : Item). bay_sum b) (get (is h) (items b))) s ≡ find_s (λ (c : Bay). over (λ (e : Item). sum_of c) (get (is h) c.entries)) t
own_same h (like-last r) n = ap₂ (λ (k : ℕ) (o : Option Item). over (λ (e : Item). k) o) (same_sum r) (same-get r (is h) n)
own_same h (like-more r q l) n = ap₂ or_else (ap₂ (λ (k : ℕ) (o : Option Item). over (λ (e : Item). k) o) (same_sum r) (same-get r (is h) (omega arith))) (own_same h l (omega arith))

pub fixed_same : (p : ℕ) {s : Bays (List Cell) Fixed} {t : Bays Bay Fixed} → Paired s t → find_f (λ (x : Fixed). eqb p (pointer x)) s ≡ find_f (λ (x : Fixed). eqb p (pointer x)) t
fixed_same p (like-last r) = refl
fixed_same p (like-more r q l) = ap₂ (λ (x : Fixed) (o : Option Fixed). cond (eqb p (pointer x)) (Option.some x) o) q.equal (fixed_same p l)

module _ {s : Bays (List Cell) Fixed} {t : Bays Bay Fixed} (l : Paired s t) where
  pub largest-same : max_s bay_sum s ≡ max_s sum_of t
  largest-same = max_s-like Fits Equal bay_sum sum_of (λ b c r. same_sum r) l

  pub first-same : bay_sum (first_s s) ≡ sum_of (first_s t)
  first-same = same_sum (first_s-like Fits Equal l)

  pub largest-after-same : max_less bay_sum added_bytes s ≡ max_less sum_of added_bytes t
  largest-after-same = max_less-like Fits Equal bay_sum sum_of added_bytes (λ b c r. same_sum r) l

  pub total-same : sum_s bay_sum s ≡ sum_s sum_of t
  total-same = sum_s-like Fits Equal bay_sum sum_of (λ b c r. same_sum r) l

  pub count_same : sum_s (λ (b : List Cell). length (listed (items b))) s ≡ sum_s (λ (c : Bay). length (listed c.entries)) t
  count_same = sum_s-like Fits Equal (λ (b : List Cell). length (listed (items b))) (λ (c : Bay). length (listed c.entries)) (λ b c r. perm-live r.perm) l

  pub live_same : (h : ℕ) → live_in h t ≡ live h s
  live_same h = sym (sum_s-like Fits Equal (λ (b : List Cell). count (is h) (items b)) (λ (c : Bay). _) (λ b c r. sym (same_count r (is h))) l)

  -- what the bays' blocks are, up to order
  pub flat-perm : Permᴰ (concat_s items s) (concat_s entries_of t)
  flat-perm = go l
    where
      go : {s : Bays (List Cell) Fixed} {t : Bays Bay Fixed} → Paired s t → Permᴰ (concat_s items s) (concat_s entries_of t)
      go (like-last r) = r.perm
      go (like-more r q l) = perm-append r.perm (go l)

  without-same : (ok : Item → Bool) → sum_without items bay_sum ok s ≡ sum_without entries_of sum_of ok t
  without-same ok = max_s-like Fits Equal (λ (b : List Cell). bay_sum b + freed ok (items b)) (λ (c : Bay). sum_of c + freed ok c.entries) (λ b c r. ap₂ ◌+◌ (same_sum r) (perm-freed ok r.perm)) l

  module _ (a : (n : ℕ) → many (has_name n) s ≤ 1) where
    -- the same pages go
    pub dropping-same : (buf len clock : ℕ) (chain : List ℕ) (need : ℕ) → dropping items bay_sum need (record { buf = buf; len = len; clock = clock; chain = chain; bays = s })
        ≡ dropping entries_of sum_of need (record { buf = buf; len = len; clock = clock; chain = chain; bays = t })
    dropping-same buf len clock chain need = λ i. shortest (λ xs. leb need (without-same (among xs) i)) (turn-perm clock flat-perm (λ n. omega (arith, a n, many-flat (has_name n) items s)) i)

  module _ (o : (h : ℕ) → live h s ≤ 1) (a : (n : ℕ) → many (has_name n) s ≤ 1) where
    pub content-same : (k : Target) → content items k s ≡ content entries_of k t
    content-same (by_handle h) = ap (over (λ (e : Item). e.bytes)) (find-same (is h) l (o h))
    content-same (by_name n) = ap (over (λ (e : Item). e.bytes)) (find-same (has_name n) l (a n))
    content-same (by_pointer p) = ap (over (λ (x : Fixed). x.bytes)) (fixed_same p l)

    pub handle-same : (h : ℕ) → find_s (λ (b : List Cell). get (is h) (items b)) s ≡ find_s (λ (c : Bay). get (is h) c.entries) t
    handle-same h = find-same (is h) l (o h)

    pub own-sum-same : (h : ℕ) → own_sum items bay_sum h s ≡ own_sum entries_of sum_of h t
    own-sum-same h = ap (λ (k : Option ℕ). get_or k 0) (own_same h l (o h))

-- THE SAME FACTS
pub facts-same : {z : Zone} {l : Ledger} → ((h : ℕ) → live h z.bays ≤ 1) → ((n : ℕ) → many (has_name n) z.bays ≤ 1) → Matches z l → Work.facts true z ≡ Book.facts l
facts-same o a (matches {buf = buf} {len = len} {clock = clock} {chain = chain} k) = λ i. record {
  well = true;
  buf = buf;
  len = len;
  chain = chain;
  masters = count_same k i + length chain;
  size = λ t. over length (content-same k o a t i);
  largest = largest-same k i;
  own = λ h. own-sum-same k o a h i;
  first_sum = first-same k i;
  largest_after = largest-after-same k i;
  largest_emptied = without-same k unlocked i;
  stop = λ need. first_dirty (dropping-same k a buf len clock chain need i);
  live = count_same k i;
}
