-- What the dropping of pages leaves: no handle's block goes, and where dropping every unlocked page would do, some bay's sum reaches the need.
use mathlib.Core.Path.{◌≡◌, refl, sym, ap, ap₂, ◌∙◌}
use mathlib.Core.Bool.{Bool, true, false, cond, not, true≢false}
use mathlib.Core.Option.{Option, none, some}
use mathlib.Core.List.{List, [], ◌∷◌}
use Prim.Native.Nat.{ℕ, suc, ◌+◌, ◌≤◌, ◌<◌, max}
use native.Mathlib.Omega.{arith}
use lib.ListN.{length}
use lib.Dec.{leb}
use borrow.Author.Tests.{not-false}
use Rattle.block_type.specs.Limits.{stamp_range}
use Rattle.kinds.specs.Kinds.{Item, Status, is, has_name, item_size}
use Rattle.kinds.proofs.KindLaws.{is-item}
use Rattle.calls.specs.Calls.{Mark, set_dirty, clear_dirty, set_lock, clear_lock}
use Rattle.calls.specs.Bays.{Bays, last, more, over, or_else, find_s, map_s, max_s, sum_s, concat_s}
use Rattle.calls.specs.State.{Fixed, get, total}
use Rattle.calls.specs.Pages.{Candidate, unlocked, in_turn, among, freed, sum_without, dropping, marked}
use Rattle.calls.specs.Table.{below, is_none}
use Rattle.calls.specs.Counted.{count}
use Rattle.calls.proofs.Pages.{shortest-enough, all-gone}
use Rattle.bay.specs.Bay.{Cell, bay_sum, items, release}
use Rattle.bay.specs.Counted.{remove}
use Rattle.bay.proofs.Laws.{bsize-split, release-size, release-items}
use Rattle.zone.specs.Work.{Zone, make_room}
use Rattle.zone.proofs.HowMany.{many, count-append}

pub mark-stamp : (m : Mark) (s : Status) → s.stamp < stamp_range → (marked m s).stamp < stamp_range
mark-stamp set_dirty s l = l
mark-stamp clear_dirty s l = l
mark-stamp set_lock s l = l
mark-stamp clear_lock s l = l

-- no handle's block is among the candidates
pub among-handle : (xs : List Candidate) (h : ℕ) (e : Item) → is h e ≡ true → among xs e ≡ false
among-handle xs h e q = ap (among xs) (is-item h e q)

-- ---- a page by its name

abbrev pub page_of : ℕ → Zone → Option Item
page_of n z = find_s (λ (b : List Cell). get (has_name n) (items b)) z.bays

get-count-none : (ok : Item → Bool) (es : List Item) → is_none (get ok es) ≡ true → count ok es ≡ 0
get-count-none ok [] q = refl
get-count-none ok (e ∷ es) q = go (ok e) q (get-count-none ok es)
  where
    go : (t : Bool) → is_none (cond t (some e) (get ok es)) ≡ true → (is_none (get ok es) ≡ true → count ok es ≡ 0) → cond t (suc (count ok es)) (count ok es) ≡ 0
    go true q f = absurd (true≢false (sym q))
    go false q f = f q

find_none : (ok : Item → Bool) (s : Bays (List Cell) Fixed) → is_none (find_s (λ (b : List Cell). get ok (items b)) s) ≡ true → many ok s ≡ 0
find_none ok (last b) q = get-count-none ok (items b) q
find_none ok (more b x s) q = go (get ok (items b)) refl q (λ k. find_none ok s k)
  where
    go : (o : Option Item) → get ok (items b) ≡ o → is_none (or_else o (find_s (λ (b : List Cell). get ok (items b)) s)) ≡ true
        → (is_none (find_s (λ (b : List Cell). get ok (items b)) s) ≡ true → many ok s ≡ 0) → count ok (items b) + many ok s ≡ 0
    go none p q f = omega (arith, get-count-none ok (items b) (ap is_none p), f q)
    go (some e) p q f = absurd (true≢false (sym q))

pub absent-many : (n : ℕ) (z : Zone) → is_none (over length (over (λ (e : Item). e.bytes) (page_of n z))) ≡ true → many (has_name n) z.bays ≡ 0
absent-many n z q = find_none (has_name n) z.bays (is-none (page_of n z) q)
  where
    is-none : (o : Option Item) → is_none (over length (over (λ (e : Item). e.bytes) o)) ≡ true → is_none o ≡ true
    is-none none q = refl
    is-none (some e) q = q

-- ---- sums

total-freed : (ok : Item → Bool) (es : List Item) → total (remove ok es) + freed ok es ≡ total es
total-freed ok [] = refl
total-freed ok (e ∷ es) = go (ok e) (total-freed ok es)
  where
    go : (t : Bool) → total (remove ok es) + freed ok es ≡ total es → total (cond t (remove ok es) (e ∷ remove ok es)) + cond t (item_size e + freed ok es) (freed ok es) ≡ item_size e + total es
    go true q = omega arith
    go false q = omega arith

pub released-sum : (ok : Item → Bool) (b : List Cell) → bay_sum (release ok b) ≡ bay_sum b + freed ok (items b)
released-sum ok b = omega (arith, bsize-split b, bsize-split (release ok b), release-size ok b, ap total (release-items ok b), total-freed ok (items b))

pub cleared-sums : (ok : Item → Bool) (s : Bays (List Cell) Fixed) → max_s bay_sum (map_s (release ok) s) ≡ sum_without items bay_sum ok s
cleared-sums ok (last b) = released-sum ok b
cleared-sums ok (more b x s) = ap₂ max (released-sum ok b) (cleared-sums ok s)

pub many-flat : (ok : Item → Bool) {B : Type 0} (all : B → List Item) (s : Bays B Fixed) → sum_s (λ b. count ok (all b)) s ≡ count ok (concat_s all s)
many-flat ok all (last b) = refl
many-flat ok all (more b x s) = ap (count ok (all b) +◌) (many-flat ok all s) ∙ sym (count-append ok (all b) (concat_s all s))

-- where dropping every unlocked page would do, what is dropped does
pub dropped-enough : (need : ℕ) (z : Zone) → ((n : ℕ) → many (has_name n) z.bays ≤ 1) → below (sum_without items bay_sum unlocked z.bays) need ≡ false
    → leb need (sum_without items bay_sum (among (dropping items bay_sum need z)) z.bays) ≡ true
dropped-enough need z f q =
    shortest-enough (λ xs. leb need (sum_without items bay_sum (among xs) z.bays)) (in_turn z.clock (concat_s items z.bays))
    (ap (leb need) (all-gone items bay_sum z.clock z.bays (λ n. omega (arith, f n, many-flat (has_name n) items z.bays))) ∙ not-false _ q)

pub room-made : (need : ℕ) (z : Zone) → ((n : ℕ) → many (has_name n) z.bays ≤ 1) → below (sum_without items bay_sum unlocked z.bays) need ≡ false → below (max_s bay_sum (make_room need z).bays) need ≡ false
room-made need z f q = ap not (ap (leb need) (cleared-sums (among (dropping items bay_sum need z)) z.bays) ∙ dropped-enough need z f q)
