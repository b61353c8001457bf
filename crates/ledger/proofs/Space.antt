-- "No space" comes exactly when no bay's sum reaches what is needed of that bay.
use mathlib.Core.Path.{◌≡◌, refl, ap, ap₂, sym, ◌∙◌}
use mathlib.Core.Bool.{Bool, true, false, cond, ◌&&◌, ◌||◌, not}
use mathlib.Core.Option.{Option, none, some, get_or}
use mathlib.Core.List.{List, [], ◌∷◌}
use Prim.Native.Nat.{ℕ, suc, ◌+◌, ◌-◌, ◌≤◌, max}
use native.Mathlib.Omega.{arith}
use lib.ListN.{length}
use lib.Dec.{leb}
use borrow.Author.Tests.{leb-false, lt-leb}
use Rattle.block_type.specs.Limits.{reloc_header, reloc_limit, fixed_limit, page_limit, up4, reloc_need, fixed_need, page_need, added_bytes}
use Rattle.calls.specs.Bays.{last, more, over, or_else, find_s, map_s, max_s, max_less, sum_s}
use Rattle.kinds.specs.Kinds.{Item, is, item_size}
use Rattle.calls.specs.State.{get, total}
use Rattle.calls.specs.Pages.{unlocked, freed, sum_without}
use Rattle.calls.specs.Calls.{by_name}
use Rattle.calls.specs.Table.{below, is_none, is_empty, cause, no_master, room_sum, first, before_no_bay, after_no_bay, order}
use Rattle.calls.proofs.Reach.{leb-max}
use Rattle.calls.proofs.FirstBay.{less-first}
use Rattle.calls.specs.Counted.{count}
use Rattle.calls.proofs.Counted.{get_none}
use Rattle.ledger.specs.Ledger.{Bay, Layout, Ledger, sum_of, entries_of, on_entries, without, less, more_masters, with_master, strike_out, facts, step_with, step}
use Rattle.ledger.specs.Space.{Request, relocatable, fixed, resized, page, call_of, resize_need, need_of, fits, bays_for, earlier, later}

-- how many entries have the handle
abbrev pub live_in : ℕ → Layout → ℕ
live_in h l = sum_s (λ (b : Bay). count (is h) b.entries) l

-- ---- the same of every bay: the largest sum decides

fits_all : (q : Request) (n : ℕ) → ((b : Bay) → need_of q b ≡ n) → (l : Layout) → fits q l ≡ leb n (max_s sum_of l)
fits_all q n e (last b) = ap (λ (k : ℕ). leb k (sum_of b)) (e b)
fits_all q n e (more b x l) = ap₂ ◌||◌ (ap (λ (k : ℕ). leb k (sum_of b)) (e b)) (fits_all q n e l) ∙ leb-max n (sum_of b) (max_s sum_of l)

-- ---- a resize, where the handle stands at most once

data Once (n : ℕ) : Option Item → Type 0 where
  not-here : Once n none
  here : {e : Item} → 1 ≤ n → Once n (some e)

get-once : (h : ℕ) (es : List Item) → Once (count (is h) es) (get (is h) es)
get-once h [] = not-here
get-once h (e ∷ es) = go (is h e) (get-once h es)
  where
    go : (t : Bool) {o : Option Item} → Once (count (is h) es) o → Once (cond t (suc (count (is h) es)) (count (is h) es)) (cond t (some e) o)
    go true k = here (omega arith)
    go false k = k

module _ (h a : ℕ) where
  abbrev reached : Layout → Bool
  reached (last b) = leb (resize_need a (get (is h) b.entries)) (sum_of b)
  reached (more b x l) = leb (resize_need a (get (is h) b.entries)) (sum_of b) || reached l

  -- no bay has the handle
  none_has : (l : Layout) → live_in h l ≡ 0 → reached l ≡ leb (reloc_header + a) (max_s sum_of l)
  none_has (last b) n = rw (get_none (is h) b.entries n)
  none_has (more b x l) n = rw (get_none (is h) b.entries (omega arith), none_has l (omega arith)) (leb-max (reloc_header + a) (sum_of b) (max_s sum_of l))

  abbrev found : Layout → Option Item
  found l = find_s (λ (b : Bay). get (is h) b.entries) l

  abbrev own : Layout → Option ℕ
  own l = find_s (λ (b : Bay). over (λ (e : Item). sum_of b) (get (is h) b.entries)) l

  -- its bay is asked for a − b, and each bay for 4 + a: where its own lacks a − b, it lacks 4 + a too
  abbrev enough : Option ℕ → ℕ → Option Item → Bool
  enough s m none = leb (reloc_header + a) m
  enough s m (some e) = leb (a - length e.bytes) (get_or s 0) || leb (reloc_header + a) m

  own-bay : (n s m : ℕ) → leb (a - n) s || leb (reloc_header + a) m ≡ leb (a - n) s || leb (reloc_header + a) (max s m)
  own-bay n s m = go (leb (a - n) s) refl
    where
      go : (t : Bool) → leb (a - n) s ≡ t → t || leb (reloc_header + a) m ≡ t || leb (reloc_header + a) (max s m)
      go true p = refl
      go false p = sym (sym (leb-max (reloc_header + a) s m) ∙ ap (◌|| leb (reloc_header + a) m) (lt-leb (reloc_header + a) s (omega (arith, leb-false (a - n) s p))))

  or_swap : (t u v : Bool) → t || (u || v) ≡ u || (t || v)
  or_swap true true v = refl
  or_swap true false v = refl
  or_swap false u v = refl

  resize-fits : (l : Layout) → live_in h l ≤ 1 → reached l ≡ enough (own l) (max_s sum_of l) (found l)
  resize-fits (last b) n = go (get (is h) b.entries)
    where
      go : (o : Option Item) → leb (resize_need a o) (sum_of b) ≡ enough (over (λ (e : Item). sum_of b) o) (sum_of b) o
      go none = refl
      go (some e) = alone (leb (a - length e.bytes) (sum_of b)) refl
        where
          alone : (t : Bool) → leb (a - length e.bytes) (sum_of b) ≡ t → t ≡ t || leb (reloc_header + a) (sum_of b)
          alone true p = refl
          alone false p = sym (lt-leb (reloc_header + a) (sum_of b) (omega (arith, leb-false (a - length e.bytes) (sum_of b) p)))
  resize-fits (more b x l) n = go (get (is h) b.entries) (get-once h b.entries) (λ k. resize-fits l k)
    where
      later : (o : Option Item) (s : Option ℕ) → leb (reloc_header + a) (sum_of b) || enough s (max_s sum_of l) o ≡ enough s (max (sum_of b) (max_s sum_of l)) o
      later none s = leb-max (reloc_header + a) (sum_of b) (max_s sum_of l)
      later (some e) s = or_swap (leb (reloc_header + a) (sum_of b)) (leb (a - length e.bytes) (get_or s 0)) _ ∙ ap (leb (a - length e.bytes) (get_or s 0) ||◌) (leb-max (reloc_header + a) (sum_of b) (max_s sum_of l))

      go : (o : Option Item) → Once (count (is h) b.entries) o → (live_in h l ≤ 1 → reached l ≡ enough (own l) (max_s sum_of l) (found l))
          → leb (resize_need a o) (sum_of b) || reached l ≡ enough (or_else (over (λ (e : Item). sum_of b) o) (own l)) (max (sum_of b) (max_s sum_of l)) (or_else o (found l))
      go none not-here r = ap (leb (reloc_header + a) (sum_of b) ||◌) (r (omega arith)) ∙ later (found l) (own l)
      go (some e) (here k) r = ap (leb (a - length e.bytes) (sum_of b) ||◌) (none_has l (omega arith)) ∙ own-bay (length e.bytes) (sum_of b) (max_s sum_of l)

fits-reached : (h c : ℕ) (l : Layout) → fits (resized h c) l ≡ reached h (up4 c) l
fits-reached h c (last b) = refl
fits-reached h c (more b x l) = ap (leb (resize_need (up4 c) (get (is h) b.entries)) (sum_of b) ||◌) (fits-reached h c l)

-- ---- an allocation or a resize that nothing earlier refuses, where no handle is live twice

-- the largest sum that a new relocatable block finds
room-is : (l : Ledger) → max_s sum_of (with_master l).bays ≡ room_sum (facts l)
room-is l = go (is_empty l.chain)
  where
    go : (t : Bool) → max_s sum_of (cond t (more_masters l) l).bays ≡ cond t (max_less sum_of added_bytes l.bays) (max_s sum_of l.bays)
    go true = less-first sum_of added_bytes (less added_bytes) l.bays (omega arith)
    go false = refl

-- what stands in a bay has room in it
abbrev pub Roomy : Layout → Type 0
Roomy (last b) = total b.entries ≤ b.capacity
Roomy (more b x l) = (total b.entries ≤ b.capacity) × Roomy l

-- entries that go give their bytes to the sum
without-total : (t : Item → Bool) (es : List Item) → total (without t es) + freed t es ≡ total es
without-total t [] = refl
without-total t (e ∷ es) = go (t e) (without-total t es)
  where
    go : (u : Bool) → total (without t es) + freed t es ≡ total es → total (cond u (without t es) (e ∷ without t es)) + cond u (item_size e + freed t es) (freed t es) ≡ item_size e + total es
    go true i = omega arith
    go false i = omega arith

without-sum : (t : Item → Bool) (l : Layout) → Roomy l → max_s sum_of (map_s (on_entries (without t)) l) ≡ sum_without entries_of sum_of t l
without-sum t (last b) r = omega (arith, without-total t b.entries)
without-sum t (more b x l) r = ap₂ max (omega (arith, r.0, without-total t b.entries)) (without-sum t l r.1)

pub space : (q : Request) (l : Ledger) → ((h : ℕ) → live_in h l.bays ≤ 1) → Roomy l.bays → earlier q l ≡ 0 → (step (call_of q) l).answer.number ≡ cond (fits q (bays_for q l)) (later q l) 5
space (page n c) l o r e =
    rw (fits_all (page n c) (page_need c) (λ b. refl) (strike_out unlocked l).bays, without-sum unlocked l.bays r)
    (go (not (is_none ((facts l).size (by_name n)))) (leb c page_limit) (leb (page_need c) (facts l).largest_emptied) (not (is_none ((facts l).stop (page_need c)))) e)
  where
    go : (t u v w : Bool) → first before_no_bay (cause 1 false ∷ cause 11 t ∷ cause 3 (not u) ∷ cause 5 (not v) ∷ cause 12 w ∷ []) ≡ 0
        → (step_with (first order (cause 1 false ∷ cause 11 t ∷ cause 3 (not u) ∷ cause 5 (not v) ∷ cause 12 w ∷ [])) (call_of (page n c)) l).answer.number
        ≡ cond v (first after_no_bay (cause 1 false ∷ cause 11 t ∷ cause 3 (not u) ∷ cause 5 (not v) ∷ cause 12 w ∷ [])) 5
    go false true true true e = refl
    go false true true false e = refl
    go false true false w e = refl
    go false false v w e = absurd (omega (arith, e))
    go true u v w e = absurd (omega (arith, e))
space (relocatable c) l o r e =
    rw (fits_all (relocatable c) (reloc_need c) (λ b. refl) (with_master l).bays, room-is l)
    (go (leb c reloc_limit) (no_master (facts l)).holds (leb (reloc_need c) (room_sum (facts l))) e)
  where
    go : (t u v : Bool) → first before_no_bay (cause 1 false ∷ cause 3 (not t) ∷ cause 4 u ∷ cause 5 (not v) ∷ []) ≡ 0
        → (step_with (first order (cause 1 false ∷ cause 3 (not t) ∷ cause 4 u ∷ cause 5 (not v) ∷ [])) (call_of (relocatable c)) l).answer.number ≡ cond v 0 5
    go true false true e = refl
    go true false false e = refl
    go true true v e = absurd (omega (arith, e))
    go false u v e = absurd (omega (arith, e))
space (fixed c) l o r e = rw (fits_all (fixed c) (fixed_need c) (λ b. refl) l.bays) (go (leb c fixed_limit) (leb (fixed_need c) (max_s sum_of l.bays)) e)
  where
    go : (t v : Bool) → first before_no_bay (cause 1 false ∷ cause 3 (not t) ∷ cause 5 (not v) ∷ []) ≡ 0
        → (step_with (first order (cause 1 false ∷ cause 3 (not t) ∷ cause 5 (not v) ∷ [])) (call_of (fixed c)) l).answer.number ≡ cond v 0 5
    go true true e = refl
    go true false e = refl
    go false v e = absurd (omega (arith, e))
space (resized h c) l o r e =
    rw (fits-reached h c l.bays, resize-fits h (up4 c) l.bays (o h))
    (go (found h (up4 c) l.bays) (own h (up4 c) l.bays) (leb c reloc_limit) e)
  where
    both : Option Item → Option ℕ → Bool
    both i s = below (get_or s 0) (up4 c - get_or (over length (over (λ (e : Item). e.bytes) i)) 0) && below (max_s sum_of l.bays) (reloc_header + up4 c)

    number : (i : Option Item) (s : Option ℕ) (t : Bool) → ℕ
    number i s t = first order (cause 1 false ∷ cause 3 (not t) ∷ cause 5 (both i s) ∷ cause 6 (is_none (over length (over (λ (e : Item). e.bytes) i))) ∷ [])

    last-two : (u v : Bool) → (step_with (first order (cause 1 false ∷ cause 3 false ∷ cause 5 (not u && not v) ∷ cause 6 false ∷ [])) (call_of (resized h c)) l).answer.number ≡ cond (u || v) 0 5
    last-two true v = refl
    last-two false true = refl
    last-two false false = refl

    go : (i : Option Item) (s : Option ℕ) (t : Bool)
        → first before_no_bay (cause 1 false ∷ cause 3 (not t) ∷ cause 5 (both i s) ∷ cause 6 (is_none (over length (over (λ (e : Item). e.bytes) i))) ∷ []) ≡ 0
        → (step_with (number i s t) (call_of (resized h c)) l).answer.number ≡ cond (enough h (up4 c) s (max_s sum_of l.bays) i) 0 5
    go none s t e = absurd (omega (arith, e))
    go (some i) s true e = last-two (leb (up4 c - length i.bytes) (get_or s 0)) (leb (reloc_header + up4 c) (max_s sum_of l.bays))
    go (some i) s false e = absurd (omega (arith, e))
