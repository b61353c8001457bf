-- No step of the ledger but free_pointer takes a fixed block away, and none moves it or changes its size.
use mathlib.Core.Path.{◌≡◌, refl, ap, ap₂, sym, ◌∙◌, subst}
use mathlib.Core.Bool.{Bool, true, false, cond}
use mathlib.Core.List.{List, ◌∷◌, ◌++◌}
use Prim.Native.Nat.{ℕ, zero, suc, ◌+◌, ◌-◌}
use lib.ListN.{length, take}
use lib.Seq.{sets, length-sets}
use lib.Dec.{leb, eqb, eqb-suc-zero}
use borrow.Author.Tests.{eqb-true}
use Rattle.block_type.specs.Limits.{fixed_header, reloc_header, fixed_need, page_need, up4, added_bytes}
use Rattle.calls.specs.Calls.{Target, by_handle, by_pointer, by_name, PageCall, create_page, use_page, mark_page, drop_page, Call, allocate_relocatable, allocate_fixed, free_handle, free_pointer, resize, size, read, write, view, compact, sums, check, length_of, enlarge, shrink, roster, on_page}
use Rattle.calls.specs.Bays.{last, more, on_lowest, on_first, map_s, on_fixed, on_last, max_s}
use Rattle.calls.specs.State.{Fixed, fsize, pointer, alter_fixed, new_fixed, cut_high, join_over, join_at, data_of, own_sum, sized}
use Rattle.calls.specs.Table.{refusal_of, is_empty}
use Rattle.kinds.specs.Kinds.{item, is}
use Rattle.ledger.specs.Ledger.{Bay, Ledger, Layout, bay, sum_of, entries_of, change, less, enter, on_entries, without, resize_in, more_masters, with_master, make_room, page_work, facts, work, step_with, step}
use Rattle.ledger.specs.Space.{Spot, spot, fixed_spots}
use Rattle.ledger.specs.Still.{Has, first, later}

-- ---- what leaves the fixed blocks as they are

lowest-spots : (t : Bay → Bool) (f : Bay → Bay) (l : Layout) → fixed_spots (on_lowest t f l) ≡ fixed_spots l
lowest-spots t f (last b) = refl
lowest-spots t f (more b x l) = go (t b) (lowest-spots t f l)
  where
    go : (u : Bool) → fixed_spots (on_lowest t f l) ≡ fixed_spots l → fixed_spots (cond u (more (f b) x l) (more b x (on_lowest t f l))) ≡ spot x.place (fsize x) ∷ fixed_spots l
    go true e = refl
    go false e = ap (spot x.place (fsize x) ∷◌) e

first-spots : (f : Bay → Bay) (l : Layout) → fixed_spots (on_first f l) ≡ fixed_spots l
first-spots f (last b) = refl
first-spots f (more b x l) = refl

map-spots : (f : Bay → Bay) (l : Layout) → fixed_spots (map_s f l) ≡ fixed_spots l
map-spots f (last b) = refl
map-spots f (more b x l) = ap (spot x.place (fsize x) ∷◌) (map-spots f l)

last-spots : (f : Bay → Bay) (l : Layout) → fixed_spots (on_last f l) ≡ fixed_spots l
last-spots f (last b) = refl
last-spots f (more b x l) = ap (spot x.place (fsize x) ∷◌) (last-spots f l)

-- bytes of the same length
change-spots : (t : Target) (f : List ℕ → List ℕ) → ((w : List ℕ) → length (f w) ≡ length w) → (l : Layout) → fixed_spots (change t f l) ≡ fixed_spots l
change-spots (by_handle h) f e l = map-spots _ l
change-spots (by_name n) f e l = map-spots _ l
change-spots (by_pointer p) f e l = fixed l
  where
    one : (x : Fixed) (t : Bool) → spot (cond t (record { place = x.place; bytes = f x.bytes }) x).place (fsize (cond t (record { place = x.place; bytes = f x.bytes }) x)) ≡ spot x.place (fsize x)
    one x true = ap (λ (n : ℕ). spot x.place (fixed_header + n)) (e x.bytes)
    one x false = refl

    fixed : (k : Layout) → fixed_spots (on_fixed (alter_fixed p f) k) ≡ fixed_spots k
    fixed (last b) = refl
    fixed (more b x k) = ap₂ ◌∷◌ (one x (eqb p (pointer x))) (fixed k)

either : {A : Type 0} (P : A → Type 0) (t : Bool) (a b : A) → P a → P b → P (cond t a b)
either P true a b p q = p
either P false a b p q = q

with-spots : (l : Ledger) → fixed_spots (with_master l).bays ≡ fixed_spots l.bays
with-spots l = either (λ (k : Ledger). fixed_spots k.bays ≡ fixed_spots l.bays) (is_empty l.chain) (more_masters l) l (first-spots (less added_bytes) l.bays) refl

resize-spots : (h a : ℕ) (d : List ℕ) (l : Layout) → fixed_spots (resize_in h a d l) ≡ fixed_spots l
resize-spots h a d l =
    either (λ (k : Layout). fixed_spots k ≡ fixed_spots l) (leb (a - length d) (own_sum entries_of sum_of h l)) (change (by_handle h) (sized a) l)
    (enter (reloc_header + a) (item h (sized a d)) (map_s (on_entries (without (is h))) l))
    (map-spots _ l) (lowest-spots _ _ (map_s (on_entries (without (is h))) l) ∙ map-spots _ l)

-- ---- what adds or takes one

same : {x : Spot} {a b : List Spot} → a ≡ b → Has x b → Has x a
same {x = x} e h = subst (Has x) (sym e) h

high-has : (f : Bay → Bay) (e : Bay) (n end : ℕ) (l : Layout) {x : Spot} → Has x (fixed_spots l) → Has x (fixed_spots (cut_high sum_of f e n end l).1)
high-has f e n end (more b y l) first =
    either (λ (r : Fixed × Layout). Has (spot y.place (fsize y)) (fixed_spots r.1)) (leb n (max_s sum_of l)) ((cut_high sum_of f e n end l).0, more b y (cut_high sum_of f e n end l).1)
    (new_fixed n y.place, more (f b) (new_fixed n y.place) (more e y l)) first (later first)
high-has f e n end (more b y l) {x} (later h) =
    either (λ (r : Fixed × Layout). Has x (fixed_spots r.1)) (leb n (max_s sum_of l)) ((cut_high sum_of f e n end l).0, more b y (cut_high sum_of f e n end l).1)
    (new_fixed n y.place, more (f b) (new_fixed n y.place) (more e y l)) (later (high-has f e n end l h)) (later (later h))
high-has f e n end (last _) h = elim h [ ]

-- the bays beside a freed block are one
joined-has : {x : Spot} (j : Bay → ℕ → Bay → Bay) (b : Bay) (y : Fixed) (l : Layout) → Has x (fixed_spots l) → Has x (fixed_spots (join_over j b y l))
joined-has j b y (more c z l) h = h
joined-has j b y (last _) h = elim h [ ]

-- another fixed block is freed
strike-has : (j : Bay → ℕ → Bay → Bay) (p : ℕ) (l : Layout) {x : Spot} → (p ≡ x.place + fixed_header → ⊥) → Has x (fixed_spots l) → Has x (fixed_spots (join_at j p l))
strike-has j p (more b y l) ne first = go (eqb p (pointer y)) refl
  where
    go : (t : Bool) → eqb p (pointer y) ≡ t → Has (spot y.place (fsize y)) (fixed_spots (cond t (join_over j b y l) (more b y (join_at j p l))))
    go true e = absurd (ne (eqb-true p (pointer y) e))
    go false e = first
strike-has j p (more b y l) {x} ne (later h) = go (eqb p (pointer y)) (strike-has j p l ne h)
  where
    go : (t : Bool) → Has x (fixed_spots (join_at j p l)) → Has x (fixed_spots (cond t (join_over j b y l) (more b y (join_at j p l))))
    go true k = joined-has j b y l h
    go false k = later k
strike-has j p (last _) ne h = elim h [ ]

-- ---- pages

page-spots : (n : ℕ) (p : PageCall) (l : Ledger) → fixed_spots (page_work n p l).next.bays ≡ fixed_spots l.bays
page-spots n (create_page c) l = lowest-spots _ _ (make_room (page_need c) l).bays ∙ map-spots _ l.bays
page-spots n use_page l = map-spots _ l.bays
page-spots n (mark_page m) l = map-spots _ l.bays
page-spots n drop_page l = map-spots _ l.bays

-- ---- each call that nothing refuses

work-has : {x : Spot} (c : Call) (l : Ledger) → (c ≡ free_pointer (x.place + fixed_header) → ⊥) → Has x (fixed_spots l.bays) → Has x (fixed_spots (work c l).next.bays)
work-has (allocate_relocatable c) l ne h = same (lowest-spots _ _ (with_master l).bays ∙ with-spots l) h
work-has (allocate_fixed c) l ne h = high-has _ _ (fixed_need c) l.len l.bays h
work-has (free_handle g) l ne h = same (map-spots _ l.bays) h
work-has (free_pointer p) l ne h = strike-has (λ (x : Bay) (y : ℕ) (z : Bay). bay (x.capacity + y + z.capacity) (x.entries ++ z.entries)) p l.bays (λ e. ne (ap free_pointer e)) h
work-has (resize g c) l ne h = same (resize-spots g (up4 c) (data_of entries_of (by_handle g) l) l.bays) h
work-has (size t) l ne h = h
work-has (read t i n second) l ne h = h
work-has (write t i n second) l ne h = same (change-spots t (λ (w : List ℕ). sets w i (take n second)) (λ w. length-sets w i (take n second)) l.bays) h
work-has (view t i n) l ne h = h
work-has compact l ne h = h
work-has sums l ne h = h
work-has check l ne h = h
work-has length_of l ne h = h
work-has (enlarge k) l ne h = same (last-spots (λ (b : Bay). bay (b.capacity + k) b.entries) l.bays) h
work-has (shrink k) l ne h = same (last-spots _ l.bays) h
work-has (roster second) l ne h = h
work-has (on_page n p) l ne h = same (page-spots n p l) h

-- and each call
pub step-has : {x : Spot} (c : Call) (l : Ledger) → (c ≡ free_pointer (x.place + fixed_header) → ⊥) → Has x (fixed_spots l.bays) → Has x (fixed_spots (step c l).next.bays)
step-has {x} c l ne h = go (refusal_of c (facts l))
  where
    go : (n : ℕ) → Has x (fixed_spots (step_with n c l).next.bays)
    go zero = work-has c l ne h
    go (suc n) = rw (eqb-suc-zero n) h
