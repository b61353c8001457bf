-- The table picks by its order, of any zone and any ledger; and a refused call leaves a second buffer.
use mathlib.Core.Path.{◌≡◌, refl}
use mathlib.Core.Bool.{Bool, true, false, cond, ◌&&◌, ◌||◌, not}
use mathlib.Core.List.{List, [], ◌∷◌}
use mathlib.Core.Option.{Option, none}
use Prim.Native.Nat.{ℕ, ◌+◌, ◌<◌, ◌≤◌}
use lib.Dec.{leb}
use borrow.Author.Tests.{le-leb, lt-leb}
use Rattle.block_type.specs.Limits.{reloc_limit, page_limit, page_need, up4, reloc_need, most_masters, added_masters, added_bytes}
use Rattle.calls.specs.Calls.{Target, by_handle, by_name, create_page, on_page, allocate_relocatable, resize, read, write, roster, refused}
use Rattle.calls.specs.LentLimits.{lent_ok}
use Rattle.calls.specs.Table.{Facts, cause, is_none, first, order, no_bay_to_resize, refusal_of, census_refusal}

-- a resize of a handle that is not live gives 6, whatever else is wrong with it
pub six-first : (h c : ℕ) (f : Facts) → f.well ≡ true → f.size (by_handle h) ≡ none → refusal_of (resize h c) f ≡ 6
six-first h c f w e = go f.well (leb c reloc_limit) (no_bay_to_resize h (up4 c) f).holds (f.size (by_handle h)) w e
  where
    go : (v t u : Bool) (o : Option ℕ) → v ≡ true → o ≡ none → first order (cause 1 (not v) ∷ cause 3 (not t) ∷ cause 5 u ∷ cause 6 (is_none o) ∷ []) ≡ 6
    go v t u o w e = rw (w, e) refl

pub read_left : (t : Target) (i n k v : ℕ) (second : List ℕ) → (refused (read t i n second) k v).bytes ≡ second
read_left t i n k v second = refl

pub write-left : (t : Target) (i n k v : ℕ) (second : List ℕ) → (refused (write t i n second) k v).bytes ≡ second
write-left t i n k v second = refl

pub roster-left : (k v : ℕ) (second : List ℕ) → (refused (roster second) k v).bytes ≡ second
roster-left k v second = refl

-- ---- the number of a relocatable allocation of c bytes

-- c is too large, whatever else is wrong
pub large-number : (c : ℕ) (f : Facts) → f.well ≡ true → reloc_limit < c → refusal_of (allocate_relocatable c) f ≡ 3
large-number c f w l = rw (w, lt-leb c reloc_limit l) refl

-- a handle is free: the largest sum decides
pub free-number : (c h : ℕ) (hs : List ℕ) (f : Facts) → f.well ≡ true → f.chain ≡ h ∷ hs → c ≤ reloc_limit → refusal_of (allocate_relocatable c) f ≡ cond (leb (reloc_need c) f.largest) 0 5
free-number c h hs f w g l = rw (w, g, le-leb c reloc_limit l) (go (leb (reloc_need c) f.largest))
  where
    go : (t : Bool) → first order (cause 1 false ∷ cause 3 false ∷ cause 4 false ∷ cause 5 (not t) ∷ []) ≡ cond t 0 5
    go true = refl
    go false = refl

-- no handle is free: by m, the first bay's sum, and the largest sum after the bytes of more masters are taken
abbrev pub empty_number : ℕ → ℕ → ℕ → ℕ → ℕ
empty_number c m n k = cond (leb (m + added_masters) most_masters && leb added_bytes n) (cond (leb (reloc_need c) k) 0 5) 4

pub empty-number : (c : ℕ) (f : Facts) → f.well ≡ true → f.chain ≡ [] → c ≤ reloc_limit → refusal_of (allocate_relocatable c) f ≡ empty_number c f.masters f.first_sum f.largest_after
empty-number c f w g l =
    rw (w, g, le-leb c reloc_limit l) (go (leb (f.masters + added_masters) most_masters) (leb added_bytes f.first_sum) (leb (reloc_need c) f.largest_after))
  where
    go : (t u v : Bool) → first order (cause 1 false ∷ cause 3 false ∷ cause 4 (not t || not u) ∷ cause 5 (not v) ∷ []) ≡ cond (t && u) (cond v 0 5) 4
    go true true true = refl
    go true true false = refl
    go true false v = refl
    go false u v = refl

-- ---- the number of a census: by whether the zone is well-formed, and what is lent within the rules

pub census-number : (f : Facts) (lent : List ℕ) → census_refusal f lent ≡ cond f.well (cond (lent_ok lent) 0 14) 1
census-number f lent = go f.well (lent_ok lent)
  where
    go : (w l : Bool) → first order (cause 1 (not w) ∷ cause 14 (not l) ∷ []) ≡ cond w (cond l 0 14) 1
    go true true = refl
    go true false = refl
    go false l = refl

-- ---- the order

pub the-order : order ≡ 1 ∷ 14 ∷ 2 ∷ 6 ∷ 13 ∷ 7 ∷ 11 ∷ 3 ∷ 4 ∷ 5 ∷ 12 ∷ 8 ∷ 9 ∷ 10 ∷ []
the-order = refl

-- ---- the number of a create: by whether the name is absent, c within the limit, all unlocked pages enough, and no dirty page met

abbrev pub create_number : Bool → Bool → Bool → Bool → ℕ
create_number a l e s = cond a (cond l (cond e (cond s 0 12) 5) 3) 11

pub create-number : (n c : ℕ) (f : Facts) → f.well ≡ true
    → refusal_of (on_page n (create_page c)) f ≡ create_number (is_none (f.size (by_name n))) (leb c page_limit) (leb (page_need c) f.largest_emptied) (is_none (f.stop (page_need c)))
create-number n c f w = rw w (go (is_none (f.size (by_name n))) (leb c page_limit) (leb (page_need c) f.largest_emptied) (is_none (f.stop (page_need c))))
  where
    go : (a l e s : Bool) → first order (cause 1 false ∷ cause 11 (not a) ∷ cause 3 (not l) ∷ cause 5 (not e) ∷ cause 12 (not s) ∷ []) ≡ create_number a l e s
    go true true true true = refl
    go true true true false = refl
    go true true false s = refl
    go true false e s = refl
    go false l e s = refl

-- of a call that asks for a page alone
pub there-number : (t : Bool) → t ≡ false → first order (cause 1 false ∷ cause 13 t ∷ []) ≡ 0
there-number t q = rw q refl

pub absent-number : (t : Bool) → t ≡ true → first order (cause 1 false ∷ cause 13 t ∷ []) ≡ 13
absent-number t q = rw q refl

-- where there is none, whatever else is wrong with a stretch
pub read-absent : (n i k : ℕ) (second : List ℕ) (f : Facts) → f.well ≡ true → is_none (f.size (by_name n)) ≡ true → refusal_of (read (by_name n) i k second) f ≡ 13
read-absent n i k second f w q = rw (w, q) refl

pub write-absent : (n i k : ℕ) (second : List ℕ) (f : Facts) → f.well ≡ true → is_none (f.size (by_name n)) ≡ true → refusal_of (write (by_name n) i k second) f ≡ 13
write-absent n i k second f w q = rw (w, q) refl
