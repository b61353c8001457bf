-- The hole that is chosen is a free block of the bay that is big enough; what a bay is with a new block in it.
use mathlib.Core.Path.{◌≡◌, refl, ap}
use mathlib.Core.Bool.{Bool, true, false, cond}
use mathlib.Core.Option.{Option, some, get_or}
use mathlib.Core.List.Permᴰ
use mathlib.Core.List.{List, [], ◌∷◌, ◌++◌, map, append-nil}
use Prim.Native.Nat.{ℕ, ◌-◌, ◌≤◌}
use native.Mathlib.Omega.{arith}
use lib.Dec.{leb}
use borrow.Author.Tests.{leb-true}
use Rattle.calls.specs.Bays.{over}
use Rattle.kinds.specs.Kinds.{Item, item_size}
use Rattle.bay.specs.Bay.{Cell, free, held, bay_size, bay_sum, items, gap, packed, Hole, behind, holes, as_tight, tighter, choose, fill, put}
use Rattle.bay.proofs.Each.{Each, nothing, just, each-cond}
use Rattle.bay.proofs.Laws.{bsize-split, bsize-gap, bsize-packed, items-gap, items-packed, bsize-append, items-append, Keeps}

-- ---- every hole is a free block of the bay

pub data All {A : Type 0} (P : A → Type 0) : List A → Type 0 where
  a_nil : All P []
  a-cons : {a : A} {l : List A} → P a → All P l → All P (a ∷ l)

pub all_map : {A B : Type 0} {P : A → Type 0} {Q : B → Type 0} (f : A → B) → ((a : A) → P a → Q (f a)) → {l : List A} → All P l → All Q (map f l)
all_map f h a_nil = a_nil
all_map f h (a-cons {a = a} p q) = a-cons (h a p) (all_map f h q)

-- the bay is the hole, with what stands before it and after it
abbrev pub Part : List Cell → Hole → Type 0
Part cs x = cs ≡ x.before ++ (free x.size ∷ x.after)

pub holes-are : (cs : List Cell) → All (Part cs) (holes cs)
holes-are [] = a_nil
holes-are (free n ∷ cs) = a-cons refl (all_map (behind (free n)) (λ x p. ap (free n ∷◌) p) (holes-are cs))
holes-are (held e ∷ cs) = all_map (behind (held e)) (λ x p. ap (held e ∷◌) p) (holes-are cs)

-- ---- the chosen one is one of them, and big enough

each-tighter : {Q : Hole → Type 0} (x : Hole) → Q x → {o : Option Hole} → Each Q o → Each Q (some (tighter x o))
each-tighter x q nothing = just q
each-tighter {Q = Q} x q (just {a = y} r) = just (go (as_tight x y))
  where
    go : (t : Bool) → Q (cond t x y)
    go true = q
    go false = r

pub choose-all : {P : Hole → Type 0} (n : ℕ) {xs : List Hole} → All P xs → Each (λ (x : Hole). P x × (n ≤ x.size)) (choose n xs)
choose-all n a_nil = nothing
choose-all n (a-cons {a = x} p q) = each-cond (leb n x.size) (λ h. each-tighter x (p, leb-true n x.size h) (choose-all n q)) (choose-all n q)

-- ---- a bay with a new block

pub data Put (e : Item) (cs : List Cell) : List Cell → Type 0 where
  in-hole : (x : Hole) → Part cs x → item_size e ≤ x.size → Put e cs (fill e x)
  compacted : Put e cs (packed (items cs) (held e ∷ gap (bay_sum cs - item_size e) []))

pub put_is : (e : Item) (cs : List Cell) → Put e cs (put e cs)
put_is e cs = go (choose-all (item_size e) (holes-are cs))
  where
    go : {o : Option Hole} → Each (λ (x : Hole). Part cs x × (item_size e ≤ x.size)) o → Put e cs (get_or (over (fill e) o) (packed (items cs) (held e ∷ gap (bay_sum cs - item_size e) [])))
    go nothing = compacted
    go (just {a = x} p) = in-hole x p.0 p.1

-- it keeps the size, and has one item more
pub put_keeps : (e : Item) (cs : List Cell) → item_size e ≤ bay_sum cs → Keeps (bay_size cs) (e ∷ items cs) (put e cs)
put_keeps e cs h = go (put_is e cs)
  where
    go : {ds : List Cell} → Put e cs ds → Keeps (bay_size cs) (e ∷ items cs) ds
    go (in-hole x p l) = record {
      size = omega (
        arith,
        ap bay_size p,
        bsize-append x.before (free x.size ∷ x.after),
        bsize-append x.before (held e ∷ gap (x.size - item_size e) x.after),
        bsize-gap (x.size - item_size e) x.after,
      );
      perm = rw (items-append x.before (held e ∷ gap (x.size - item_size e) x.after), items-gap (x.size - item_size e) x.after, ap items p, items-append x.before (free x.size ∷ x.after))
          (Permᴰ.middle e (items x.before) (items x.after));
    }
    go compacted = record {
      size = omega (arith, bsize-packed (items cs) (held e ∷ gap (bay_sum cs - item_size e) []), bsize-gap (bay_sum cs - item_size e) [], bsize-split cs);
      perm = simp (items-packed, items-gap) (rw append-nil at (Permᴰ.middle e (items cs) []));
    }
