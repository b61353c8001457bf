-- Items in another order: their total, how many there are, searches among them.
use mathlib.Core.Path.{◌≡◌, refl, ap, ap₂, ◌∙◌}
use mathlib.Core.Bool.{Bool, true, false, cond}
use mathlib.Core.Option.{some}
use mathlib.Core.List.Permᴰ
use mathlib.Core.List.{List, ◌∷◌, map, Permᴰ}
use Prim.Native.Nat.{ℕ, suc, ◌+◌, ◌≤◌}
use native.Mathlib.Omega.{arith}
use lib.ListN.{length, length-append, length-map}
use Rattle.calls.specs.Pages.{freed}
use Rattle.kinds.specs.Kinds.{Item, item_size, masters_of}
use Rattle.calls.specs.State.{total, get, card, listed}
use Rattle.bay.specs.Counted.{remove, count}

pub perm-total : {a b : List Item} → Permᴰ a b → total a ≡ total b
perm-total Permᴰ.nil = refl
perm-total (Permᴰ.cons e p) = ap₂ ◌+◌ (ap item_size e) (perm-total p)
perm-total (Permᴰ.swap e f) = omega (arith, ap item_size e, ap item_size f)
perm-total (Permᴰ.trans p q) = perm-total p ∙ perm-total q

pub perm-map : {X Y : Type 0} (f : X → Y) {a b : List X} → Permᴰ a b → Permᴰ (map f a) (map f b)
perm-map f Permᴰ.nil = Permᴰ.nil
perm-map f (Permᴰ.cons e p) = Permᴰ.cons (ap f e) (perm-map f p)
perm-map f (Permᴰ.swap e q) = Permᴰ.swap (ap f e) (ap f q)
perm-map f (Permᴰ.trans p q) = Permᴰ.trans (perm-map f p) (perm-map f q)

pub cond-perm : (t : Bool) {a b a' b' : List Item} → Permᴰ a b → Permᴰ a' b' → Permᴰ (cond t a a') (cond t b b')
cond-perm true p q = p
cond-perm false p q = q

remove-swap : (t u : Bool) (x y : Item) (l : List Item) → Permᴰ (cond t (cond u l (y ∷ l)) (x ∷ cond u l (y ∷ l))) (cond u (cond t l (x ∷ l)) (y ∷ cond t l (x ∷ l)))
remove-swap true true x y l = Permᴰ.refl _
remove-swap true false x y l = Permᴰ.refl _
remove-swap false true x y l = Permᴰ.refl _
remove-swap false false x y l = Permᴰ.swap refl refl

pub perm-remove : (ok : Item → Bool) {a b : List Item} → Permᴰ a b → Permᴰ (remove ok a) (remove ok b)
perm-remove ok Permᴰ.nil = Permᴰ.nil
perm-remove ok (Permᴰ.cons {a = x} e p) = rw (← e) (cond-perm (ok x) (perm-remove ok p) (Permᴰ.cons refl (perm-remove ok p)))
perm-remove ok (Permᴰ.swap {a = x} {b = y} {l = l} e q) = rw (← e, ← q) (remove-swap (ok x) (ok y) x y (remove ok l))
perm-remove ok (Permᴰ.trans p q) = Permᴰ.trans (perm-remove ok p) (perm-remove ok q)

pub perm-count : (ok : Item → Bool) {a b : List Item} → Permᴰ a b → count ok a ≡ count ok b
perm-count ok Permᴰ.nil = refl
perm-count ok (Permᴰ.cons {a = x} e p) = rw (← e, perm-count ok p)
perm-count ok (Permᴰ.swap {a = x} {b = y} {l = l} e q) = rw (← e, ← q) (both (ok x) (ok y) (count ok l))
  where
    both : (t u : Bool) (n : ℕ) → cond t (suc (cond u (suc n) n)) (cond u (suc n) n) ≡ cond u (suc (cond t (suc n) n)) (cond t (suc n) n)
    both true true n = refl
    both true false n = refl
    both false true n = refl
    both false false n = refl
perm-count ok (Permᴰ.trans p q) = perm-count ok p ∙ perm-count ok q

-- how many live handles
pub listed-held : (e : Item) (es : List Item) → length (listed (e ∷ es)) ≡ length (masters_of e) + length (listed es)
listed-held e es = length-append (map (card e) (masters_of e)) (listed es) ∙ ap (◌+ length (listed es)) (length-map (masters_of e) (card e))

many : {d e : Item} → d ≡ e → length (masters_of d) ≡ length (masters_of e)
many q = ap (λ (i : Item). length (masters_of i)) q

pub perm-live : {a b : List Item} → Permᴰ a b → length (listed a) ≡ length (listed b)
perm-live Permᴰ.nil = refl
perm-live (Permᴰ.cons {a = x} {b = y} {l₁ = l} {l₂ = m} e p) = omega (arith, listed-held x l, listed-held y m, many e, perm-live p)
perm-live (Permᴰ.swap {a = w} {b = x} {a' = y} {b' = z} {l = l} e q) =
    omega (arith, listed-held w (x ∷ l), listed-held x l, listed-held y (z ∷ l), listed-held z l, many e, many q)
perm-live (Permᴰ.trans p q) = perm-live p ∙ perm-live q

-- where no handle stands twice, order does not matter to a search
pub perm-get : (ok : Item → Bool) {a b : List Item} → Permᴰ a b → count ok a ≤ 1 → get ok a ≡ get ok b
perm-get ok Permᴰ.nil d = refl
perm-get ok (Permᴰ.cons {a = x} {l₁ = l} {l₂ = m} e p) d = rw (← e) (here (ok x) (λ k. perm-get ok p k) d)
  where
    here : (t : Bool) → (count ok l ≤ 1 → get ok l ≡ get ok m) → cond t (suc (count ok l)) (count ok l) ≤ 1 → cond t (some x) (get ok l) ≡ cond t (some x) (get ok m)
    here true f d = refl
    here false f d = f d
perm-get ok (Permᴰ.swap {a = x} {b = y} {l = l} e q) d = rw (← e, ← q) (both (ok x) (ok y) d)
  where
    both : (t u : Bool) → cond t (suc (cond u (suc (count ok l)) (count ok l))) (cond u (suc (count ok l)) (count ok l)) ≤ 1
        → cond t (some x) (cond u (some y) (get ok l)) ≡ cond u (some y) (cond t (some x) (get ok l))
    both true true d = absurd (omega arith)
    both true false d = refl
    both false true d = refl
    both false false d = refl
perm-get ok (Permᴰ.trans p q) d = perm-get ok p d ∙ perm-get ok q (rw (perm-count ok p) at d)

pub perm-freed : (ok : Item → Bool) {a b : List Item} → Permᴰ a b → freed ok a ≡ freed ok b
perm-freed ok Permᴰ.nil = refl
perm-freed ok (Permᴰ.cons {a = x} e p) = rw (← e, perm-freed ok p)
perm-freed ok (Permᴰ.swap {a = x} {b = y} {l = l} e q) = rw (← e, ← q) (both (ok x) (ok y))
  where
    both : (t u : Bool) → cond t (item_size x + cond u (item_size y + freed ok l) (freed ok l)) (cond u (item_size y + freed ok l) (freed ok l))
        ≡ cond u (item_size y + cond t (item_size x + freed ok l) (freed ok l)) (cond t (item_size x + freed ok l) (freed ok l))
    both true true = omega arith
    both true false = refl
    both false true = refl
    both false false = refl
perm-freed ok (Permᴰ.trans p q) = perm-freed ok p ∙ perm-freed ok q
