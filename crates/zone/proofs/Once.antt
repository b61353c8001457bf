-- A handle that stands at most once in a bay: what is found of it, and the bay's sum when its block is freed.
use mathlib.Core.Path.{◌≡◌, refl, ap}
use mathlib.Core.Bool.{Bool, true, false, cond}
use mathlib.Core.List.{List, [], ◌∷◌}
use mathlib.Core.Option.{Option, none, some}
use Prim.Native.Nat.{ℕ, suc, ◌+◌, ◌≤◌}
use native.Mathlib.Omega.{arith}
use Rattle.kinds.specs.Kinds.{Item, item, item_size, is}
use Rattle.kinds.proofs.KindLaws.{is-item}
use Rattle.calls.specs.State.{total, get, Fixed}
use Rattle.calls.specs.Bays.{Bays, find_s}
use Rattle.bay.specs.Bay.{Cell, bay_sum, items, release}
use Rattle.bay.specs.Counted.{remove, count}
use Rattle.bay.proofs.Laws.{bsize-split, release-size, release-items}

-- the block that passes a test among the bays, and that of a handle
abbrev pub block_by : (Item → Bool) → Bays (List Cell) Fixed → Option Item
block_by ok s = find_s (λ (b : List Cell). get ok (items b)) s

abbrev pub block_of : ℕ → Bays (List Cell) Fixed → Option Item
block_of h s = block_by (is h) s

-- what is found has the handle
pub data Named (h : ℕ) : Option Item → Type 0 where
  unnamed : Named h none
  named : {d : List ℕ} → Named h (some (item h d))

pub get-named : (h : ℕ) (es : List Item) → Named h (get (is h) es)
get-named h [] = unnamed
get-named h (e ∷ es) = go (is h e) refl (get-named h es)
  where
    go : (t : Bool) → is h e ≡ t → Named h (get (is h) es) → Named h (cond t (some e) (get (is h) es))
    go true q k = rw (is-item h e q) named
    go false q k = k

-- how often it stands there, by what is found, and what its block takes
abbrev pub often : Option Item → ℕ
often none = 0
often (some e) = 1

abbrev pub taken : Option Item → ℕ
taken none = 0
taken (some e) = item_size e

pub count-get : (ok : Item → Bool) (es : List Item) → count ok es ≤ 1 → count ok es ≡ often (get ok es)
count-get ok [] n = refl
count-get ok (e ∷ es) n = go (ok e) (λ k. count-get ok es k) n
  where
    go : (t : Bool) → (count ok es ≤ 1 → count ok es ≡ often (get ok es)) → cond t (suc (count ok es)) (count ok es) ≤ 1
        → cond t (suc (count ok es)) (count ok es) ≡ often (cond t (some e) (get ok es))
    go true f n = omega arith
    go false f n = f n

total-absent : (ok : Item → Bool) (es : List Item) → count ok es ≡ 0 → total (remove ok es) ≡ total es
total-absent ok [] n = refl
total-absent ok (e ∷ es) n = go (ok e) (λ k. total-absent ok es k) n
  where
    go : (t : Bool) → (count ok es ≡ 0 → total (remove ok es) ≡ total es) → cond t (suc (count ok es)) (count ok es) ≡ 0
        → total (cond t (remove ok es) (e ∷ remove ok es)) ≡ item_size e + total es
    go true f n = absurd (omega arith)
    go false f n = ap (item_size e +◌) (f n)

total-remove : (ok : Item → Bool) (es : List Item) → count ok es ≤ 1 → total (remove ok es) + taken (get ok es) ≡ total es
total-remove ok [] n = refl
total-remove ok (e ∷ es) n = go (ok e) (λ k. total-remove ok es k) n
  where
    go : (t : Bool) → (count ok es ≤ 1 → total (remove ok es) + taken (get ok es) ≡ total es) → cond t (suc (count ok es)) (count ok es) ≤ 1
        → total (cond t (remove ok es) (e ∷ remove ok es)) + taken (cond t (some e) (get ok es)) ≡ item_size e + total es
    go true f n = omega (arith, total-absent ok es (omega arith))
    go false f n = omega (arith, f n)

-- the sum of a bay whose block of handle h is freed
pub sum-absent : (ok : Item → Bool) (b : List Cell) → count ok (items b) ≡ 0 → bay_sum (release ok b) ≡ bay_sum b
sum-absent ok b n = omega (arith, bsize-split b, bsize-split (release ok b), release-size ok b, ap total (release-items ok b), total-absent ok (items b) n)

pub sum-released : (ok : Item → Bool) (b : List Cell) → count ok (items b) ≤ 1 → bay_sum (release ok b) ≡ bay_sum b + taken (get ok (items b))
sum-released ok b n = omega (arith, bsize-split b, bsize-split (release ok b), release-size ok b, ap total (release-items ok b), total-remove ok (items b) n)
