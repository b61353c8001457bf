-- A roster's records sorted by handle: they do not fall, and they are the same records.
use mathlib.Core.Path.{◌≡◌, refl, ap, ◌∙◌}
use mathlib.Core.Bool.{Bool, true, false, cond}
use mathlib.Core.List.{List, [], ◌∷◌, Permᴰ}
use Prim.Native.Nat.{ℕ, suc, ◌≤◌}
use native.Mathlib.Omega.{arith}
use lib.ListN.{length}
use lib.Dec.{leb}
use borrow.Author.Tests.{leb-true, leb-false}
use Rattle.calls.specs.Roster.{Card}
use Rattle.calls.specs.Sort.{insert_by}
use Rattle.calls.proofs.Sort.{sort-same}
use Rattle.ledger.specs.Ledger.{sorted_by_handle}

-- a record put before the first one whose handle is not smaller
abbrev pub insert : Card → List Card → List Card
insert c cs = insert_by (λ (c d : Card). leb c.handle d.handle) c cs

-- handles from k on that do not fall
pub data NotFalling : ℕ → List Card → Type 0 where
  no_record : {k : ℕ} → NotFalling k []
  one_more : {k : ℕ} {c : Card} {cs : List Card} → k ≤ c.handle → NotFalling c.handle cs → NotFalling k (c ∷ cs)

insert-order : (c : Card) {k : ℕ} {cs : List Card} → k ≤ c.handle → NotFalling k cs → NotFalling k (insert c cs)
insert-order c l no_record = one_more l no_record
insert-order c {k} l (one_more {c = d} {cs = cs} m r) = go (leb c.handle d.handle) refl (λ q. insert-order c q r)
  where
    go : (t : Bool) → leb c.handle d.handle ≡ t → (d.handle ≤ c.handle → NotFalling d.handle (insert c cs)) → NotFalling k (cond t (c ∷ (d ∷ cs)) (d ∷ insert c cs))
    go true q i = one_more l (one_more (leb-true _ _ q) r)
    go false q i = one_more m (i (let x = leb-false c.handle d.handle q in omega arith))

pub sorted-order : (cs : List Card) → NotFalling 0 (sorted_by_handle cs)
sorted-order [] = no_record
sorted-order (c ∷ cs) = insert-order c (omega arith) (sorted-order cs)

pub sorted-same : (cs : List Card) → Permᴰ (sorted_by_handle cs) cs
sorted-same cs = sort-same (λ (c d : Card). leb c.handle d.handle) cs

-- as many as before
perm-length : {a b : List Card} → Permᴰ a b → length a ≡ length b
perm-length Permᴰ.nil = refl
perm-length (Permᴰ.cons e p) = ap suc (perm-length p)
perm-length (Permᴰ.swap e q) = refl
perm-length (Permᴰ.trans p q) = perm-length p ∙ perm-length q

pub sorted-long : (cs : List Card) → length (sorted_by_handle cs) ≡ length cs
sorted-long cs = perm-length (sorted-same cs)
