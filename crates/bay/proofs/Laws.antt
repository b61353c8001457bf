-- What each call does to a bay: its size, and its items up to order.
use mathlib.Core.Path.{◌≡◌, refl, ap, ap₂, ◌∙◌}
use mathlib.Core.Bool.{Bool}
use mathlib.Core.List.{List, [], ◌∷◌, ◌++◌, map, append-nil, Permᴰ}
use Prim.Native.Nat.{ℕ, zero, suc, ◌+◌, ◌-◌, ◌<◌, ◌≤◌}
use native.Mathlib.Omega.{arith}
use lib.Dec.{leb}
use borrow.Author.Tests.{leb-true}
use Rattle.kinds.specs.Kinds.{Item, item_size}
use Rattle.calls.specs.State.{total, alter}
use Rattle.bay.specs.Bay.{Cell, free, held, bay_size, bay_sum, items, gap, packed, join_bays, compact_bay, packed_less, trim, take_high, release, edit}
use Rattle.bay.specs.Counted.{remove}
use Rattle.bay.proofs.Each.{Each, nothing, just, each_over, each-cond, each-get_d, cond-ap, cond-one}

pub bsize-split : (cs : List Cell) → bay_size cs ≡ bay_sum cs + total (items cs)
bsize-split [] = refl
bsize-split (free n ∷ cs) = omega (arith, bsize-split cs)
bsize-split (held e ∷ cs) = omega (arith, bsize-split cs)

pub bsize-gap : (n : ℕ) (cs : List Cell) → bay_size (gap n cs) ≡ n + bay_size cs
bsize-gap zero cs = omega arith
bsize-gap (suc n) [] = refl
bsize-gap (suc n) (free k ∷ cs) = omega arith
bsize-gap (suc n) (held e ∷ cs) = refl

pub gap-one : (n : ℕ) → 0 < n → gap n [] ≡ free n ∷ []
gap-one zero l = absurd (omega arith)
gap-one (suc n) l = refl

pub items-gap : (n : ℕ) (cs : List Cell) → items (gap n cs) ≡ items cs
items-gap zero cs = refl
items-gap (suc n) [] = refl
items-gap (suc n) (free k ∷ cs) = refl
items-gap (suc n) (held e ∷ cs) = refl

pub bsize-packed : (es : List Item) (t : List Cell) → bay_size (packed es t) ≡ total es + bay_size t
bsize-packed [] t = omega arith
bsize-packed (e ∷ es) t = omega (arith, bsize-packed es t)

pub items-packed : (es : List Item) (t : List Cell) → items (packed es t) ≡ es ++ items t
items-packed [] t = refl
items-packed (e ∷ es) t = ap (e ∷◌) (items-packed es t)

pub bsize-weld : (cs t : List Cell) → bay_size (join_bays cs t) ≡ bay_size cs + bay_size t
bsize-weld [] t = omega arith
bsize-weld (free n ∷ cs) t = omega (arith, bsize-gap n (join_bays cs t), bsize-weld cs t)
bsize-weld (held e ∷ cs) t = omega (arith, bsize-weld cs t)

pub items-weld : (cs t : List Cell) → items (join_bays cs t) ≡ items cs ++ items t
items-weld [] t = refl
items-weld (free n ∷ cs) t = items-gap n (join_bays cs t) ∙ items-weld cs t
items-weld (held e ∷ cs) t = ap (e ∷◌) (items-weld cs t)

pub bsum-gap : (n : ℕ) (cs : List Cell) → bay_sum (gap n cs) ≡ n + bay_sum cs
bsum-gap zero cs = omega arith
bsum-gap (suc n) [] = refl
bsum-gap (suc n) (free k ∷ cs) = omega arith
bsum-gap (suc n) (held e ∷ cs) = refl

pub bsum-packed : (es : List Item) (t : List Cell) → bay_sum (packed es t) ≡ bay_sum t
bsum-packed [] t = refl
bsum-packed (e ∷ es) t = bsum-packed es t

pub bsum-weld : (b t : List Cell) → bay_sum (join_bays b t) ≡ bay_sum b + bay_sum t
bsum-weld [] t = omega arith
bsum-weld (free n ∷ b) t = omega (arith, bsum-gap n (join_bays b t), bsum-weld b t)
bsum-weld (held e ∷ b) t = bsum-weld b t

pub bsize-append : (a b : List Cell) → bay_size (a ++ b) ≡ bay_size a + bay_size b
bsize-append [] b = omega arith
bsize-append (c ∷ a) b = omega (arith, bsize-append a b)

pub bsum-append : (a b : List Cell) → bay_sum (a ++ b) ≡ bay_sum a + bay_sum b
bsum-append [] b = omega arith
bsum-append (free n ∷ a) b = omega (arith, bsum-append a b)
bsum-append (held e ∷ a) b = bsum-append a b

pub items-append : (a b : List Cell) → items (a ++ b) ≡ items a ++ items b
items-append [] b = refl
items-append (free n ∷ a) b = items-append a b
items-append (held e ∷ a) b = ap (e ∷◌) (items-append a b)

-- the bay keeps its size, and its items are those of the list es, up to order
pub record Keeps (n : ℕ) (es : List Item) (cs : List Cell) : Type 0 where
  pub size : bay_size cs ≡ n
  pub perm : Permᴰ (items cs) es

pub tidy-size : (cs : List Cell) → bay_size (compact_bay cs) ≡ bay_size cs
tidy-size cs = omega (arith, bsize-packed (items cs) (gap (bay_sum cs) []), bsize-gap (bay_sum cs) [], bsize-split cs)

pub tidy-items : (cs : List Cell) → items (compact_bay cs) ≡ items cs
tidy-items cs = simp (items-packed, items-gap, append-nil)

-- the same with n free bytes less
pub less-items : (n : ℕ) (cs : List Cell) → items (packed_less n cs) ≡ items cs
less-items n cs = simp (items-packed, items-gap, append-nil)

pub less-sum : (n : ℕ) (cs : List Cell) → bay_sum (packed_less n cs) ≡ bay_sum cs - n
less-sum n cs = bsum-packed (items cs) (gap (bay_sum cs - n) []) ∙ bsum-gap (bay_sum cs - n) [] ∙ omega arith

-- n bytes less, and the same items
pub record Less (n : ℕ) (cs ds : List Cell) : Type 0 where
  pub size : bay_size ds + n ≡ bay_size cs
  pub same : items ds ≡ items cs

pub trim-less : (n : ℕ) (cs : List Cell) → Each (Less n cs) (trim n cs)
trim-less n [] = nothing
trim-less n (free k ∷ []) = each-cond (leb n k) (λ h. just (record { size = omega (arith, leb-true n k h, bsize-gap (k - n) []); same = items-gap (k - n) [] })) nothing
trim-less n (free k ∷ (c ∷ cs)) = each_over (free k ∷◌) (λ a p. record { size = omega (arith, p.size); same = p.same }) (trim-less n (c ∷ cs))
trim-less n (held e ∷ cs) = each_over (held e ∷◌) (λ a p. record { size = omega (arith, p.size); same = ap (e ∷◌) p.same }) (trim-less n cs)

-- compacted, with n free bytes less
pub packed-less : (n : ℕ) (cs : List Cell) → n ≤ bay_sum cs → Less n cs (packed_less n cs)
packed-less n cs h = record {
  size = omega (arith, bsize-packed (items cs) (gap (bay_sum cs - n) []), bsize-gap (bay_sum cs - n) [], bsize-split cs);
  same = less-items n cs;
}

pub cut-less : (n : ℕ) (cs : List Cell) → n ≤ bay_sum cs → Less n cs (take_high n cs)
cut-less n cs h = each-get_d (trim-less n cs) (packed-less n cs h)

pub release-size : (ok : Item → Bool) (cs : List Cell) → bay_size (release ok cs) ≡ bay_size cs
release-size ok [] = refl
release-size ok (free n ∷ cs) = bsize-gap n (release ok cs) ∙ ap (n +◌) (release-size ok cs)
release-size ok (held e ∷ cs) = cond-one bay_size (ok e) (bsize-gap (item_size e) (release ok cs) ∙ ap (item_size e +◌) (release-size ok cs)) (ap (item_size e +◌) (release-size ok cs))

pub release-items : (ok : Item → Bool) (cs : List Cell) → items (release ok cs) ≡ remove ok (items cs)
release-items ok [] = refl
release-items ok (free n ∷ cs) = items-gap n (release ok cs) ∙ release-items ok cs
release-items ok (held e ∷ cs) = cond-ap items (ok e) (items-gap (item_size e) (release ok cs) ∙ release-items ok cs) (ap (e ∷◌) (release-items ok cs))

pub edit-items : (ok : Item → Bool) (g : Item → Item) (cs : List Cell) → items (edit ok g cs) ≡ map (alter ok g) (items cs)
edit-items ok g [] = refl
edit-items ok g (free n ∷ cs) = edit-items ok g cs
edit-items ok g (held e ∷ cs) = ap (alter ok g e ∷◌) (edit-items ok g cs)

pub alter-size : (ok : Item → Bool) (g : Item → Item) (e : Item) → ((e : Item) → item_size (g e) ≡ item_size e) → item_size (alter ok g e) ≡ item_size e
alter-size ok g e q = cond-one item_size (ok e) (q e) refl

pub edit-size : (ok : Item → Bool) (g : Item → Item) → ((e : Item) → item_size (g e) ≡ item_size e) → (cs : List Cell) → bay_size (edit ok g cs) ≡ bay_size cs
edit-size ok g q [] = refl
edit-size ok g q (free n ∷ cs) = ap (n +◌) (edit-size ok g q cs)
edit-size ok g q (held e ∷ cs) = ap₂ ◌+◌ (alter-size ok g e q) (edit-size ok g q cs)
