-- A name that a walk meets, or does not meet, as the table asks for it: 13, and the numbers of a create.
use mathlib.Core.Path.{◌≡◌, refl, ap, sym, ◌∙◌}
use mathlib.Core.Bool.{Bool, true, false}
use mathlib.Core.Option.{Option, none, some}
use mathlib.Core.List.{List, [], ◌∷◌}
use Prim.Native.Nat.{ℕ, zero, suc, ◌≤◌}
use native.Mathlib.Omega.{arith}
use lib.ListN.{length}
use Rattle.format.specs.Occurs.{occurs}
use Rattle.format.proofs.Count.{one-other}
use Rattle.kinds.specs.Kinds.{Item, has_name}
use Rattle.calls.specs.Calls.{PageCall, Answer, by_name, on_page, refused}
use Rattle.calls.specs.Bays.{over, concat_s}
use Rattle.calls.specs.State.{get, content}
use Rattle.calls.specs.Counted.{count}
use Rattle.calls.specs.Table.{is_none, refusal_of, refusal_value}
use Rattle.bay.specs.Bay.{Cell, items}
use Rattle.bay.proofs.Each.{Each, just}
use Rattle.zone.specs.Work.{Zone, facts, work}
use Rattle.zone.specs.Call.{Result}
use Rattle.zone.specs.Promise.{Promise}
use Rattle.zone.specs.Claim.{PageCard, pages_in}
use Rattle.zone.specs.PageSays.{Meets, met, further, Absent}
use Rattle.zone.proofs.HowMany.{many, get-count}
use Rattle.zone.proofs.Sums.{find-sum}
use Rattle.zone.proofs.Dropping.{page_of, absent-many, many-flat}
use Rattle.zone.proofs.Keep.{Whole}
use Rattle.zone.proofs.Run.{Stored, call-worked, call-refused}
use Rattle.zone.proofs.PagesMet.{pages-walk, cards-few}
use Rattle.zone.proofs.PageNext.{names, met-occurs}

-- ---- a name in a zone

module _ (n : ℕ) (z : Zone) where
  pub named-many : 1 ≤ many (has_name n) z.bays → is_none (over length (content items (by_name n) z.bays)) ≡ false
  named-many l = go (is_none (over length (content items (by_name n) z.bays))) refl
    where
      go : (t : Bool) → is_none (over length (content items (by_name n) z.bays)) ≡ t → t ≡ false
      go true q = absurd (omega (arith, absent-many n z q))
      go false q = refl

  pub none-many : many (has_name n) z.bays ≡ 0 → is_none (over length (content items (by_name n) z.bays)) ≡ true
  none-many e = go (page_of n z) (find-sum (λ (b : List Cell). get (has_name n) (items b)) (λ (b : List Cell). count (has_name n) (items b)) (λ b. get-count (has_name n) (items b)) z.bays)
    where
      go : (o : Option Item) → Each (λ (i : Item). 1 ≤ many (has_name n) z.bays) o → is_none (over length (over (λ (i : Item). i.bytes) o)) ≡ true
      go none k = refl
      go (some i) (just k) = absurd (omega arith)

-- ---- a name in a buffer

absent-occurs : (n : ℕ) (l : List PageCard) → ((x : PageCard) → Meets x l → x.name ≡ n → ⊥) → occurs n (names l) ≡ 0
unfolding occurs
absent-occurs n [] f = refl
absent-occurs n (x ∷ l) f = omega (arith, one-other n x.name (λ q. f x met (sym q)), absent-occurs n l (λ y m q. f y (further m) q))

module _ (bs : List ℕ) (z : Zone) (w : Whole z) (s : Stored bs z) where
  name-count : (n : ℕ) → occurs n (names (pages_in bs)) ≡ many (has_name n) z.bays
  name-count n = ap (λ (l : List PageCard). occurs n (names l)) (pages-walk bs z w s) ∙ cards-few n (concat_s items z.bays) ∙ sym (many-flat (has_name n) items z.bays)

  pub absent-zone : (n : ℕ) → Absent n bs → many (has_name n) z.bays ≡ 0
  absent-zone n f = sym (name-count n) ∙ absent-occurs n (pages_in bs) f

  pub met-many : {x : PageCard} → Meets x (pages_in bs) → 1 ≤ many (has_name x.name) z.bays
  met-many {x} m = omega (arith, name-count x.name, met-occurs m)

  -- ---- what a call on a page is told

  pub told-number : (n : ℕ) (p : PageCall) (after : List ℕ) (a : Answer) → Promise (on_page n p) bs a after → (work (on_page n p) z).answer.number ≡ 0 → a.number ≡ refusal_of (on_page n p) (facts true z)
  told-number n p after a k o = go (refusal_of (on_page n p) (facts true z)) refl
    where
      go : (j : ℕ) → refusal_of (on_page n p) (facts true z) ≡ j → a.number ≡ j
      go zero e = ap (λ (r : Result). r.answer.number) (k ∙ call-worked bs z w s (on_page n p) e) ∙ o
      go (suc j) e = ap (λ (r : Result). r.answer.number) (k ∙ call-refused bs z w s (on_page n p) j e)

  pub told-refused : (n : ℕ) (p : PageCall) (j : ℕ) (after : List ℕ) (a : Answer) → Promise (on_page n p) bs a after → refusal_of (on_page n p) (facts true z) ≡ suc j
      → (a ≡ refused (on_page n p) (suc j) (refusal_value (suc j) (on_page n p) (facts true z))) × (after ≡ bs)
  told-refused n p j after a k e = let q = k ∙ call-refused bs z w s (on_page n p) j e in (ap (λ (r : Result). r.answer) q, ap (λ (r : Result). r.bytes) q)
