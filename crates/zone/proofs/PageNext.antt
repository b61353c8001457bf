-- Who goes next: the page of the first candidate, in the terms of a walk through the buffer.
use mathlib.Core.Path.{◌≡◌, refl, ap, sym, subst}
use mathlib.Core.Bool.{Bool, true, false, cond, ◌&&◌, ◌||◌}
use mathlib.Core.List.{List, [], ◌∷◌, ◌++◌, map, Permᴰ}
use Prim.Native.Nat.{ℕ, ◌+◌, ◌-◌, ◌%◌, ◌≤◌, ◌<◌}
use native.Mathlib.Omega.{arith}
use lib.Dec.{eqb, leb, ltb}
use borrow.Author.Tests.{ltb-true, eqb-true, leb-true}
use Rattle.block_type.specs.Limits.{stamp_range, page_code}
use Rattle.format.specs.Occurs.{occurs}
use Rattle.format.specs.WellFormed.{clock_field, type_of}
use Rattle.format.proofs.Count.{one_same}
use Rattle.format.proofs.Bool.{and_left, and_right}
use Rattle.kinds.specs.Kinds.{Key, of_handle, of_name, Item, has_name}
use Rattle.calls.specs.Sort.{flat}
use Rattle.calls.specs.Bays.{concat_s}
use Rattle.calls.specs.Pages.{Candidate, goes_before, age, key_candidate, candidates, in_turn}
use Rattle.calls.specs.Counted.{count}
use Rattle.bay.specs.Bay.{items}
use Rattle.zone.specs.Work.{Zone}
use Rattle.zone.specs.Claim.{PageCard, card_in, key_card, page_cards, pages_met, pages_in}
use Rattle.zone.specs.PageSays.{Meets, met, further, Age, Before, older, smaller, Next}
use Rattle.zone.proofs.Dropping.{many-flat}
use Rattle.zone.proofs.Keep.{Whole}
use Rattle.zone.proofs.Run.{Stored}
use Rattle.zone.proofs.Fields.{clock-read}
use Rattle.zone.proofs.PagesMet.{pages-walk, cards-few}
use Rattle.zone.proofs.PageTurn.{All, all_nil, all_cons, first_one, first_goes}

-- ---- what a walk meets

pub meets-left : {x : PageCard} {a : List PageCard} (b : List PageCard) → Meets x a → Meets x (a ++ b)
meets-left b met = met
meets-left b (further m) = further (meets-left b m)

pub meets-right : {x : PageCard} (a : List PageCard) {b : List PageCard} → Meets x b → Meets x (a ++ b)
meets-right [] m = m
meets-right (y ∷ a) m = further (meets-right a m)

pub meets-perm : {x : PageCard} {a b : List PageCard} → Permᴰ a b → Meets x a → Meets x b
meets-perm Permᴰ.nil m = m
meets-perm {x} (Permᴰ.cons {l₂ = l} e p) met = subst (λ (y : PageCard). Meets x (y ∷ l)) e met
meets-perm (Permᴰ.cons e p) (further m) = further (meets-perm p m)
meets-perm {x} (Permᴰ.swap {l = l} e q) met = further (subst (λ (y : PageCard). Meets x (y ∷ l)) e met)
meets-perm {x} (Permᴰ.swap {b' = d} {l = l} e q) (further met) = subst (λ (y : PageCard). Meets x (y ∷ (d ∷ l))) q met
meets-perm (Permᴰ.swap e q) (further (further m)) = further (further m)
meets-perm (Permᴰ.trans p q) m = meets-perm q (meets-perm p m)

abbrev pub names : List PageCard → List ℕ
names l = map (λ (x : PageCard). x.name) l

pub met-occurs : {x : PageCard} {l : List PageCard} → Meets x l → 1 ≤ occurs x.name (names l)
unfolding occurs
met-occurs {x} met = omega (arith, one_same x.name x.name refl)
met-occurs (further m) = omega (arith, met-occurs m)

-- two of one name are one
pub one-met : {x y : PageCard} {l : List PageCard} → Meets x l → Meets y l → x.name ≡ y.name → occurs x.name (names l) ≤ 1 → x ≡ y
unfolding occurs
one-met met met q f = refl
one-met {x} {y} met (further {l = l} m) q f = absurd (omega (arith, one_same x.name x.name refl, met-occurs m, ap (λ (n : ℕ). occurs n (names l)) q))
one-met {x} {y} (further m) met q f = absurd (omega (arith, one_same x.name y.name q, met-occurs m))
one-met {x} {y} (further m) (further k) q f = one-met m k q (omega arith)

pub stamp-small : {x : PageCard} (l : List (List ℕ)) → Meets x (pages_met l) → x.stamp < stamp_range
unfolding pages_met
stamp-small {x} (b ∷ l) m = go (eqb (type_of b) page_code) m (λ k. stamp-small l k)
  where
    one : (c : PageCard) (k : List PageCard) → c.stamp < stamp_range → Meets x (c ∷ k) → (Meets x k → x.stamp < stamp_range) → x.stamp < stamp_range
    one c k o met f = o
    one c k o (further m) f = f m

    go : (t : Bool) → Meets x (cond t (card_in b ∷ pages_met l) (pages_met l)) → (Meets x (pages_met l) → x.stamp < stamp_range) → x.stamp < stamp_range
    go true k f = one (card_in b) (pages_met l) (omega arith) k f
    go false k f = f k
stamp-small {x = x} [] m = elim m [ ]

-- ---- candidates are the unlocked cards

abbrev pub cand_of : ℕ → PageCard → Candidate
cand_of ck p = record { name = p.name; age = age ck (record { dirty = p.dirty; lock = p.lock; stamp = p.stamp }); dirty = p.dirty }

abbrev cands : ℕ → List PageCard → List Candidate
cands ck ps = flat (λ (p : PageCard). cond p.lock [] (cand_of ck p ∷ [])) ps

cards-cands : (ck : ℕ) (es : List Item) → candidates ck es ≡ cands ck (page_cards es)
cards-cands ck [] = refl
cards-cands ck (e ∷ es) = go e.key (cards-cands ck es)
  where
    go : (k : Key) → candidates ck es ≡ cands ck (page_cards es) → key_candidate ck k ++ candidates ck es ≡ cands ck (key_card k e.bytes ++ page_cards es)
    go (of_handle h) q = q
    go (of_name n s) q = ap (cond s.lock [] (record { name = n; age = age ck s; dirty = s.dirty } ∷ []) ++◌) q

all-met : {P : Candidate → Type 0} (ck : ℕ) {y : PageCard} {ps : List PageCard} → All P (cands ck ps) → Meets y ps → y.lock ≡ false → P (cand_of ck y)
all-met {P} ck {y} (f) (met {l = l}) q = head (rw q at f)
  where
    head : All P (cand_of ck y ∷ cands ck l) → P (cand_of ck y)
    head (all_cons p g) = p
all-met {P} ck {y} f (further {y = z} {l = l} m) q = all-met ck (go z.lock f) m q
  where
    go : (t : Bool) → All P (cond t [] (cand_of ck z ∷ []) ++ cands ck l) → All P (cands ck l)
    go true g = g
    go false (all_cons p g) = g

-- whose candidate it is
record From (ck : ℕ) (ps : List PageCard) (c : Candidate) : Type 0 where
  card : PageCard
  there : Meets card ps
  loose : card.lock ≡ false
  is : c ≡ cand_of ck card

from_more : {ck : ℕ} {p : PageCard} {ps : List PageCard} {l : List Candidate} → All (From ck ps) l → All (From ck (p ∷ ps)) l
from_more all_nil = all_nil
from_more (all_cons f g) = all_cons (record { card = f.card; there = further f.there; loose = f.loose; is = f.is }) (from_more g)

all_from : (ck : ℕ) (ps : List PageCard) → All (From ck ps) (cands ck ps)
all_from ck [] = all_nil
all_from ck (p ∷ ps) = go p.lock refl (from_more (all_from ck ps))
  where
    go : (t : Bool) → p.lock ≡ t → All (From ck (p ∷ ps)) (cands ck ps) → All (From ck (p ∷ ps)) (cond t [] (cand_of ck p ∷ []) ++ cands ck ps)
    go true q f = f
    go false q f = all_cons (record { card = p; there = met; loose = q; is = refl }) f

-- ---- ages

pub age-is : (ck stamp a : ℕ) → ck < stamp_range → stamp < stamp_range → Age ck stamp a → a ≡ (ck + stamp_range - stamp) % stamp_range
age-is ck stamp a l m g = omega (arith, g.0, g.1)

goes-says : (x y : Candidate) → goes_before x y ≡ true → Before x.age x.name y.age y.name
goes-says x y q = go (ltb y.age x.age) refl q
  where
    go : (t : Bool) → ltb y.age x.age ≡ t → t || (eqb x.age y.age && leb x.name y.name) ≡ true → Before x.age x.name y.age y.name
    go true p q = older (ltb-true y.age x.age p)
    go false p q = smaller (eqb-true x.age y.age (and_left _ (leb x.name y.name) q)) (leb-true x.name y.name (and_right (eqb x.age y.age) _ q))

-- each before the other: one name
pub both : {a n b k : ℕ} → Before a n b k → Before b k a n → n ≡ k
both (older l) (older m) = absurd (omega arith)
both (older l) (smaller q m) = absurd (omega arith)
both (smaller q l) (older m) = absurd (omega arith)
both (smaller q l) (smaller p m) = omega arith

-- ---- the first candidate's page

pub record First (bs : List ℕ) (ck : ℕ) (x : Candidate) : Type 0 where
  pub card : PageCard
  pub next : Next bs card
  pub is : x ≡ cand_of ck card

module _ (bs : List ℕ) (z : Zone) (w : Whole z) (s : Stored bs z) where
  pub names-once : (n : ℕ) → occurs n (names (pages_in bs)) ≤ 1
  names-once n = rw (pages-walk bs z w s) (omega (arith, cards-few n (concat_s items z.bays), many-flat (has_name n) items z.bays, w.apart.apart n))

  few : (n : ℕ) → count (has_name n) (concat_s items z.bays) ≤ 1
  few n = omega (arith, w.apart.apart n, many-flat (has_name n) items z.bays)

  pub first_next : (x : Candidate) (xs : List Candidate) → in_turn z.clock (concat_s items z.bays) ≡ x ∷ xs → First bs z.clock x
  first_next x xs q = go (first_one ck es few x xs q (subst (All (From ck (page_cards es))) (sym (cards-cands ck es)) (all_from ck (page_cards es))))
    where
      ck : ℕ
      ck = z.clock

      es : List Item
      es = concat_s items z.bays

      walk : pages_in bs ≡ page_cards es
      walk = pages-walk bs z w s

      before : (p : PageCard) → x ≡ cand_of ck p → Meets p (pages_in bs) → (y : PageCard) (a b : ℕ) → Meets y (pages_in bs) → y.lock ≡ false → Age (clock_field bs) p.stamp a → Age (clock_field bs) y.stamp b → Before a p.name b y.name
      before p e k y a b m l g h =
          let g₁ : Age ck p.stamp a = rw (clock-read bs z w s) at g in
          let h₁ : Age ck y.stamp b = rw (clock-read bs z w s) at h in
          let o : Before (cand_of ck p).age p.name (cand_of ck y).age y.name =
          goes-says (cand_of ck p) (cand_of ck y) (subst (λ (c : Candidate). goes_before c (cand_of ck y) ≡ true) e (all-met {P = λ (c : Candidate). goes_before x c ≡ true} ck (subst (All (λ (c : Candidate). goes_before x c ≡ true)) (cards-cands ck es) (first_goes ck es few x xs q)) (rw walk at m) l)) in
          rw (age-is ck p.stamp a w.ticks.byte (stamp-small _ k) g₁, age-is ck y.stamp b w.ticks.byte (stamp-small _ m) h₁) o

      go : From ck (page_cards es) x → First bs ck x
      go f =
          let k : Meets f.card (pages_in bs) = rw walk f.there in
          record { card = f.card; next = record { there = k; loose = f.loose; before = before f.card f.is k }; is = f.is }
