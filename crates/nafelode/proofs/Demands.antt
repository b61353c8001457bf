-- The customer's three demands hold of whatever keeps the exported functions' promises.
use mathlib.Core.Path.{◌≡◌, refl, ap, ap₂, sym, ◌∙◌}
use mathlib.Core.Bool.{Bool, true, false, cond}
use mathlib.Core.List.{List, [], ◌∷◌, ◌++◌}
use Prim.Native.Nat.{ℕ, zero, suc}
use native.Mathlib.Omega.{arith}
use lib.ListN.{length, drop, replicate}
use lib.Dec.{eqb-suc-zero}
use borrow.Author.Tests.{ne_eqb}
use Rattle.format.specs.WellFormed.{well_formed, count_of}
use Rattle.structure.specs.Structure.{encode, decode}
use Rattle.bigendian.specs.BigEndian.{Bytes, slice}
use Rattle.block_type.specs.Limits.{strata}
use Rattle.calls.specs.Calls.{Target, Call, PageCall, create_page, use_page, mark_page, drop_page, check, view, Answer, told, told_two, Beside, alone, lends, part, of_page, beside, refused}
use Rattle.calls.specs.Table.{Facts, first, order, bad_initialize, page_value, value_beside, refusal_value, init_refusal}
use Rattle.zone.specs.Work.{facts, work, fresh}
use Rattle.zone.specs.Call.{result_of, outcome, in_line, zone_in, number_of, Result, call_with, initialize_with}
use Rattle.zone.specs.Census.{Counted, counted, limits_of, census_number, census_with, census}
use Rattle.zone.specs.View.{view_start, view_length}
use Rattle.zone.specs.Promise.{Promise, InitPromise}
use Rattle.zone.proofs.Numbers.{work-number}
use Rattle.zone.proofs.Run.{stored-well, call-well}
use Rattle.zone.proofs.Initial.{accepted, fresh-whole, fresh-stored}
use Rattle.tell.proofs.CheckLaws.{check-is}
use Rattle.tell.proofs.Outcomes.{unchanged}
use Rattle.stretch.proofs.Outcomes.{view-there}
use Rattle.nafelode.proofs.ViewPlace.{start-tied, length-tied}
use Rattle.nafelode.specs.Demands.{OneRefusal, Demand1, Worked, Demand2, Demand3}
use Rattle.zone.proofs.Theorem.{the-list}

-- what it answers when it is refused with n
abbrev refused_in : Call → List ℕ → ℕ → Answer
refused_in c entry n = refused c n (refusal_value n c (facts (well_formed entry) (zone_in entry)))

one-refusal : (c : Call) (entry : List ℕ) (a : Answer) (exit : List ℕ) → Promise c entry a exit → OneRefusal (number_of c entry) (refused_in c entry (number_of c entry)) entry a exit
one-refusal c entry a exit k = go (number_of c entry) k
  where
    worked-number : (t : Bool) → (cond t (outcome entry (decode entry) (work c (zone_in entry))) (result_of (told 0 0) entry)).answer.number ≡ 0
    worked-number true = work-number c (zone_in entry)
    worked-number false = refl

    go : (n : ℕ) → result_of a exit ≡ call_with n c entry → OneRefusal n (refused_in c entry n) entry a exit
    go zero k = record { done = λ q. ap (λ (r : Result). r.answer.number) k ∙ worked-number (well_formed entry); refused = λ ne. absurd (ne refl) }
    go (suc n) k = let e = rw (eqb-suc-zero n) at k in record { done = λ q. absurd (omega (arith, q)); refused = λ ne. (ap (λ (r : Result). r.answer) e, ap (λ (r : Result). r.bytes) e) }

init-refusal : (n m : ℕ) (entry : List ℕ) (a : Answer) (exit : List ℕ) → InitPromise n m entry a exit
    → OneRefusal (init_refusal (length entry) n m) (told 2 0) entry a exit
init-refusal n m entry a exit k = go (bad_initialize (length entry) n m).holds k
  where
    number : Bool → ℕ
    number t = first order (record { number = 2; holds = t } ∷ [])

    go : (t : Bool) → result_of a exit ≡ initialize_with (number t) n m entry → OneRefusal (number t) (told 2 0) entry a exit
    go true k = record { done = λ z. absurd (omega (arith, z)); refused = λ ne. (ap (λ (r : Result). r.answer) k, ap (λ (r : Result). r.bytes) k) }
    go false k = record { done = λ z. ap (λ (r : Result). r.answer.number) k; refused = λ ne. absurd (ne refl) }

census-refusal : (zone lent : List ℕ) (n : ℕ) (cs : List ℕ) → counted n cs ≡ census zone lent → (n ≡ census_number zone lent) × ((n ≡ 0 → ⊥) → cs ≡ replicate strata 0)
census-refusal zone lent n cs e = go (census_number zone lent) e
  where
    go : (k : ℕ) → counted n cs ≡ census_with k (limits_of lent) zone → (n ≡ k) × ((n ≡ 0 → ⊥) → cs ≡ replicate strata 0)
    go zero e = let q = ap (λ (c : Counted). c.number) e in (q, λ ne. absurd (ne q))
    go (suc k) e = let f = rw (eqb-suc-zero k) at e in (ap (λ (c : Counted). c.number) f, λ ne. ap (λ (c : Counted). c.counts) f)

-- the value of a refusal is 0, but for 12
value-0 : (n : ℕ) (c : Call) (f : Facts) → (n ≡ 12 → ⊥) → refusal_value n c f ≡ 0
value-0 n c f ne = go (beside c)
  where
    page : (p : PageCall) → page_value n p f ≡ 0
    page (create_page k) = rw (ne_eqb n 12 ne)
    page use_page = refl
    page (mark_page m) = refl
    page drop_page = refl

    go : (b : Beside) → value_beside n b f ≡ 0
    go alone = refl
    go (lends second) = refl
    go part = refl
    go (of_page k p) = page p

pub demand-1 : Demand1
demand-1 = record {
  of_calls = one-refusal;
  value = λ c entry a exit k ne nt. ap (λ (r : Answer). r.value) ((one-refusal c entry a exit k).refused ne).0 ∙ value-0 (number_of c entry) c _ nt;
  of_initialize = init-refusal;
  of_census = census-refusal;
  of_walker = λ zone at w e f. e ∙ rw f;
}

worked : (c : Call) (entry : List ℕ) (a : Answer) (exit : List ℕ) → Promise c entry a exit → well_formed entry ≡ true → number_of c entry ≡ 0 → Worked c entry a exit
worked c entry a exit k w e =
    let q : result_of a exit ≡ outcome entry (decode entry) (work c (zone_in entry)) = k ∙ ap (λ (n : ℕ). call_with n c entry) e ∙ rw w in
    record {
      answer = ap (λ (r : Result). r.answer) q;
      bytes = ap (λ (r : Result). r.bytes) q;
      zone = λ y u. ap (λ (r : Result). well_formed r.bytes) k ∙ call-well entry y w c u;
    }

initialized : (n m : ℕ) (entry : List ℕ) (a : Answer) (exit : List ℕ) → InitPromise n m entry a exit → a.number ≡ 0
    → (a ≡ told 0 0) × (exit ≡ encode (in_line (fresh (length entry) n m)) ++ drop n entry) × (well_formed exit ≡ true)
initialized n m entry a exit k d = go (init_refusal (length entry) n m) refl (sym (ap (λ (r : Result). r.answer.number) k) ∙ d) (ap (λ (r : Result). r.answer) k) (ap (λ (r : Result). r.bytes) k)
  where
    go : (j : ℕ) → init_refusal (length entry) n m ≡ j → (initialize_with j n m entry).answer.number ≡ 0 → a ≡ (initialize_with j n m entry).answer → exit ≡ (initialize_with j n m entry).bytes
        → (a ≡ told 0 0) × (exit ≡ encode (in_line (fresh (length entry) n m)) ++ drop n entry) × (well_formed exit ≡ true)
    go zero e d p q =
        let u = accepted (length entry) n m e in
        (p, q, rw q (stored-well _ (fresh (length entry) n m) (fresh-whole (length entry) n m u) (fresh-stored (length entry) n m u entry refl)))
    go (suc j) e d p q = absurd (omega (arith, rw (eqb-suc-zero j) at d))

checked : (entry : List ℕ) (a : Answer) (exit : List ℕ) → Bytes entry → Promise check entry a exit → (a ≡ told_two 0 (cond (well_formed entry) 1 0) (count_of entry)) × (exit ≡ entry)
checked entry a exit y k = (ap (λ (r : Result). r.answer) k ∙ sym (check-is entry (well_formed entry) (count_of entry) y refl refl), ap (λ (r : Result). r.bytes) k ∙ unchanged check entry y refl)

viewed : (t : Target) (i n : ℕ) (entry : List ℕ) (a : Answer) (exit : List ℕ) → Bytes entry → Promise (view t i n) entry a exit
    → slice entry (view_start t i n entry) (view_length t i n entry) ≡ a.bytes
viewed t i n entry a exit y k =
    ap₂ (slice entry) (sym (start-tied t i n entry y)) (sym (length-tied t i n entry y)) ∙ view-there t i n entry y ∙ sym (ap (λ (r : Result). r.answer.bytes) k)

pub demand-2 : Demand2
demand-2 = record { of_calls = worked; of_initialize = initialized; of_check = checked; of_view = viewed }

pub demand-3 : Demand3
demand-3 = the-list
