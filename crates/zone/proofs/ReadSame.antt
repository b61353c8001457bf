-- Two buffers in which a key names the same data, or nothing: each read by it answers the same.
use mathlib.Core.Path.{◌≡◌, refl, ap, sym, ◌∙◌}
use mathlib.Core.Bool.{true, false, cond}
use mathlib.Core.Option.{Option, get_or}
use mathlib.Core.List.{List, [], ◌∷◌, ◌++◌}
use Prim.Native.Nat.{ℕ, zero, suc, ◌+◌}
use lib.ListN.{length, take, drop}
use lib.Dec.{eqb, eqb-suc-zero}
use Rattle.calls.specs.Calls.{Target, by_handle, by_pointer, by_name, Call, read, Answer, shows, refused}
use Rattle.calls.specs.Bays.{over}
use Rattle.calls.specs.State.{content}
use Rattle.calls.specs.Table.{cause, below, is_none, first, order, refusal_of, refusal_value}
use Rattle.bay.specs.Bay.{items}
use Rattle.zone.specs.Work.{Zone, facts, work}
use Rattle.zone.specs.Call.{Result, call}
use Rattle.zone.proofs.Keep.{Whole}
use Rattle.zone.proofs.Run.{Stored, call-worked, call-refused}

-- what a call answers; n is the refusal number
abbrev pub answer_with : ℕ → Call → Zone → Answer
answer_with n c z = cond (eqb n 0) (work c z).answer (refused c n (refusal_value n c (facts true z)))

pub answer-is : (c : Call) (bs : List ℕ) (z : Zone) → Whole z → Stored bs z → (call c bs).answer ≡ answer_with (refusal_of c (facts true z)) c z
answer-is c bs z w s = go (refusal_of c (facts true z)) refl
  where
    go : (n : ℕ) → refusal_of c (facts true z) ≡ n → (call c bs).answer ≡ answer_with n c z
    go zero e = ap (λ (r : Result). r.answer) (call-worked bs z w s c e)
    go (suc n) e = ap (λ (r : Result). r.answer) (call-refused bs z w s c n e) ∙ (rw (eqb-suc-zero n))

module _ (t : Target) (i n : ℕ) (second : List ℕ) where
  -- k is the number of the cause that nothing has the key; o what it names
  abbrev pub shown : ℕ → Option (List ℕ) → Answer
  shown k o =
      let j : ℕ = first order (cause 1 false ∷ cause k (is_none (over length o)) ∷ cause 8 (below (get_or (over length o) 0) (i + n)) ∷ cause 10 (below (length second) n) ∷ []) in
      cond (eqb j 0) (shows 0 (take n (drop i (get_or o [])) ++ drop n second)) (refused (read t i n second) j 0)

read_named : (t : Target) (i n : ℕ) (second : List ℕ) (z z' : Zone) → content items t z.bays ≡ content items t z'.bays
    → answer_with (refusal_of (read t i n second) (facts true z)) (read t i n second) z ≡ answer_with (refusal_of (read t i n second) (facts true z')) (read t i n second) z'
read_named (by_handle h) i n second z z' q = ap (shown (by_handle h) i n second 6) q
read_named (by_pointer p) i n second z z' q = ap (shown (by_pointer p) i n second 7) q
read_named (by_name k) i n second z z' q = ap (shown (by_name k) i n second 13) q

pub read_same : {bs bs' : List ℕ} {z z' : Zone} → Whole z → Stored bs z → Whole z' → Stored bs' z' → (t : Target) (i n : ℕ) (second : List ℕ)
    → content items t z.bays ≡ content items t z'.bays → (call (read t i n second) bs).answer ≡ (call (read t i n second) bs').answer
read_same {bs} {bs'} {z} {z'} w s w' s' t i n second q =
    answer-is (read t i n second) bs z w s ∙ read_named t i n second z z' q ∙ sym (answer-is (read t i n second) bs' z' w' s')
