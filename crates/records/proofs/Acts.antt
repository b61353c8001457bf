-- What a call's promise says of a record's line.
use mathlib.Core.Path.{◌≡◌, refl, ap, ap₂, sym, ◌∙◌}
use mathlib.Core.Bool.{Bool, true, false}
use mathlib.Core.List.{List, [], ◌∷◌}
use Prim.Native.Nat.{ℕ, ◌+◌, ◌%◌, ◌≤◌}
use native.Mathlib.Omega.{arith}
use borrow.Author.Tests.{eq-eqb, ne_eqb}
use lib.ListN.{length, get_or, get_or-eq_default}
use Rattle.bigendian.specs.BigEndian.{from_be, slice}
use Rattle.memory.specs.Zeros.{all_zero}
use Rattle.calls.specs.Calls.{Target, Call, Answer, by_handle, read, write, shows, allocate_relocatable, allocate_fixed, free_handle, free_pointer, resize, compact, enlarge, shrink}
use Rattle.zone.specs.Call.{result_of}
use Rattle.zone.specs.Call as Zone
use Rattle.std.specs.Prelude.{Result, Ok, Err}
use Rattle.calls.specs.Refusals.{done_of, shown_of}
use Rattle.calls.specs.declared.Refusal.{Refusal}
use Rattle.zone.specs.Promise.{Promise, InitPromise}
use Rattle.records.specs.Code.{asked, Means, MeansNothing, Decodes}
use Rattle.records.specs.declared.UnknownCode.{UnknownCode}
use Rattle.records.specs.declared.Code.{Code}
use Rattle.records.specs.declared.Code.TheVariants.{Initialize, AllocateRelocatable, AllocateFixed, FreeHandle, FreePointer, Resize, WriteByte, ReadByte, Compact, Enlarge, Shrink}
use Rattle.records.specs.Records.{initialize, call, read_byte, nothing, actions, Line, skip, line, ran, act, with_value, with_byte, action_of, run_record, record_length, a_at, b_at, d_at}

-- a call that is promised tells its number and its value
pub called : (c : Call) (s e : List ℕ) (x : Answer) → Promise c s x e → ran (line x.number x.value) e ≡ act (call c) s
unfolding act with_value
called c s e x p = ap (λ (r : Zone.Result). ran (line r.answer.number r.answer.value) r.bytes) p

pub initialized : (n m : ℕ) (s e : List ℕ) (x : Answer) → InitPromise n m s x e → ran (line x.number x.value) e ≡ act (initialize n m) s
unfolding act with_value
initialized n m s e x p = ap (λ (r : Zone.Result). ran (line r.answer.number r.answer.value) r.bytes) p

-- with a second buffer, an answer has the same number and no value
second-number : {T : Type 0} (r : Result T Refusal) (bs : List ℕ) → (shown_of r bs).number ≡ (done_of r).number
second-number (Ok v) bs = refl
second-number (Err e) bs = refl

second-value : {T : Type 0} (r : Result T Refusal) (bs : List ℕ) → (shown_of r bs).value ≡ (done_of r).value
second-value (Ok v) bs = refl
second-value (Err e) bs = refl

pub wrote : {T : Type 0} (r : Result T Refusal) (h i d : ℕ) (s e : List ℕ) (l : Line) (t : Target) (o n : ℕ) → l ≡ line (done_of r).number (done_of r).value
    → t ≡ by_handle h → o ≡ i → n ≡ 1 → Promise (write t o n (d ∷ [])) s (shown_of r (d ∷ [])) e → ran l e ≡ act (call (write (by_handle h) i 1 (d ∷ []))) s
unfolding act with_value
wrote r h i d s e l t o n q et eo en p' =
    let p : Promise (write (by_handle h) i 1 (d ∷ [])) s (shown_of r (d ∷ [])) e = rw (et, eo, en) at p' in
    ap (λ (x : Line). ran x e) (q ∙ ap₂ line (sym (second-number r (d ∷ []))) (sym (second-value r (d ∷ []))))
    ∙ ap (λ (q : Zone.Result). ran (line q.answer.number q.answer.value) q.bytes) p

-- the byte that was read is the value
pub peeked : {T : Type 0} (r : Result T Refusal) (h i n v : ℕ) (s b : List ℕ) (t : Target) (o m : ℕ) → n ≡ (done_of r).number → t ≡ by_handle h → o ≡ i → m ≡ 1
    → Promise (read t o m (0 ∷ [])) s (shown_of r b) s → v ≡ get_or b 0 0 → ran (line n v) s ≡ act (read_byte h i) s
unfolding act with_byte
peeked r h i n v s b t o m k et eo em p' q =
    let p : Promise (read (by_handle h) i 1 (0 ∷ [])) s (shown_of r b) s = rw (et, eo, em) at p' in
    ap₂ (λ (m x : ℕ). ran (line m x) s) (k ∙ sym (second-number r b)) (q ∙ shown-bytes r)
    ∙ ap (λ (q : Zone.Result). ran (line q.answer.number (get_or q.answer.bytes 0 0)) q.bytes) p
  where
    shown-bytes : {T : Type 0} (r : Result T Refusal) → get_or b 0 0 ≡ get_or (shown_of r b).bytes 0 0
    shown-bytes (Ok v) = refl
    shown-bytes (Err e) = refl

-- ---- a byte's code

beyond : (k code : ℕ) → k ≤ code → (code ≡ k → ⊥) → k + 1 ≤ code
beyond k code h n = omega arith

pub no-code : (code : ℕ) → (code ≡ 0 → ⊥) → (code ≡ 1 → ⊥) → (code ≡ 2 → ⊥) → (code ≡ 3 → ⊥) → (code ≡ 4 → ⊥) → (code ≡ 5 → ⊥) → (code ≡ 6 → ⊥) → (code ≡ 7 → ⊥) → (code ≡ 8 → ⊥) → (code ≡ 9 → ⊥) → (code ≡ 10 → ⊥)
    → MeansNothing code
unfolding actions
no-code code n0 n1 n2 n3 n4 n5 n6 n7 n8 n9 n10 =
    let h : 11 ≤ code = beyond 10 code (beyond 9 code (beyond 8 code (beyond 7 code (beyond 6 code (beyond 5 code (beyond 4 code (beyond 3 code (beyond 2 code (beyond 1 code (beyond 0 code (omega arith) n0) n1) n2) n3) n4) n5) n6) n7) n8) n9) n10 in
    record { asks = λ a b d. get_or-eq_default (actions a b d) nothing h }

module _ (code : ℕ) where
  pub code-0 : code ≡ 0 → Means code Initialize
  unfolding actions
  code-0 h = rw h (record { asks = λ a b d. refl })

  pub code-1 : code ≡ 1 → Means code AllocateRelocatable
  unfolding actions
  code-1 h = rw h (record { asks = λ a b d. refl })

  pub code-2 : code ≡ 2 → Means code AllocateFixed
  unfolding actions
  code-2 h = rw h (record { asks = λ a b d. refl })

  pub code-3 : code ≡ 3 → Means code FreeHandle
  unfolding actions
  code-3 h = rw h (record { asks = λ a b d. refl })

  pub code-4 : code ≡ 4 → Means code FreePointer
  unfolding actions
  code-4 h = rw h (record { asks = λ a b d. refl })

  pub code-5 : code ≡ 5 → Means code Resize
  unfolding actions
  code-5 h = rw h (record { asks = λ a b d. refl })

  pub code-6 : code ≡ 6 → Means code WriteByte
  unfolding actions
  code-6 h = rw h (record { asks = λ a b d. refl })

  pub code-7 : code ≡ 7 → Means code ReadByte
  unfolding actions
  code-7 h = rw h (record { asks = λ a b d. refl })

  pub code-8 : code ≡ 8 → Means code Compact
  unfolding actions
  code-8 h = rw h (record { asks = λ a b d. refl })

  pub code-9 : code ≡ 9 → Means code Enlarge
  unfolding actions
  code-9 h = rw h (record { asks = λ a b d. refl })

  pub code-10 : code ≡ 10 → Means code Shrink
  unfolding actions
  code-10 h = rw h (record { asks = λ a b d. refl })

-- ---- each code's arm

module _ (code : Code) (a b d : ℕ) (s e : List ℕ) (l : Line) where
  pub writes : code ≡ WriteByte → ran l e ≡ act (call (write (by_handle a) b 1 (d % 256 ∷ []))) s → ran l e ≡ act (asked code a b d) s
  writes h p = rw h p

  pub reads : code ≡ ReadByte → ran l e ≡ act (read_byte a b) s → ran l e ≡ act (asked code a b d) s
  reads h p = rw h p

  module _ (x : Answer) where
    pub initializes : code ≡ Initialize → InitPromise a b s x e → l ≡ line x.number x.value → ran l e ≡ act (asked code a b d) s
    initializes h p is = rw (h, is) (initialized a b s e x p)

    asks : (c : Call) → asked code a b d ≡ call c → Promise c s x e → l ≡ line x.number x.value → ran l e ≡ act (asked code a b d) s
    asks c q p is = rw (q, is) (called c s e x p)

    pub allocates : code ≡ AllocateRelocatable → Promise (allocate_relocatable a) s x e → l ≡ line x.number x.value → ran l e ≡ act (asked code a b d) s
    allocates h = asks (allocate_relocatable a) (ap (λ (k : Code). asked k a b d) h)

    pub allocates_fixed : code ≡ AllocateFixed → Promise (allocate_fixed a) s x e → l ≡ line x.number x.value → ran l e ≡ act (asked code a b d) s
    allocates_fixed h = asks (allocate_fixed a) (ap (λ (k : Code). asked k a b d) h)

    pub frees : code ≡ FreeHandle → Promise (free_handle a) s x e → l ≡ line x.number x.value → ran l e ≡ act (asked code a b d) s
    frees h = asks (free_handle a) (ap (λ (k : Code). asked k a b d) h)

    pub frees_fixed : code ≡ FreePointer → Promise (free_pointer a) s x e → l ≡ line x.number x.value → ran l e ≡ act (asked code a b d) s
    frees_fixed h = asks (free_pointer a) (ap (λ (k : Code). asked k a b d) h)

    pub resizes : code ≡ Resize → Promise (resize a b) s x e → l ≡ line x.number x.value → ran l e ≡ act (asked code a b d) s
    resizes h = asks (resize a b) (ap (λ (k : Code). asked k a b d) h)

    pub compacts : code ≡ Compact → Promise compact s x e → l ≡ line x.number x.value → ran l e ≡ act (asked code a b d) s
    compacts h = asks compact (ap (λ (k : Code). asked k a b d) h)

    pub enlarges : code ≡ Enlarge → Promise (enlarge a) s x e → l ≡ line x.number x.value → ran l e ≡ act (asked code a b d) s
    enlarges h = asks (enlarge a) (ap (λ (k : Code). asked k a b d) h)

    pub shrinks : code ≡ Shrink → Promise (shrink a) s x e → l ≡ line x.number x.value → ran l e ≡ act (asked code a b d) s
    shrinks h = asks (shrink a) (ap (λ (k : Code). asked k a b d) h)

-- ---- a record

module _ (r s : List ℕ) (l : Line) where
  pub record-other : (length r ≡ record_length → ⊥) → l ≡ skip → ran l s ≡ run_record r s
  unfolding action_of act
  record-other h p = rw (ne_eqb (length r) record_length h, p)

  module _ (ok : Bool) (h : length r ≡ record_length) (z : ok ≡ all_zero (slice r 1 3)) where
    pub record-marked : ok ≡ false → l ≡ skip → ran l s ≡ run_record r s
    unfolding action_of act
    record-marked f p = rw (eq-eqb (length r) record_length h, ← z, f, p)

    pub record-unknown : ok ≡ true → MeansNothing (get_or r 0 0) → l ≡ skip → ran l s ≡ run_record r s
    unfolding action_of act
    record-unknown t n p = rw (eq-eqb (length r) record_length h, ← z, t, n.asks (from_be (slice r a_at 4)) (from_be (slice r b_at 4)) (from_be (slice r d_at 4)), p)

    pub record-runs : (e : List ℕ) (d : Result Code UnknownCode) (code : Code) (a b c : ℕ) → ok ≡ true → Decodes (get_or r 0 0) d → d ≡ Ok code
        → a ≡ from_be (slice r a_at 4) → b ≡ from_be (slice r b_at 4) → c ≡ from_be (slice r d_at 4) → ran l e ≡ act (asked code a b c) s → ran l e ≡ run_record r s
    unfolding action_of
    record-runs e d code a b c t k q x y w o =
        let m : Means (get_or r 0 0) code = rw q at k in
        rw (eq-eqb (length r) record_length h, ← z, t, ← x, ← y, ← w, m.asks a b c) o
