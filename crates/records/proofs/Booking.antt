-- For any input zone-run prints what the book says.
use mathlib.Core.Path.{◌≡◌, refl, ap, ap₂, sym, ◌∙◌, subst}
use mathlib.Core.Bool.{Bool, true, false, cond, ◌&&◌}
use mathlib.Core.Option.{Option, none, some}
use mathlib.Core.List.{List, [], ◌∷◌, ◌++◌}
use Prim.Native.Nat.{ℕ, zero, suc, ◌%◌, ◌<◌}
use native.Mathlib.Omega.{arith}
use lib.ListN.{length, get_or, drop, replicate, length-replicate}
use lib.Dec.{eqb}
use Rattle.bigendian.specs.BigEndian.{Bytes, from_be, slice}
use Rattle.memory.specs.Zeros.{all_zero}
use Rattle.format.specs.WellFormed.{well_formed, header_ok}
use Rattle.calls.specs.Calls.{Call, by_handle, allocate_relocatable, allocate_fixed, free_handle, free_pointer, resize, read, write, compact, enlarge, shrink, Answer, beside, Given, refused}
use Rattle.calls.specs.Table.{Facts, cause, refusal_of, refusal_value, first, order, bad_initialize}
use Rattle.ledger.specs.Ledger as Book
use Rattle.ledger.specs.Ledger.{Ledger}
use Rattle.zone.specs.Work.{facts, fresh}
use Rattle.zone.specs.Call as Zone
use Rattle.zone.specs.Call.{in_line, zone_in, result_of, call_with, initialize_with}
use Rattle.structure.specs.Structure.{encode}
use Rattle.zone.specs.Claim.{compared}
use Rattle.zone.proofs.Initial.{Accepted, accepted, fresh-stored}
use Rattle.zone.proofs.Theorem.{Point, onward, first-point}
use Rattle.records.specs.Records.{Action, initialize, call, read_byte, nothing, actions, action_of, Ran, act, Line, line, text, printed, records_of, output, with_value, with_byte, ran, record_length, a_at, b_at, d_at}
use Rattle.records.specs.Book.{buffer_length, book_call, book_act, book_lines, ByTheBook}

-- ---- the calls that a record can ask for: they are lent bytes, and refused with 1 where there is no zone

record Plain (c : Call) : Type 0 where
  lent : Given (beside c)
  ill : (f : Facts) → f.well ≡ false → refusal_of c f ≡ 1
  value : (f : Facts) → refusal_value 1 c f ≡ 0
  told : (refused c 1 0).number ≡ 1
  whole : (a : Answer) → compared c a ≡ a

one_lent : (x : ℕ) → x < 256 → Bytes (x ∷ [])
one_lent x l zero = l
one_lent x l (suc i) = omega arith

data Asks : Action → Type 0 where
  asks-initialize : {n m : ℕ} → Asks (initialize n m)
  asks-call : (c : Call) → Plain c → Asks (call c)
  asks-byte : {h i : ℕ} → Asks (read_byte h i)
  asks_nothing : Asks nothing

data All : List Action → Type 0 where
  no_more : All []
  one_more : {a : Action} {as' : List Action} → Asks a → All as' → All (a ∷ as')

pick : {as' : List Action} → All as' → (i : ℕ) → Asks (get_or as' i nothing)
pick no_more i = asks_nothing
pick (one_more a r) zero = a
pick (one_more a r) (suc i) = pick r i

all-asks : (a b d : ℕ) → All (actions a b d)
unfolding actions
all-asks a b d =
    one_more asks-initialize
    (one_more (asks-call (allocate_relocatable a) (record { lent = tt; ill = λ f w. rw w; value = λ f. refl; told = refl; whole = λ a. refl }))
    (one_more (asks-call (allocate_fixed a) (record { lent = tt; ill = λ f w. rw w; value = λ f. refl; told = refl; whole = λ a. refl }))
    (one_more (asks-call (free_handle a) (record { lent = tt; ill = λ f w. rw w; value = λ f. refl; told = refl; whole = λ a. refl }))
    (one_more (asks-call (free_pointer a) (record { lent = tt; ill = λ f w. rw w; value = λ f. refl; told = refl; whole = λ a. refl }))
    (one_more (asks-call (resize a b) (record { lent = tt; ill = λ f w. rw w; value = λ f. refl; told = refl; whole = λ a. refl }))
    (one_more (asks-call (write (by_handle a) b 1 (d % 256 ∷ [])) (record { lent = one_lent (d % 256) (omega arith); ill = λ f w. rw w; value = λ f. refl; told = refl; whole = λ a. refl }))
    (one_more asks-byte
    (one_more (asks-call compact (record { lent = tt; ill = λ f w. rw w; value = λ f. refl; told = refl; whole = λ a. refl }))
    (one_more (asks-call (enlarge a) (record { lent = tt; ill = λ f w. rw w; value = λ f. refl; told = refl; whole = λ a. refl }))
    (one_more (asks-call (shrink a) (record { lent = tt; ill = λ f w. rw w; value = λ f. refl; told = refl; whole = λ a. refl }))
    no_more))))))))))

asks : (r : List ℕ) → Asks (action_of r)
unfolding action_of
asks r = go (eqb (length r) record_length && all_zero (slice r 1 3)) (pick (all-asks (from_be (slice r a_at 4)) (from_be (slice r b_at 4)) (from_be (slice r d_at 4))) (get_or r 0 0))
  where
    go : (t : Bool) {a : Action} → Asks a → Asks (cond t a nothing)
    go true k = k
    go false k = asks_nothing

-- ---- the buffer and the book

data Kept : List ℕ → Option Ledger → Type 0 where
  blank : Kept (replicate buffer_length 0) none
  going : {bs : List ℕ} {l : Ledger} → length bs ≡ buffer_length → Point bs l → Kept bs (some l)

kept-long : {bs : List ℕ} {b : Option Ledger} → Kept bs b → length bs ≡ buffer_length
kept-long blank = length-replicate {A = ℕ} buffer_length 0
kept-long (going e p) = e

no_zone : well_formed (replicate buffer_length 0) ≡ false
unfolding well_formed header_ok from_be
no_zone = refl

-- what a record prints and leaves, and what the book says
record Agrees (r : Ran) (b : Line × Option Ledger) : Type 0 where
  shown : r.shown ≡ b.0
  kept : Kept r.bytes b.1

-- a call with no zone
ill-call : (c : Call) → Plain c → Zone.call c (replicate buffer_length 0) ≡ result_of (refused c 1 0) (replicate buffer_length 0)
ill-call c k =
    let f = facts (well_formed (replicate buffer_length 0)) (zone_in (replicate buffer_length 0)) in
    ap (λ (n : ℕ). call_with n c (replicate buffer_length 0)) (k.ill f no_zone) ∙ ap (λ (v : ℕ). result_of (refused c 1 v) (replicate buffer_length 0)) (k.value f)

-- v is the value that the line shows: 0 of a refused call
module _ (c : Call) (v : Answer → ℕ) (k : Plain c) (v-0 : v (refused c 1 0) ≡ 0) where
  call-agrees : {bs : List ℕ} {b : Option Ledger} → Kept bs b → Agrees (ran (line (Zone.call c bs).answer.number (v (Zone.call c bs).answer)) (Zone.call c bs).bytes) (book_call c v b)
  call-agrees blank = rw (ill-call c k) (record { shown = ap₂ line k.told v-0; kept = blank })
  call-agrees {bs} (going e p) =
      let o = onward c k.lent p in
      record { shown = ap (λ (a : Answer). line a.number (v a)) (sym (k.whole _) ∙ o.same); kept = going (o.long ∙ e) o.point }

module _ (n m : ℕ) {bs : List ℕ} {b : Option Ledger} (k : Kept bs b) where
  -- by whether cause 2 holds
  started : (t : Bool) → (t ≡ false → Point (encode (in_line (fresh (length bs) n m)) ++ drop n bs) (Book.initial buffer_length n m))
      → (t ≡ false → length (encode (in_line (fresh (length bs) n m)) ++ drop n bs) ≡ buffer_length)
      → Agrees (with_value (initialize_with (first order (cause 2 t ∷ [])) n m bs)) (cond (eqb (first order (cause 2 t ∷ [])) 0) (line 0 0, some (Book.initial buffer_length n m)) (line 2 0, b))
  unfolding with_value
  started true f g = record { shown = refl; kept = k }
  started false f g = record { shown = refl; kept = going (g refl) (f refl) }

  init-agrees : Agrees (with_value (Zone.initialize n m bs)) (book_act (initialize n m) b)
  init-agrees =
      subst (λ (l : ℕ). Agrees (with_value (initialize_with (first order (bad_initialize l n m ∷ [])) n m bs)) (book_act (initialize n m) b)) (sym (kept-long k))
      (started (bad_initialize buffer_length n m).holds (λ e. (ok e).1) (λ e. (ok e).0))
    where
      ok : (bad_initialize buffer_length n m).holds ≡ false
          → (length (encode (in_line (fresh (length bs) n m)) ++ drop n bs) ≡ buffer_length) × Point (encode (in_line (fresh (length bs) n m)) ++ drop n bs) (Book.initial buffer_length n m)
      ok e =
          let a : Accepted (length bs) n m = accepted (length bs) n m (rw (kept-long k, e)) in
          ((fresh-stored (length bs) n m a bs refl).buffer ∙ kept-long k, subst (λ (l : ℕ). Point (encode (in_line (fresh (length bs) n m)) ++ drop n bs) (Book.initial l n m)) (kept-long k) (first-point bs n m a))

act-agrees : {a : Action} → Asks a → {bs : List ℕ} {b : Option Ledger} → Kept bs b → Agrees (act a bs) (book_act a b)
unfolding act with_value with_byte
act-agrees (asks-initialize {n} {m}) k = init-agrees n m k
act-agrees (asks-call c p) k = call-agrees c (λ (a : Answer). a.value) p refl k
act-agrees (asks-byte {h} {i}) k =
    call-agrees (read (by_handle h) i 1 (0 ∷ [])) (λ (a : Answer). get_or a.bytes 0 0) (record { lent = one_lent 0 (omega arith); ill = λ f w. rw w; value = λ f. refl; told = refl; whole = λ a. refl }) refl k
act-agrees asks_nothing k = record { shown = refl; kept = k }

lines-agree : (rs : List (List ℕ)) {bs : List ℕ} {b : Option Ledger} → Kept bs b → printed rs bs ≡ book_lines rs b
unfolding printed
lines-agree [] k = refl
lines-agree (r ∷ rs) k = let o = act-agrees (asks r) k in ap₂ ◌++◌ (ap text o.shown) (lines-agree rs o.kept)

pub by-the-book : ByTheBook
unfolding output
by-the-book input = lines-agree (records_of input) blank
