-- Document 01, 'Rig sheet', "Program zone-run": what a record asks, what it does to the buffer, and the line that is printed for it.
use Rattle.std.specs.Prelude.{cond, ◌&&◌, List, [], ◌∷◌, ◌++◌, ℕ, zero, suc, ◌+◌, ◌/◌, ◌%◌, length, get_or, take, drop, eqb, ltb}
use Rattle.bigendian.specs.BigEndian.{from_be, slice}
use Rattle.memory.specs.Zeros.{all_zero}
use Rattle.calls.specs.Calls.{Call, by_handle, allocate_relocatable, allocate_fixed, free_handle, free_pointer, resize, read, write, compact, enlarge, shrink}
use Rattle.zone.specs.Call as Zone
use Rattle.zone.specs.Call.{Result}

-- ---- what a record asks

pub data Action : Type 0 where
  -- length, m
  initialize : ℕ → ℕ → Action
  call : Call → Action
  -- handle, offset
  read_byte : ℕ → ℕ → Action
  nothing : Action

-- "Codes: 0 initialize (a, b), 1 relocatable (a), 2 fixed (a), 3 free handle (a), 4 free pointer (a), 5 resize (a, b), 6 write byte
-- d mod 256 to handle a at b, 7 read a byte there (the byte is the value), 8 compact, 9 enlarge (a), 10 shrink (a)", in this order;
-- "those that a code doesn't name are ignored"
unfoldable pub actions : ℕ → ℕ → ℕ → List Action
actions a b d =
    initialize a b
    ∷ call (allocate_relocatable a)
    ∷ call (allocate_fixed a)
    ∷ call (free_handle a)
    ∷ call (free_pointer a)
    ∷ call (resize a b)
    ∷ call (write (by_handle a) b 1 (d % 256 ∷ []))
    ∷ read_byte a b
    ∷ call compact
    ∷ call (enlarge a)
    ∷ call (shrink a)
    ∷ []

-- "16-byte records: byte 0 code, 1 to 3 zero, then a, b, d of 4 bytes, high byte first"

abbrev pub record_length : ℕ
record_length = 16

abbrev pub a_at : ℕ
a_at = 4

abbrev pub b_at : ℕ
b_at = 8

abbrev pub d_at : ℕ
d_at = 12

-- "Code above 10, or bytes 1 to 3 not zero: the line `skip`"
unfoldable pub action_of : List ℕ → Action
action_of r =
    cond (eqb (length r) record_length && all_zero (slice r 1 3))
    (get_or (actions (from_be (slice r a_at 4)) (from_be (slice r b_at 4)) (from_be (slice r d_at 4))) (get_or r 0 0) nothing)
    nothing

-- ---- what it does

pub data Line : Type 0 where
  skip : Line
  -- "refusal number (0 if done), a space, the value (0 where there is none)"
  line : ℕ → ℕ → Line

-- the line of a record, and every byte of the buffer after it
pub record Ran : Type 0 where
  pub shown : Line
  pub bytes : List ℕ

abbrev pub ran : Line → List ℕ → Ran
ran l bs = record { shown = l; bytes = bs }

-- the refusal number and the value of a call
unfoldable pub with_value : Result → Ran
with_value r = ran (line r.answer.number r.answer.value) r.bytes

-- a read of one byte: the byte is the value
unfoldable pub with_byte : Result → Ran
with_byte r = ran (line r.answer.number (get_or r.answer.bytes 0 0)) r.bytes

unfoldable pub act : Action → List ℕ → Ran
act (initialize n m) bs = with_value (Zone.initialize n m bs)
act (call c) bs = with_value (Zone.call c bs)
act (read_byte h i) bs = with_byte (Zone.call (read (by_handle h) i 1 (0 ∷ [])) bs)
act nothing bs = ran skip bs

abbrev pub run_record : List ℕ → List ℕ → Ran
run_record r bs = act (action_of r) bs

-- ---- what is printed

-- the digits of n in ASCII, the highest first, with no zero in front; at most k of them
unfoldable pub digits : ℕ → ℕ → List ℕ
digits zero n = []
digits (suc k) n = cond (ltb n 10) [] (digits k (n / 10)) ++ ((48 + n % 10) ∷ [])

-- ten digits hold every number of 32 bits
abbrev pub decimal : ℕ → List ℕ
decimal n = digits 10 n

-- the word `skip`, or the two numbers with a space between; each ends its line
unfoldable pub text : Line → List ℕ
text skip = 115 ∷ 107 ∷ 105 ∷ 112 ∷ 10 ∷ []
text (line n v) = decimal n ++ (32 ∷ []) ++ decimal v ++ (10 ∷ [])

-- ---- a whole input

-- the first n records
unfoldable pub first_records : ℕ → List ℕ → List (List ℕ)
first_records zero s = []
first_records (suc n) s = take record_length s ∷ first_records n (drop record_length s)

-- "a short last record is ignored"
abbrev pub records_of : List ℕ → List (List ℕ)
records_of s = first_records (length s / record_length) s

-- records one after the other, each on the bytes that the last one left: what is printed, and the bytes after them
unfoldable pub printed : List (List ℕ) → List ℕ → List ℕ
printed [] bs = []
printed (r ∷ rs) bs = text (run_record r bs).shown ++ printed rs (run_record r bs).bytes

unfoldable pub left : List (List ℕ) → List ℕ → List ℕ
left [] bs = bs
left (r ∷ rs) bs = left rs (run_record r bs).bytes

unfoldable pub output : List ℕ → List ℕ → List ℕ
output s bs = printed (records_of s) bs

unfoldable pub after_input : List ℕ → List ℕ → List ℕ
after_input s bs = left (records_of s) bs
