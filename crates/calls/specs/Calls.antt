-- The ledger's calls with their arguments, and what a call answers. Neither a zone nor a ledger is named here.
use Rattle.std.specs.Prelude.{List, [], ℕ, ◌<◌}
use Rattle.bigendian.specs.BigEndian.{to_be, Bytes}
use Rattle.block_type.specs.Limits.{argument_range}

-- "a stretch names its block, by handle or by pointer"; "A stretch may give a name" (document 02, U5)
pub data Target : Type 0 where
  by_handle : ℕ → Target
  by_pointer : ℕ → Target
  by_name : ℕ → Target

-- "Other calls set or clear dirty, set or clear lock"
pub data Mark : Type 0 where
  set_dirty : Mark
  clear_dirty : Mark
  set_lock : Mark
  clear_lock : Mark

-- what is done with the page of a name (document 02, U5)
pub data PageCall : Type 0 where
  -- bytes wanted
  create_page : ℕ → PageCall
  use_page : PageCall
  mark_page : Mark → PageCall
  drop_page : PageCall

-- the calls of a ledger's list
pub data Call : Type 0 where
  -- c
  allocate_relocatable : ℕ → Call
  allocate_fixed : ℕ → Call
  -- handle; pointer
  free_handle : ℕ → Call
  free_pointer : ℕ → Call
  -- handle, c
  resize : ℕ → ℕ → Call
  size : Target → Call
  -- block, offset, count, and the second buffer as it is given
  read : Target → ℕ → ℕ → List ℕ → Call
  write : Target → ℕ → ℕ → List ℕ → Call
  view : Target → ℕ → ℕ → Call
  compact : Call
  sums : Call
  check : Call
  length_of : Call
  -- k
  enlarge : ℕ → Call
  shrink : ℕ → Call
  -- the second buffer as it is given
  roster : List ℕ → Call
  -- name
  on_page : ℕ → PageCall → Call

pub record Answer : Type 0 where
  -- the refusal number, 0 if the call is done
  pub number : ℕ
  -- the values: "A call for which no answer is named answers 0", "A call with several answers gives 0 for each when refused"
  pub value : ℕ
  -- the second value
  pub second : ℕ
  -- the second buffer after the call, all of it, or what a view shows
  pub bytes : List ℕ

-- a refusal number (0 for done), a value, and the second buffer
abbrev pub told_with : ℕ → ℕ → List ℕ → Answer
told_with n v bs = record { number = n; value = v; second = 0; bytes = bs }

-- no second buffer
abbrev pub told : ℕ → ℕ → Answer
told n v = told_with n v []

-- done (n is 0) or refused, with these bytes in the second buffer, or in the view
abbrev pub shows : ℕ → List ℕ → Answer
shows n bs = told_with n 0 bs

-- a refusal number and two values
abbrev pub told_two : ℕ → ℕ → ℕ → Answer
told_two n v w = record { number = n; value = v; second = w; bytes = [] }

-- ---- what a call is given beside the zone

-- "Numbers in every lent buffer, now and later, stand high byte first" (document 02, U1): one of 4 bytes
abbrev pub lent_number : ℕ → List ℕ
lent_number v = to_be 4 v

pub data Beside : Type 0 where
  -- nothing
  alone : Beside
  -- a second buffer, as it is given
  lends : List ℕ → Beside
  -- nothing, and it hands back a part of the zone
  part : Beside
  -- a name, and what is asked of its page
  of_page : ℕ → PageCall → Beside

abbrev pub beside : Call → Beside
beside (allocate_relocatable c) = alone
beside (allocate_fixed c) = alone
beside (free_handle h) = alone
beside (free_pointer p) = alone
beside (resize h c) = alone
beside (size t) = alone
beside (read t i n second) = lends second
beside (write t i n second) = lends second
beside (view t i n) = part
beside compact = alone
beside sums = alone
beside check = alone
beside length_of = alone
beside (enlarge k) = alone
beside (shrink k) = alone
beside (roster second) = lends second
beside (on_page n p) = of_page n p

abbrev pub second_of : Beside → List ℕ
second_of alone = []
second_of (lends second) = second
second_of part = []
second_of (of_page n p) = []

-- what it can be given: bytes in a lent buffer, a name of 32 bits ("Arguments are unsigned 32-bit"). (The definitions take any numbers, so it has to
-- be said where something is written)
abbrev pub Given : Beside → Type 0
Given alone = Unit {0}
Given (lends second) = Bytes second
Given part = Unit {0}
Given (of_page n p) = n < argument_range

-- "A view .. carries no number"
abbrev pub number_told : ℕ → Beside → ℕ
number_told n alone = n
number_told n (lends second) = n
number_told n part = 0
number_told n (of_page k p) = n

-- A CALL REFUSED with number n: 0 for each value (but for 12, whose value v the table has), and the second buffer as it was (a view shows nothing)
abbrev pub refused : Call → ℕ → ℕ → Answer
refused c n v = record { number = number_told n (beside c); value = v; second = 0; bytes = second_of (beside c) }
