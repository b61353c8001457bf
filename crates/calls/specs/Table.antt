-- Document 01, 'Refused calls': THE TABLE, said once, for the zone and for the ledger ("Refusals follow the table, by this state and
-- the call"). Which causes a call can have, when each holds, and "Order: 1, 2, 6, 7, 3, 4, 5, 8, 9, 10", with document 02's numbers in their places.
use Rattle.std.specs.Prelude.{Bool, true, false, cond, ◌&&◌, ◌||◌, not, List, [], ◌∷◌, ◌++◌, ℕ, ◌+◌, ◌-◌, ◌*◌, ◌%◌, length, eqb, leb}
use Rattle.std.proofs.Math.Option.{Option, none, some, get_or}
use Rattle.block_type.specs.Limits.{reloc_header, reloc_limit, fixed_limit, page_limit, up4, reloc_need, fixed_need, page_need, first_block, longest_zone, most_masters, added_masters, added_bytes, record_size}
use Rattle.calls.specs.Bays.{over, max_s, max_less, first_s}
use Rattle.kinds.specs.Kinds.{Item}
use Rattle.calls.specs.State.{State, content, own_sum, live_count, master_count}
use Rattle.calls.specs.LentLimits.{lent_ok}
use Rattle.calls.specs.Pages.{unlocked, first_dirty, sum_without, dropping}
use Rattle.calls.specs.Calls.{Target, by_handle, by_pointer, by_name, PageCall, create_page, use_page, mark_page, drop_page, Call, allocate_relocatable, allocate_fixed, free_handle, free_pointer, resize, size, read, write, view, compact, sums, check, length_of, enlarge, shrink, roster, on_page, Beside, alone, lends, part, of_page, beside}

-- ---- what the table asks of a zone, or of a ledger

pub record Facts : Type 0 where
  -- the buffer holds a well-formed zone
  pub well : Bool
  -- the buffer's length, and L
  pub buf : ℕ
  pub len : ℕ
  -- the free handles, and m
  pub chain : List ℕ
  pub masters : ℕ
  -- the data size of the block that is so named, none where there is no such block
  pub size : Target → Option ℕ
  -- the largest bay's sum, and the sum of the bay that has a handle (0 where none has it)
  pub largest : ℕ
  pub own : ℕ → ℕ
  -- the first bay's sum, and the largest sum after the bytes of eight more masters are taken from the first bay
  pub first_sum : ℕ
  pub largest_after : ℕ
  -- the largest sum once all unlocked pages are gone, dirty ones too
  pub largest_emptied : ℕ
  -- where the dropping for a need stops: the name of the first dirty page that it would reach, none where it reaches none
  pub stop : ℕ → Option ℕ
  -- the number of live handles
  pub live : ℕ

-- of a state with these movable blocks in a bay, and this sum; `well` is whether the buffer holds a well-formed zone
abbrev pub facts_of : {B : Type 0} → (B → List Item) → (B → ℕ) → Bool → State B → Facts
facts_of all μ well s = record {
  well = well;
  buf = s.buf;
  len = s.len;
  chain = s.chain;
  masters = master_count all s;
  size = λ t. over length (content all t s.bays);
  largest = max_s μ s.bays;
  own = λ h. own_sum all μ h s.bays;
  first_sum = μ (first_s s.bays);
  largest_after = max_less μ added_bytes s.bays;
  largest_emptied = sum_without all μ unlocked s.bays;
  stop = λ need. first_dirty (dropping all μ need s);
  live = live_count all s;
}

-- ---- the causes

pub record Cause : Type 0 where
  pub number : ℕ
  pub holds : Bool

abbrev pub cause : ℕ → Bool → Cause
cause n b = record { number = n; holds = b }

-- a is below b
abbrev pub below : ℕ → ℕ → Bool
below a b = not (leb b a)

abbrev pub is_none : {A : Type 0} → Option A → Bool
is_none none = true
is_none (some a) = false

abbrev pub is_empty : {A : Type 0} → List A → Bool
is_empty [] = true
is_empty (a ∷ l) = false

-- 1: "zone not well-formed (all calls but initialize and check)"
abbrev pub not_well_formed : Facts → Cause
not_well_formed f = cause 1 (not f.well)

-- 2: "initialize: length not a multiple of 4, below 16 + 4m, above the buffer or 1,048,576; m above 8,188"
abbrev pub bad_initialize : ℕ → ℕ → ℕ → Cause
bad_initialize buf n m =
    cause 2 (not (eqb (n % 4) 0) || (below n (first_block m) || (below buf n || (below longest_zone n || below most_masters m))))

-- 3: "c above 32,760 (relocatable, resize)"; "Create gives 3 for c above 32,756" (document 02, U5); "3 for fixed blocks: c above 32,760" (U6)
abbrev pub too_large : ℕ → ℕ → Cause
too_large limit c = cause 3 (below limit c)

-- 4: "allocate relocatable: chain empty", and (document 02, U3) "m + 8 above 8,188 or the first bay's sum below 32"
abbrev pub no_master : Facts → Cause
no_master f = cause 4 (is_empty f.chain && (below most_masters (f.masters + added_masters) || below f.first_sum added_bytes))

-- 5: "no bay as required"; n is the largest sum (of a create: the largest one after "dropping all unlocked blocks")
abbrev pub no_bay : ℕ → ℕ → Cause
no_bay need n = cause 5 (below n need)

-- the largest sum that a new relocatable block finds: where the chain is empty, "The block's need is tested against the sums after those 32
-- bytes are taken" (document 02, U3)
abbrev pub room_sum : Facts → ℕ
room_sum f = cond (is_empty f.chain) f.largest_after f.largest

-- 5 of a resize: "4 + a, but of its own bay a − b, or 0 for a ≤ b", where a is the new data size and b the old (of a handle that
-- is not live 6 comes first)
abbrev pub no_bay_to_resize : ℕ → ℕ → Facts → Cause
no_bay_to_resize h a f =
    cause 5 (below (f.own h) (a - get_or (f.size (by_handle h)) 0) && below f.largest (reloc_header + a))

-- 6: "handle not live", 7: "pointer not that of a fixed block", 13: "name absent" (document 02, U5)
abbrev pub no_block : Target → Facts → Cause
no_block (by_handle h) f = cause 6 (is_none (f.size (by_handle h)))
no_block (by_pointer p) f = cause 7 (is_none (f.size (by_pointer p)))
no_block (by_name n) f = cause 13 (is_none (f.size (by_name n)))

-- 11: "create of a present name" (document 02, U5)
abbrev pub present : ℕ → Facts → Cause
present n f = cause 11 (not (is_none (f.size (by_name n))))

-- 12: "the dropping would reach a dirty block" (document 02, U5)
abbrev pub reaches_dirty : ℕ → Facts → Cause
reaches_dirty need f = cause 12 (not (is_none (f.stop need)))

-- 8: "offset + count, unwrapped, above data size" (of a block that is not there 6, 13 or 7 comes first)
abbrev pub past_end : Target → ℕ → ℕ → Facts → Cause
past_end t i n f = cause 8 (below (get_or (f.size t) 0) (i + n))

-- 9: "enlarge: k no multiple of 4, or past buffer or 1,048,576"
abbrev pub bad_enlarge : ℕ → Facts → Cause
bad_enlarge k f = cause 9 (not (eqb (k % 4) 0) || (below f.buf (f.len + k) || below longest_zone (f.len + k)))

-- 10: "second buffer too short"
abbrev pub too_short : List ℕ → ℕ → Cause
too_short second n = cause 10 (below (length second) n)

-- 14: "a length other than 0 or 76, or a rule broken" (document 02, U7)
abbrev pub bad_limits : List ℕ → Cause
bad_limits lent = cause 14 (not (lent_ok lent))

-- ---- the causes that a call can have, in any order

abbrev pub page_causes : ℕ → PageCall → Facts → List Cause
page_causes n (create_page c) f = present n f ∷ too_large page_limit c ∷ no_bay (page_need c) f.largest_emptied ∷ reaches_dirty (page_need c) f ∷ []
page_causes n use_page f = no_block (by_name n) f ∷ []
page_causes n (mark_page m) f = no_block (by_name n) f ∷ []
page_causes n drop_page f = no_block (by_name n) f ∷ []

abbrev pub causes : Call → Facts → List Cause
causes (allocate_relocatable c) f = not_well_formed f ∷ too_large reloc_limit c ∷ no_master f ∷ no_bay (reloc_need c) (room_sum f) ∷ []
causes (allocate_fixed c) f = not_well_formed f ∷ too_large fixed_limit c ∷ no_bay (fixed_need c) f.largest ∷ []
causes (free_handle h) f = not_well_formed f ∷ no_block (by_handle h) f ∷ []
causes (free_pointer p) f = not_well_formed f ∷ no_block (by_pointer p) f ∷ []
causes (resize h c) f = not_well_formed f ∷ too_large reloc_limit c ∷ no_bay_to_resize h (up4 c) f ∷ no_block (by_handle h) f ∷ []
causes (size t) f = not_well_formed f ∷ no_block t f ∷ []
causes (read t i n second) f = not_well_formed f ∷ no_block t f ∷ past_end t i n f ∷ too_short second n ∷ []
causes (write t i n second) f = not_well_formed f ∷ no_block t f ∷ past_end t i n f ∷ too_short second n ∷ []
causes (view t i n) f = not_well_formed f ∷ no_block t f ∷ past_end t i n f ∷ []
causes compact f = not_well_formed f ∷ []
causes sums f = not_well_formed f ∷ []
causes check f = []
causes length_of f = not_well_formed f ∷ []
causes (enlarge k) f = not_well_formed f ∷ bad_enlarge k f ∷ []
causes (shrink k) f = not_well_formed f ∷ []
causes (roster second) f = not_well_formed f ∷ too_short second (record_size * f.live) ∷ []
causes (on_page n p) f = not_well_formed f ∷ page_causes n p f

-- ---- the order: what comes before "no bay as required", that, and what comes after: "11: .. after 7. 12: .. after 5 .. 13: .. right after 6", "14: .. after 1"

abbrev pub before_no_bay : List ℕ
before_no_bay = 1 ∷ 14 ∷ 2 ∷ 6 ∷ 13 ∷ 7 ∷ 11 ∷ 3 ∷ 4 ∷ []

abbrev pub after_no_bay : List ℕ
after_no_bay = 12 ∷ 8 ∷ 9 ∷ 10 ∷ []

abbrev pub order : List ℕ
order = before_no_bay ++ (5 ∷ after_no_bay)

-- whether the cause of this number holds
abbrev pub holds_in : ℕ → List Cause → Bool
holds_in n [] = false
holds_in n (c ∷ cs) = (eqb n c.number && c.holds) || holds_in n cs

-- the first number that holds; 0 for none
abbrev pub first : List ℕ → List Cause → ℕ
first [] cs = 0
first (n ∷ ns) cs = cond (holds_in n cs) n (first ns cs)

-- of initialize
abbrev pub init_refusal : ℕ → ℕ → ℕ → ℕ
init_refusal buf n m = first order (bad_initialize buf n m ∷ [])

-- of a census that is lent these bytes
abbrev pub census_refusal : Facts → List ℕ → ℕ
census_refusal f lent = first order (not_well_formed f ∷ bad_limits lent ∷ [])

-- what a refused call answers beside its number: "its value, alone among refusals, is that block's name" of a create refused with 12 (document 02,
-- U5), and 0 of all others
abbrev pub page_value : ℕ → PageCall → Facts → ℕ
page_value n (create_page c) f = cond (eqb n 12) (get_or (f.stop (page_need c)) 0) 0
page_value n use_page f = 0
page_value n (mark_page m) f = 0
page_value n drop_page f = 0

abbrev pub value_beside : ℕ → Beside → Facts → ℕ
value_beside n alone f = 0
value_beside n (lends second) f = 0
value_beside n part f = 0
value_beside n (of_page k p) f = page_value n p f

abbrev pub refusal_value : ℕ → Call → Facts → ℕ
refusal_value n c f = value_beside n (beside c) f

-- THE REFUSAL NUMBER OF A CALL, 0 where nothing refuses it
abbrev pub refusal_of : Call → Facts → ℕ
refusal_of c f = first order (causes c f)
