-- Document 01, 'The ledger', with document 02's requests. It is fed the calls alone. It holds no place of a movable block and never reads a zone: of a bay it
-- keeps a capacity and what the live handles and the names in it hold. With the zone's definitions it shares State, Bays, Table, Pages (the clock, marks, which
-- pages go: `PageSays` in crate zone says the same in other words), Sort and Roster (how records stand in a buffer), and of Kinds what an item is and how many bytes it takes; of a zone's bays and bytes it
-- has nothing.
use Rattle.std.specs.Prelude.{Bool, true, cond, List, [], ◌∷◌, ◌++◌, map, ℕ, ◌+◌, ◌-◌, ◌*◌, ◌/◌, min, length, take, drop, leb, eqb}
use Rattle.std.proofs.lemmas.List.Edits.{sets}
use Rattle.block_type.specs.Limits.{reloc_header, up4, fixed_need, reloc_need, page_need, zone_header, first_block, added_masters, added_bytes}
use Rattle.calls.specs.Calls.{Target, by_handle, by_pointer, by_name, PageCall, create_page, use_page, mark_page, drop_page, Call, allocate_relocatable, allocate_fixed, free_handle, free_pointer, resize, size, read, write, view, compact, sums, check, length_of, enlarge, shrink, roster, on_page, Answer, told_two, shows, refused}
use Rattle.calls.specs.Roster.{Card, rostered}
use Rattle.calls.specs.Bays.{Bays, last, on_lowest, on_first, map_s, on_fixed, on_last, concat_s, sum_s, max_s, last_s}
use Rattle.kinds.specs.Kinds.{Item, item, is, has_name, on_data, on_status}
use Rattle.calls.specs.State.{total, alter, new_item, sized, listed, handles_from, Fixed, pointer, alter_fixed, State, Out, says, done, with_bays, cut_high, join_at, data_of, own_sum, live_count, master_count, top, rest}
use Rattle.calls.specs.Sort.{sort_by}
use Rattle.calls.specs.Pages.{tick, stamped, new_page, marked, among, dropping}
use Rattle.calls.specs.Table.{Facts, facts_of, refusal_of, refusal_value, is_empty}

-- ---- "State: L; the buffer's length; free handles as a stack; in address order, bays (capacity, live handles with their bytes)
-- and fixed blocks (place, size, bytes)"; "the clock and, in each bay, names with bytes, flags and stamps" (document 02, U5)

pub record Bay : Type 0 where
  pub capacity : ℕ
  pub entries : List Item

abbrev pub Ledger : Type 0
Ledger = State Bay

abbrev pub Layout : Type 0
Layout = Bays Bay Fixed

abbrev pub bay : ℕ → List Item → Bay
bay n es = record { capacity = n; entries = es }

-- "A bay's sum is its capacity less, for each handle, 4 plus data size", for each name "8 plus its data size"
abbrev pub sum_of : Bay → ℕ
sum_of b = b.capacity - total b.entries

abbrev pub entries_of : Bay → List Item
entries_of b = b.entries

-- ---- changing bays

abbrev pub on_entries : (List Item → List Item) → Bay → Bay
on_entries f b = bay b.capacity (f b.entries)

-- the lowest bay whose sum reaches n gets the entry e
abbrev pub enter : ℕ → Item → Layout → Layout
enter n e l = on_lowest (λ b. leb n (sum_of b)) (on_entries (e ∷◌)) l

-- the entries that do not pass the test
abbrev pub without : (Item → Bool) → List Item → List Item
without t [] = []
without t (e ∷ es) = cond (t e) (without t es) (e ∷ without t es)

-- the entries that pass the test changed by g
abbrev pub on_those : (Item → Bool) → (Item → Item) → Layout → Layout
on_those t g l = map_s (on_entries (map (alter t g))) l

-- the bytes of a block changed by f
abbrev pub change : Target → (List ℕ → List ℕ) → Layout → Layout
change (by_handle h) f l = on_those (is h) (on_data f) l
change (by_pointer p) f l = on_fixed (alter_fixed p f) l
change (by_name n) f l = on_those (has_name n) (on_data f) l

abbrev pub less : ℕ → Bay → Bay
less n b = bay (b.capacity - n) b.entries

-- in the highest bay whose sum reaches n: "with an empty bay after it, and the bay's capacity falls by that size"
abbrev pub highest : ℕ → ℕ → Layout → Fixed × Layout
highest n end l = cut_high sum_of (less n) (bay 0 []) n end l

-- "freeing it joins both bays and adds its size"
abbrev pub strike : ℕ → Layout → Layout
strike p l = join_at (λ b n c. bay (b.capacity + n + c.capacity) (b.entries ++ c.entries)) p l

-- "resize changes or moves one entry": in its own bay if that reaches "a − b, or 0 for a ≤ b", else in the lowest bay whose sum reaches
-- 4 + a; d are its bytes
abbrev pub resize_in : ℕ → ℕ → List ℕ → Layout → Layout
resize_in h a d l =
    cond (leb (a - length d) (own_sum entries_of sum_of h l))
    (change (by_handle h) (sized a) l)
    (enter (reloc_header + a) (item h (sized a d)) (map_s (on_entries (without (is h))) l))

-- ---- document 02, U3: "The ledger's first capacity falls by 32 and its stack gains eight" (it is empty here)

abbrev pub more_masters : Ledger → Ledger
more_masters l = record { buf = l.buf; len = l.len; clock = l.clock; chain = handles_from (first_block (master_count entries_of l)) added_masters; bays = on_first (less added_bytes) l.bays }

-- "When a relocatable allocation finds the chain empty"
abbrev pub with_master : Ledger → Ledger
with_master l = cond (is_empty l.chain) (more_masters l) l

-- ---- document 02, U5: pages

-- the entries that pass the test are gone
abbrev pub strike_out : (Item → Bool) → Ledger → Ledger
strike_out t l = with_bays (map_s (on_entries (without t)) l.bays) l

-- "If no bay's sum reaches the need, unlocked named blocks are dropped .. until one does"
abbrev pub make_room : ℕ → Ledger → Ledger
make_room need l = strike_out (among (dropping entries_of sum_of need l)) l

-- "step the clock by one modulo 256 and stamp the block with it": other bays, with the next clock. The data offset is not the ledger's to know
abbrev pub stepped : Layout → Ledger → Out Bay
stepped b l = done 0 (record { buf = l.buf; len = l.len; clock = tick l.clock; chain = l.chain; bays = b })

abbrev pub page_created : ℕ → ℕ → Ledger → Out Bay
page_created n c l = stepped (enter (page_need c) (new_page n (tick l.clock) c) l.bays) l

abbrev pub page_work : ℕ → PageCall → Ledger → Out Bay
page_work n (create_page c) l = page_created n c (make_room (page_need c) l)
page_work n use_page l = stepped (on_those (has_name n) (on_status (stamped (tick l.clock))) l.bays) l
page_work n (mark_page m) l = done 0 (with_bays (on_those (has_name n) (on_status (marked m)) l.bays) l)
-- "drop, which heeds neither flag"
page_work n drop_page l = done 0 (strike_out (has_name n) l)

-- ---- the work of each call that nothing refuses: the answer, and the ledger after the call

-- "a relocatable one takes the handle on top of the stack"
abbrev pub allocate : ℕ → Ledger → Out Bay
allocate c l =
    done (top l.chain) (record { buf = l.buf; len = l.len; clock = l.clock; chain = rest l.chain; bays = enter (reloc_need c) (new_item (top l.chain) c) l.bays })

abbrev pub fixed_allocated : ℕ → Ledger → Out Bay
fixed_allocated c l = done (pointer (highest (fixed_need c) l.len l.bays).0) (with_bays (highest (fixed_need c) l.len l.bays).1 l)

-- "freeing a handle puts it back there"
abbrev pub handle_freed : ℕ → Ledger → Out Bay
handle_freed h l = done 0 (record { buf = l.buf; len = l.len; clock = l.clock; chain = h ∷ l.chain; bays = map_s (on_entries (without (is h))) l.bays })

-- "enlarge and shrink change L and the last capacity"
abbrev pub enlarge_by : ℕ → Ledger → Out Bay
enlarge_by k l = done 0 (record { buf = l.buf; len = l.len + k; clock = l.clock; chain = l.chain; bays = on_last (λ b. bay (b.capacity + k) b.entries) l.bays })

-- "strips s, the lesser of k rounded down to a multiple of 4 and the last bay's sum"; n is s
abbrev pub strip : ℕ → Ledger → Out Bay
strip n l = done n (record { buf = l.buf; len = l.len - n; clock = l.clock; chain = l.chain; bays = on_last (less n) l.bays })

-- "Roster records come by rising handle" (document 02, U1): each live handle with its data size, sorted by handle

abbrev pub sorted_by_handle : List Card → List Card
sorted_by_handle cs = sort_by (λ (c d : Card). leb c.handle d.handle) cs

abbrev pub cards : Ledger → List Card
cards l = sorted_by_handle (concat_s (λ (b : Bay). listed b.entries) l.bays)

abbrev pub work : Call → Ledger → Out Bay
work (allocate_relocatable c) l = allocate c (with_master l)
work (allocate_fixed c) l = fixed_allocated c l
work (free_handle h) l = handle_freed h l
work (free_pointer p) l = done 0 (with_bays (strike p l.bays) l)
work (resize h c) l = done 0 (with_bays (resize_in h (up4 c) (data_of entries_of (by_handle h) l) l.bays) l)
work (size t) l = done (length (data_of entries_of t l)) l
work (read t i n second) l = says (shows 0 (take n (drop i (data_of entries_of t l)) ++ drop n second)) l
-- "write replaces bytes"
work (write t i n second) l = says (shows 0 second) (with_bays (change t (λ (w : List ℕ). sets w i (take n second)) l.bays) l)
work (view t i n) l = says (shows 0 (take n (drop i (data_of entries_of t l)))) l
-- "compact changes nothing"; it answers the largest sum
work compact l = done (max_s sum_of l.bays) l
work sums l = says (told_two 0 (sum_s sum_of l.bays) (max_s sum_of l.bays)) l
-- "check answers yes and the number of live handles"
work check l = says (told_two 0 1 (live_count entries_of l)) l
work length_of l = done l.len l
work (enlarge k) l = enlarge_by k l
work (shrink k) l = strip (min (k / 4 * 4) (sum_of (last_s l.bays))) l
work (roster second) l = says (rostered (cards l) second) l
work (on_page n p) l = page_work n p l

-- ---- a step: "Refusals follow the table, by this state and the call; 1 never comes", "A refused call leaves the state"

abbrev pub facts : Ledger → Facts
facts l = facts_of entries_of sum_of true l

-- n is the refusal number
abbrev pub step_with : ℕ → Call → Ledger → Out Bay
step_with n c l = cond (eqb n 0) (work c l) (says (refused c n (refusal_value n c (facts l))) l)

abbrev pub step : Call → Ledger → Out Bay
step c l = step_with (refusal_of c (facts l)) c l

-- ---- from initialization on

-- "Initialization leaves handles 16, 20 and so on from the top of the stack, one bay of capacity L − 16 − 4m, and no fixed block"; "the clock
-- starts at 0"
abbrev pub initial : ℕ → ℕ → ℕ → Ledger
initial buf len m = record { buf = buf; len = len; clock = 0; chain = handles_from zone_header m; bays = last (bay (len - first_block m) []) }

-- the answers of a list of calls, and the ledger after it
abbrev pub run : List Call → Ledger → List Answer
run [] l = []
run (c ∷ cs) l = (step c l).answer ∷ run cs (step c l).next

abbrev pub ledger_after : List Call → Ledger → Ledger
ledger_after [] l = l
ledger_after (c ∷ cs) l = ledger_after cs (step c l).next
