-- Document 01, 'Bays and the calls', with document 02's requests: the work of each call that nothing refuses. (A refused call does nothing: `call` says so. What these
-- functions give of it is a value that nobody asks for.)
use Rattle.std.specs.Prelude.{Bool, cond, not, List, [], ◌∷◌, ◌++◌, ℕ, ◌+◌, ◌-◌, ◌*◌, ◌/◌, min, length, take, drop, leb, eqb}
use Rattle.std.proofs.Math.Option.{Option, none, some}
use Rattle.std.proofs.lemmas.List.Edits.{sets}
use Rattle.block_type.specs.Limits.{up4, fixed_need, page_need, zone_header, first_block, added_masters, added_bytes}
use Rattle.calls.specs.Calls.{Target, by_handle, by_pointer, by_name, PageCall, create_page, use_page, mark_page, drop_page, Call, allocate_relocatable, allocate_fixed, free_handle, free_pointer, resize, size, read, write, view, compact, sums, check, length_of, enlarge, shrink, roster, on_page, told_two, shows}
use Rattle.calls.specs.Roster.{Card, rostered}
use Rattle.calls.specs.Bays.{Bays, last, on_lowest, on_first, map_s, on_fixed, on_last, find_s, sum_s, max_s, last_s}
use Rattle.kinds.specs.Kinds.{Item, item, item_size, is, on_data, has_name, on_status}
use Rattle.calls.specs.State.{get, new_item, sized, card, handles_from, Fixed, pointer, alter_fixed, State, Out, says, done, with_bays, cut_high, join_at, data_of, own_sum, live_count, master_count, top, rest}
use Rattle.calls.specs.Pages.{tick, stamped, new_page, marked, among, dropping}
use Rattle.calls.specs.Table.{Facts, facts_of, is_none, is_empty}
use Rattle.structure.specs.Structure.{place_of}
use Rattle.zone.specs.Group.{flatten}
use Rattle.bay.specs.Bay.{Cell, bay_sum, items, gap, join_bays, compact_bay, packed_less, put, take_high, release, edit, reshape}

-- a zone's bay is its blocks in address order
abbrev pub Zone : Type 0
Zone = State (List Cell)

-- what the table asks of it
abbrev pub facts : Bool → Zone → Facts
facts well z = facts_of items bay_sum well z

-- ---- document 02, U3: more masters

-- "eight masters are added: the first bay gives up 32 bytes at its start, its blocks stand right after those in old order without gaps, and
-- the rest of that bay, if any, is one free block at its end. The new masters are chained ascending" (the chain is empty here, and the first of
-- them lies where bkFst was)
abbrev pub more_masters : Zone → Zone
more_masters z = record { buf = z.buf; len = z.len; clock = z.clock; chain = handles_from (first_block (master_count items z)) added_masters; bays = on_first (packed_less added_bytes) z.bays }

-- "When a relocatable allocation finds the chain empty"
abbrev pub with_master : Zone → Zone
with_master z = cond (is_empty z.chain) (more_masters z) z

-- ---- allocate, free, resize

-- "Bay: the lowest whose sum reaches the need"
abbrev pub place_low : Item → Bays (List Cell) Fixed → Bays (List Cell) Fixed
place_low e s = on_lowest (λ b. leb (item_size e) (bay_sum b)) (put e) s

-- "takes the chain's head", "Answers the handle"
abbrev pub allocate : ℕ → Zone → Out (List Cell)
allocate c z =
    done (top z.chain) (record { buf = z.buf; len = z.len; clock = z.clock; chain = rest z.chain; bays = place_low (new_item (top z.chain) c) z.bays })

-- "the highest bay whose sum reaches the need"
abbrev pub place_high : ℕ → ℕ → Bays (List Cell) Fixed → Fixed × Bays (List Cell) Fixed
place_high n end s = cut_high bay_sum (take_high n) [] n end s

abbrev pub fixed_allocated : ℕ → Zone → Out (List Cell)
fixed_allocated c z = done (pointer (place_high (fixed_need c) z.len z.bays).0) (with_bays (place_high (fixed_need c) z.len z.bays).1 z)

-- "the master goes to the chain's head"
abbrev pub handle_freed : ℕ → Zone → Out (List Cell)
handle_freed h z = done 0 (record { buf = z.buf; len = z.len; clock = z.clock; chain = h ∷ z.chain; bays = map_s (release (is h)) z.bays })

-- "the block becomes free, merged with free neighbours"
abbrev pub pointer_freed : ℕ → Bays (List Cell) Fixed → Bays (List Cell) Fixed
pointer_freed p s = join_at (λ b n c. join_bays b (gap n c)) p s

abbrev pub has : ℕ → List Cell → Bool
has h b = not (is_none (get (is h) (items b)))

-- "if its own bay's sum reaches a − b, it grows there", "Otherwise it moves to the lowest bay whose sum reaches 4 + a, as an allocation
-- does, and the old place is freed" (first: its own bay lacks a − b, so with the freed 4 + b bytes it still lacks 4 + a); d are its data
abbrev pub resize_in : ℕ → ℕ → List ℕ → Bays (List Cell) Fixed → Bays (List Cell) Fixed
resize_in h a d s =
    cond (leb (a - length d) (own_sum items bay_sum h s))
    (on_lowest (has h) (reshape h a) s)
    (place_low (item h (sized a d)) (map_s (release (is h)) s))

-- ---- write, enlarge, shrink

-- the data of the block changed by f
abbrev pub rewrite : Target → (List ℕ → List ℕ) → Bays (List Cell) Fixed → Bays (List Cell) Fixed
rewrite (by_handle h) f s = map_s (edit (is h) (on_data f)) s
rewrite (by_pointer p) f s = on_fixed (alter_fixed p f) s
rewrite (by_name n) f s = map_s (edit (has_name n) (on_data f)) s

-- "L grows by k, new bytes free, zero and merged with a free last block"
abbrev pub enlarge_by : ℕ → Zone → Out (List Cell)
enlarge_by k z = done 0 (record { buf = z.buf; len = z.len + k; clock = z.clock; chain = z.chain; bays = on_last (λ b. join_bays b (gap k [])) z.bays })

-- "for s = 0 no byte changes; else the last bay is compacted first, unless its last block is free and has at least s bytes"; n is s
abbrev pub strip : ℕ → Zone → Out (List Cell)
strip n z =
    cond (eqb n 0)
    (done 0 z)
    (done n (record { buf = z.buf; len = z.len - n; clock = z.clock; chain = z.chain; bays = on_last (take_high n) z.bays }))

-- ---- roster: "Each once"; "Roster records come by rising handle" (document 02, U1): through the masters, a record for each that has a block

-- the record of the handle h, where it has a block
abbrev pub card_if : ℕ → Option Item → List Card
card_if h none = []
card_if h (some e) = card e h ∷ []

-- of each of the handles; f finds a handle's block
abbrev pub cards_of : (ℕ → Option Item) → List ℕ → List Card
cards_of f [] = []
cards_of f (h ∷ hs) = card_if h (f h) ++ cards_of f hs

abbrev pub cards : Zone → List Card
cards z = cards_of (λ h. find_s (λ (b : List Cell). get (is h) (items b)) z.bays) (handles_from zone_header (master_count items z))

-- ---- document 02, U5: pages

-- the blocks that pass the test become free
abbrev pub clear_out : (Item → Bool) → Zone → Zone
clear_out t z = with_bays (map_s (release t) z.bays) z

-- "If no bay's sum reaches the need, unlocked named blocks are dropped .. until one does"
abbrev pub make_room : ℕ → Zone → Zone
make_room need z = clear_out (among (dropping items bay_sum need z)) z

-- "the data offset" of the page of name n: bkFst is where the first block lies
abbrev pub data_offset : ℕ → Zone → ℕ
data_offset n z = place_of (has_name n) (first_block (master_count items z)) (flatten z.bays)

-- "Both answer the data offset"
abbrev pub tells_place : ℕ → Zone → Out (List Cell)
tells_place n z = done (data_offset n z) z

-- "step the clock by one modulo 256": the zone with other bays and the next clock
abbrev pub ticked : Bays (List Cell) Fixed → Zone → Zone
ticked b z = record { buf = z.buf; len = z.len; clock = tick z.clock; chain = z.chain; bays = b }

-- "is placed as a relocatable block is"
abbrev pub page_created : ℕ → ℕ → Zone → Out (List Cell)
page_created n c z = tells_place n (ticked (place_low (new_page n (tick z.clock) c) z.bays) z)

abbrev pub page_work : ℕ → PageCall → Zone → Out (List Cell)
page_work n (create_page c) z = page_created n c (make_room (page_need c) z)
-- "stamp the block with it"
page_work n use_page z = tells_place n (ticked (map_s (edit (has_name n) (on_status (stamped (tick z.clock)))) z.bays) z)
page_work n (mark_page m) z = done 0 (with_bays (map_s (edit (has_name n) (on_status (marked m))) z.bays) z)
-- "drop, which heeds neither flag"
page_work n drop_page z = done 0 (clear_out (has_name n) z)

-- ---- THE WORK OF EACH CALL

abbrev pub work : Call → Zone → Out (List Cell)
work (allocate_relocatable c) z = allocate c (with_master z)
work (allocate_fixed c) z = fixed_allocated c z
work (free_handle h) z = handle_freed h z
work (free_pointer p) z = done 0 (with_bays (pointer_freed p z.bays) z)
work (resize h c) z = done 0 (with_bays (resize_in h (up4 c) (data_of items (by_handle h) z) z.bays) z)
-- "Size takes the block alone and answers its data size"
work (size t) z = done (length (data_of items t z)) z
-- "copy count bytes to .. the start of a second buffer; read leaves its later bytes"
work (read t i n second) z = says (shows 0 (take n (drop i (data_of items t z)) ++ drop n second)) z
-- "copy count bytes .. from the start of a second buffer", which stays as it is
work (write t i n second) z = says (shows 0 second) (with_bays (rewrite t (λ (l : List ℕ). sets l i (take n second)) z.bays) z)
-- "A view hands back that part of the zone itself"
work (view t i n) z = says (shows 0 (take n (drop i (data_of items t z)))) z
-- "every bay; answers the largest sum"
work compact z = done (max_s bay_sum z.bays) (with_bays (map_s compact_bay z.bays) z)
-- "total of free bytes and the largest bay's sum"
work sums z = says (told_two 0 (sum_s bay_sum z.bays) (max_s bay_sum z.bays)) z
-- "yes or no, and the number of relocatable blocks": yes, where nothing refuses it
work check z = says (told_two 0 1 (live_count items z)) z
-- "Length: L"
work length_of z = done z.len z
work (enlarge k) z = enlarge_by k z
-- "strips s, the lesser of k rounded down to a multiple of 4 and the last bay's sum"
work (shrink k) z = strip (min (k / 4 * 4) (bay_sum (last_s z.bays))) z
work (roster second) z = says (rostered (cards z) second) z
work (on_page n p) z = page_work n p z

-- initialize: "chain ascending; one free block, or none"; "the clock starts at 0"
abbrev pub fresh : ℕ → ℕ → ℕ → Zone
fresh buf n m = record { buf = buf; len = n; clock = 0; chain = handles_from zone_header m; bays = last (gap (n - first_block m) []) }
