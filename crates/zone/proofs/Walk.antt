-- A property of zones that every call's work keeps: the walk through the calls is made once, for any property.
use mathlib.Core.Path.{◌≡◌, refl}
use mathlib.Core.Bool.{Bool, true, false, ◌&&◌, ◌||◌, not, true≢false}
use mathlib.Core.Option.{Option, none, some, get_or}
use mathlib.Core.List.{List, [], ◌∷◌}
use Prim.Native.Nat.{ℕ, zero, suc, ◌+◌, ◌-◌, ◌*◌, ◌/◌, ◌%◌, ◌≤◌, ◌<◌, min}
use native.Mathlib.Omega.{arith}
use lib.ListN.{length, take, length-replicate}
use lib.Seq.{sets, length-sets}
use lib.Dec.{leb, eqb, eqb-suc-zero}
use borrow.Author.Tests.{leb-true, eqb-true, not-false}
use Rattle.bigendian.specs.BigEndian.{Bytes}
use Rattle.bigendian.proofs.Bytes.{bytes_take, bytes-sets}
use Rattle.block_type.specs.Limits.{reloc_header, reloc_limit, fixed_limit, page_limit, up4, fixed_header, fixed_need, reloc_need, page_need, longest_zone, argument_range, stamp_range}
use Rattle.calls.specs.Calls.{Call, allocate_relocatable, allocate_fixed, free_handle, free_pointer, read, write, size, compact, sums, enlarge, shrink, Target, by_handle, by_pointer, view, roster, check, length_of, resize, by_name, PageCall, create_page, use_page, mark_page, drop_page, on_page, of_page, beside, Given}
use Rattle.calls.specs.Bays.{Bays, over, map_s, on_fixed, on_last, find_f, last_s, max_s}
use Rattle.kinds.specs.Kinds.{Item, item_size, is, has_name, on_data, on_status, key_on_status, Status, Key, of_handle, of_name, KeyFits, Written}
use Rattle.kinds.proofs.KindLaws.{data-size, status-size, status-is, status-name, is-no-page}
use Rattle.calls.specs.State.{Fixed, pointer, with_bays, alter_fixed, new_item, top, rest, own_sum}
use Rattle.calls.specs.Pages.{tick, stamped, new_page, marked, unlocked, among, sum_without, dropping}
use Rattle.zone.proofs.HowMany.{many, release-le}
use Rattle.zone.proofs.Dropping.{page_of, room-made, absent-many, among-handle, mark-stamp}
use Rattle.calls.specs.Table.{below, is_none, is_empty, refusal_of}
use Rattle.calls.proofs.First.{or_left}
use Rattle.bay.specs.Bay as Bay
use Rattle.bay.specs.Bay.{Cell, bay_sum, items, release, gap, join_bays, put}
use Rattle.bay.specs.Counted.{live}
use Rattle.zone.specs.Work as Work
use Rattle.zone.specs.Work.{Zone, facts, with_master, work, pointer_freed, rewrite, make_room, ticked, page_work}
use Rattle.zone.specs.Search.{lookup, place_low, place_high, join_at, resize_in}
use Rattle.bay.proofs.Each.{Each, nothing, just, each-some}
use Rattle.bay.proofs.Sound.{Block}
use Rattle.zone.proofs.Passed.{passed, not-below}
use Rattle.zone.proofs.WithMaster.{with-chain, with-room}
use Rattle.zone.proofs.Entered.{entered}
use Rattle.zone.proofs.Once.{Named, unnamed, named}
use Rattle.zone.proofs.Found.{Found, lost, got, low-found, high-found, join-found, resize-found, block-named}

-- ---- a change of a block's bytes that keeps their number and leaves bytes

pub record Feeds (f : List ℕ → List ℕ) : Type 0 where
  pub long : (l : List ℕ) → length (f l) ≡ length l
  pub feeds : (l : List ℕ) → Bytes l → Bytes (f l)

-- ---- a change of blocks that keeps what names them, their size, and that they can be written

pub record Changes (g : Item → Item) : Type 0 where
  pub long : (e : Item) → item_size (g e) ≡ item_size e
  pub same : (h : ℕ) (e : Item) → is h (g e) ≡ is h e
  pub named : (n : ℕ) (e : Item) → has_name n (g e) ≡ has_name n e
  pub writes : (e : Item) → Written e → Written (g e)

pub changes-data : {f : List ℕ → List ℕ} → Feeds f → Changes (on_data f)
changes-data {f} y = record { long = data-size f y.long; same = λ h e. refl; named = λ n e. refl; writes = λ e w. (y.feeds e.bytes w.0, w.1) }

pub changes-status : (g : Status → Status) → ((s : Status) → s.stamp < stamp_range → (g s).stamp < stamp_range) → Changes (on_status g)
changes-status g f = record { long = status-size g; same = status-is g; named = status-name g; writes = λ e w. (w.0, fits e.key w.1) }
  where
    fits : (k : Key) → KeyFits k → KeyFits (key_on_status g k)
    fits (of_handle h) w = w
    fits (of_name n s) w = (w.0, f s w.1)

fed-write : (i n : ℕ) (second : List ℕ) → Bytes second → Feeds (λ (l : List ℕ). sets l i (take n second))
fed-write i n second y = record { long = λ l. length-sets l i (take n second); feeds = λ l h. bytes-sets (take n second) l i (bytes_take n second y) h }

pub any : {X : Type 0} (o : Option X) → Each (λ (x : X). Unit {0}) o
any none = nothing
any (some x) = just tt

-- ---- each change of a zone that a call's work can make

pub record Closed (P : Zone → Type 0) : Type 0 where
  pub low : (z : Zone) (h : ℕ) (hs : List ℕ) (c : ℕ) → c ≤ reloc_limit → z.chain ≡ h ∷ hs → P z
      → Each (λ (b : Bays (List Cell) Fixed). P (record { buf = z.buf; len = z.len; clock = z.clock; chain = hs; bays = b })) (place_low (new_item h c) z.bays)
  pub high : (z : Zone) (n : ℕ) → Block n → n ≤ fixed_header + fixed_limit → P z → Each (λ (r : Fixed × Bays (List Cell) Fixed). P (with_bays r.1 z)) (place_high n z.len z.bays)
  pub drop : (z : Zone) (h : ℕ) → P z
      → Each (λ (e : Item). P (record { buf = z.buf; len = z.len; clock = z.clock; chain = h ∷ z.chain; bays = map_s (release (is h)) z.bays })) (lookup h z)
  pub join : (z : Zone) (p : ℕ) → P z → Each (λ (b : Bays (List Cell) Fixed). P (with_bays b z)) (join_at p z.bays)
  pub edit : (z : Zone) (ok : Item → Bool) (g : Item → Item) → Changes g → P z → P (with_bays (map_s (Bay.edit ok g) z.bays) z)
  pub edit-fixed : (z : Zone) (p : ℕ) (f : List ℕ → List ℕ) → Feeds f → P z → P (with_bays (on_fixed (alter_fixed p f) z.bays) z)
  pub resize : (z : Zone) (h a : ℕ) → a % 4 ≡ 0 → P z → Each (λ (e : Item). a ≤ reloc_limit → Each (λ (b : Bays (List Cell) Fixed). P (with_bays b z)) (resize_in h a e z.bays)) (lookup h z)
  pub compact_bay : (z : Zone) → P z → P (with_bays (map_s Bay.compact_bay z.bays) z)
  pub grow : (z : Zone) (k : ℕ) → k % 4 ≡ 0 → z.len + k ≤ z.buf → z.len + k ≤ longest_zone → P z
      → P (record { buf = z.buf; len = z.len + k; clock = z.clock; chain = z.chain; bays = on_last (λ (b : List Cell). join_bays b (gap k [])) z.bays })
  pub take_high : (z : Zone) (k n : ℕ) → n ≡ min (k / 4 * 4) (bay_sum (last_s z.bays)) → P z
      → P (record { buf = z.buf; len = z.len - n; clock = z.clock; chain = z.chain; bays = on_last (Bay.take_high n) z.bays })
  -- a new page, of a name that no page has; blocks without a handle become free; the clock steps
  pub page : (z : Zone) (n ck c : ℕ) → n < argument_range → c ≤ page_limit → ck < stamp_range → many (has_name n) z.bays ≡ 0 → P z
      → Each (λ (b : Bays (List Cell) Fixed). P (with_bays b z)) (place_low (new_page n ck c) z.bays)
  pub clear : (z : Zone) (ok : Item → Bool) → ((h : ℕ) (e : Item) → is h e ≡ true → ok e ≡ false) → P z → P (with_bays (map_s (release ok) z.bays) z)
  pub step : (z : Zone) → P z → P (ticked z.bays z)

-- what is found by a search that the table lets through
pub each-got : {A : Type 0} {Q : A → Type 0} {a : A} {t : Bool} {o : Option A} → Found a t o → t ≡ false → Each Q o → Q a
each-got lost e q = absurd (true≢false e)
each-got got e (just q) = q

there : {A : Type 0} (f : A → List ℕ) (o : Option A) → is_none (over length (over f o)) ≡ false → is_none o ≡ false
there f none e = e
there f (some a) e = refl

pub shown : {A : Type 0} (f : A → List ℕ) (o : Option A) → is_none (over length (over f o)) ≡ false → is_none (over f o) ≡ false
shown f none e = e
shown f (some a) e = refl

each-there : {A : Type 0} {R : Type 0} (o : Option A) → is_none o ≡ false → Each (λ (a : A). R) o → R
each-there none e q = absurd (true≢false e)
each-there (some a) e (just r) = r

pub or_parts : (a b c : Bool) → not a || (not b || not c) ≡ false → (a ≡ true) × (b ≡ true) × (c ≡ true)
or_parts true true true e = (refl, refl, refl)
or_parts true true false e = absurd (true≢false e)
or_parts true false c e = absurd (true≢false e)
or_parts false b c e = absurd (true≢false e)

module _ (P : Zone → Type 0) (k : Closed P) (z : Zone) (g : P z) where
  allocated : (c : ℕ) → below reloc_limit c ≡ false → is_empty z.chain ≡ false → below (max_s bay_sum z.bays) (reloc_need c) ≡ false → P (Work.allocate c z).next
  allocated c l e n = go z.chain refl e
    where
      need : (h : ℕ) → below (max_s bay_sum z.bays) (item_size (new_item h c)) ≡ false
      need h = let q : item_size (new_item h c) ≡ reloc_need c = omega (arith, length-replicate {A = ℕ} (up4 c) 0) in rw q n

      go : (hs : List ℕ) → z.chain ≡ hs → is_empty hs ≡ false → P (record { buf = z.buf; len = z.len; clock = z.clock; chain = rest hs; bays = Work.place_low (new_item (top hs) c) z.bays })
      go [] q e = absurd (true≢false e)
      go (h ∷ hs) q e = each-got (low-found bay_sum (item_size (new_item h c)) (put (new_item h c)) z.bays) (need h) (k.low z h hs c (not-below reloc_limit c l) q g)

  fixed-allocated : (c : ℕ) → below fixed_limit c ≡ false → below (max_s bay_sum z.bays) (fixed_need c) ≡ false → P (Work.fixed_allocated c z).next
  fixed-allocated c l n =
      let q : c ≤ fixed_limit = not-below fixed_limit c l in
      each-got {Q = λ (r : Fixed × Bays (List Cell) Fixed). P (with_bays r.1 z)} (high-found bay_sum (Bay.take_high (fixed_need c)) [] (fixed_need c) z.len z.bays) n (k.high z (fixed_need c) (omega arith) (omega (arith, q)) g)

  handle-freed : (h : ℕ) → is_none (over length (over (λ (e : Item). e.bytes) (lookup h z))) ≡ false → P (Work.handle_freed h z).next
  handle-freed h e = each-there (lookup h z) (there (λ (e : Item). e.bytes) (lookup h z) e) (k.drop z h g)

  pointer-freed : (p : ℕ) → is_none (over length (over (λ (x : Fixed). x.bytes) (find_f (λ (x : Fixed). eqb p (pointer x)) z.bays))) ≡ false → P (with_bays (pointer_freed p z.bays) z)
  pointer-freed p e = each-got {Q = λ (b : Bays (List Cell) Fixed). P (with_bays b z)} (join-found (λ b n c. join_bays b (gap n c)) p z.bays) (shown (λ (x : Fixed). x.bytes) (find_f (λ (x : Fixed). eqb p (pointer x)) z.bays) e) (k.join z p g)

  resized-to : (h c : ℕ) → live h z.bays ≤ 1 → below reloc_limit c ≡ false → is_none (over length (over (λ (e : Item). e.bytes) (lookup h z))) ≡ false
      → below (own_sum items bay_sum h z.bays) (up4 c - get_or (over length (over (λ (e : Item). e.bytes) (lookup h z))) 0) && below (max_s bay_sum z.bays) (reloc_header + up4 c) ≡ false
      → P (work (resize h c) z).next
  resized-to h c n l e m = go (lookup h z) refl (block-named h z.bays) e m (k.resize z h (up4 c) (omega arith) g)
    where
      lim : up4 c ≤ reloc_limit
      lim = let q : c ≤ reloc_limit = not-below reloc_limit c l in omega arith

      go : (o : Option Item) → lookup h z ≡ o → Named h o → is_none (over length (over (λ (e : Item). e.bytes) o)) ≡ false
          → below (own_sum items bay_sum h z.bays) (up4 c - get_or (over length (over (λ (e : Item). e.bytes) o)) 0) && below (max_s bay_sum z.bays) (reloc_header + up4 c) ≡ false
          → Each (λ (e : Item). up4 c ≤ reloc_limit → Each (λ (b : Bays (List Cell) Fixed). P (with_bays b z)) (resize_in h (up4 c) e z.bays)) o
          → P (with_bays (Work.resize_in h (up4 c) (get_or (over (λ (e : Item). e.bytes) o) []) z.bays) z)
      go none q unnamed e m r = absurd (true≢false e)
      go (some i) q (named {d = d}) e m r = each-got {Q = λ (b : Bays (List Cell) Fixed). P (with_bays b z)} (resize-found h (up4 c) d z.bays n q) m (each-some r lim)

  rewritten : (t : Target) (f : List ℕ → List ℕ) → Feeds f → P (with_bays (rewrite t f z.bays) z)
  rewritten (by_handle h) f y = k.edit z (is h) (on_data f) (changes-data y) g
  rewritten (by_pointer p) f y = k.edit-fixed z p f y g
  rewritten (by_name n) f y = k.edit z (has_name n) (on_data f) (changes-data y) g

  enlarged : (n : ℕ) → not (eqb (n % 4) 0) || (below z.buf (z.len + n) || below longest_zone (z.len + n)) ≡ false → P (Work.enlarge_by n z).next
  enlarged n e =
      let q = or_parts (eqb (n % 4) 0) (leb (z.len + n) z.buf) (leb (z.len + n) longest_zone) e in
      k.grow z n (eqb-true (n % 4) 0 q.0) (leb-true (z.len + n) z.buf q.1) (leb-true (z.len + n) longest_zone q.2) g

  stripped : (j n : ℕ) → n ≡ min (j / 4 * 4) (bay_sum (last_s z.bays)) → P (Work.strip n z).next
  stripped j zero q = g
  stripped j (suc n) q = rw (eqb-suc-zero n) (k.take_high z j (suc n) q g)

  -- pages: the clock steps, and a new one is placed where the dropping has made room
  created : (n c : ℕ) → n < argument_range → ((i : ℕ) → many (has_name i) z.bays ≤ 1) → z.clock < stamp_range → below page_limit c ≡ false → is_none (over length (over (λ (e : Item). e.bytes) (page_of n z))) ≡ true
      → below (sum_without items bay_sum unlocked z.bays) (page_need c) ≡ false → P (page_work n (create_page c) z).next
  created n c i o t l a m =
      let v : Zone = make_room (page_need c) z in
      let q : item_size (new_page n (tick z.clock) c) ≡ page_need c = omega (arith, length-replicate {A = ℕ} (up4 c) 0) in
      let r : below (max_s bay_sum v.bays) (item_size (new_page n (tick z.clock) c)) ≡ false = rw q (room-made (page_need c) z o m) in
      each-got {Q = λ (b : Bays (List Cell) Fixed). P (ticked b v)} (low-found bay_sum (item_size (new_page n (tick z.clock) c)) (put (new_page n (tick z.clock) c)) v.bays) r
      (k.page (ticked v.bays v) n (tick z.clock) c i (not-below page_limit c l) (omega arith)
      (omega (arith, release-le (has_name n) (among (dropping items bay_sum (page_need c) z)) z.bays, absent-many n z a))
      (k.step v (k.clear z (among (dropping items bay_sum (page_need c) z)) (λ h e y. among-handle (dropping items bay_sum (page_need c) z) h e y) g)))

  paged : (n : ℕ) (p : PageCall) → Given (of_page n p) → ((i : ℕ) → many (has_name i) z.bays ≤ 1) → z.clock < stamp_range → refusal_of (on_page n p) (facts true z) ≡ 0 → P (page_work n p z).next
  paged n (create_page c) i o t e =
      created n c i o t (or_left _ _ (passed (on_page n (create_page c)) z e 3 refl)) (not-false _ (or_left _ _ (passed (on_page n (create_page c)) z e 11 refl))) (or_left _ _ (passed (on_page n (create_page c)) z e 5 refl))
  paged n use_page i o t e = k.edit (ticked z.bays z) (has_name n) _ (changes-status (stamped (tick z.clock)) (λ s l. omega arith)) (k.step z g)
  paged n (mark_page m) i o t e = k.edit z (has_name n) _ (changes-status (marked m) (mark-stamp m)) g
  paged n drop_page i o t e = k.clear z (has_name n) (λ h e y. is-no-page h n e y) g

-- EVERY CALL that nothing refuses, where it holds of the zone that the work starts from; what it is given can be written, no handle and no name stands
-- twice, and the clock is a byte
module _ (P : Zone → Type 0) (k : Closed P) where
  pub work-keeps : (c : Call) (z : Zone) → Given (beside c) → ((h : ℕ) → live h z.bays ≤ 1) → ((i : ℕ) → many (has_name i) z.bays ≤ 1) → z.clock < stamp_range → refusal_of c (facts true z) ≡ 0 → P (entered c z) → P (work c z).next
  work-keeps (allocate_relocatable c) z y o a ck e g =
      allocated P k (with_master z) g c (or_left _ _ (passed (allocate_relocatable c) z e 3 refl)) (with-chain z) (rw (with-room z true) (or_left _ _ (passed (allocate_relocatable c) z e 5 refl)))
  work-keeps (allocate_fixed c) z y o a ck e g = fixed-allocated P k z g c (or_left _ _ (passed (allocate_fixed c) z e 3 refl)) (or_left _ _ (passed (allocate_fixed c) z e 5 refl))
  work-keeps (free_handle h) z y o a ck e g = handle-freed P k z g h (or_left _ _ (passed (free_handle h) z e 6 refl))
  work-keeps (free_pointer p) z y o a ck e g = pointer-freed P k z g p (or_left _ _ (passed (free_pointer p) z e 7 refl))
  work-keeps (resize h c) z y o a ck e g =
      resized-to P k z g h c (o h) (or_left _ _ (passed (resize h c) z e 3 refl)) (or_left _ _ (passed (resize h c) z e 6 refl)) (or_left _ _ (passed (resize h c) z e 5 refl))
  work-keeps (size t) z y o a ck e g = g
  work-keeps (read t i n second) z y o a ck e g = g
  work-keeps (write t i n second) z y o a ck e g = rewritten P k z g t (λ (l : List ℕ). sets l i (take n second)) (fed-write i n second y)
  work-keeps (view t i n) z y o a ck e g = g
  work-keeps compact z y o a ck e g = k.compact_bay z g
  work-keeps sums z y o a ck e g = g
  work-keeps check z y o a ck e g = g
  work-keeps length_of z y o a ck e g = g
  work-keeps (enlarge n) z y o a ck e g = enlarged P k z g n (or_left _ _ (passed (enlarge n) z e 9 refl))
  work-keeps (shrink n) z y o a ck e g = stripped P k z g n _ refl
  work-keeps (roster second) z y o a ck e g = g
  work-keeps (on_page n p) z y o a ck e g = paged P k z g n p y a ck e
