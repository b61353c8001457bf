-- A call that nothing refuses does the same work on a zone and on the ledger that is one with it: the same answer, and again one.
use mathlib.Core.Path.{◌≡◌, refl, ap, ap₂, ◌∙◌}
use mathlib.Core.Bool.{Bool, true, false, cond, ◌&&◌, not, true≢false}
use mathlib.Core.Option.{Option, none, some, get_or}
use mathlib.Core.List.{List, [], ◌++◌, map, ◌∷◌}
use Prim.Native.Nat.{ℕ, zero, suc, ◌+◌, ◌-◌, ◌*◌, ◌/◌, ◌%◌, ◌≤◌, min}
use native.Mathlib.Omega.{arith}
use lib.ListN.{length, take, drop, length-replicate}
use lib.Seq.{sets, length-sets}
use lib.Dec.{leb, eqb, eqb-suc-zero}
use borrow.Author.Tests.{leb-true, eqb-true}
use Rattle.block_type.specs.Limits.{reloc_header, up4, reloc_need, fixed_need, longest_zone, added_bytes}
use Rattle.calls.specs.Calls.{Target, by_handle, by_pointer, Call, allocate_relocatable, allocate_fixed, free_handle, free_pointer, read, write, size, compact, sums, enlarge, shrink, view, roster, check, length_of, resize, Answer, told, told_two, shows}
use Rattle.calls.specs.Roster.{Card, rostered}
use Rattle.calls.specs.Bays.{Bays, last, more, over, or_else, on_lowest, map_s, on_last, find_s, find_f, last_s, max_s}
use Rattle.kinds.specs.Kinds.{Item, item_size, item, is, on_data}
use Rattle.calls.specs.State.{get, new_item, sized, alter, Fixed, fsize, pointer, new_fixed, alter_fixed, Out, data_of, own_sum, top}
use Rattle.calls.specs.Table.{below, is_none, refusal_of}
use Rattle.calls.proofs.First.{or_left}
use Rattle.ledger.specs.Ledger as Book
use Rattle.ledger.specs.Ledger.{Bay, Ledger, bay, sum_of, entries_of, on_entries, without, less}
use Rattle.bay.specs.Bay.{Cell, bay_sum, items, gap, join_bays, put, take_high, release, compact_bay, packed_less, edit, reshape}
use Rattle.bay.specs.Counted.{count, live, room_for}
use Rattle.zone.specs.Search.{own}
use Rattle.zone.specs.Work as Work
use Rattle.zone.specs.Work.{Zone, has}
use Rattle.block_type.specs.Limits.{page_need}
use Rattle.kinds.specs.Kinds.{has_name, on_status}
use Rattle.kinds.proofs.KindLaws.{data-size, status-size}
use Rattle.calls.specs.Calls.{by_name, PageCall, create_page, use_page, mark_page, drop_page, on_page}
use Rattle.calls.specs.Pages.{tick, stamped, new_page, marked, among, dropping}
use Rattle.zone.specs.Claim.{compared_page, compared}
use Rattle.zone.proofs.HowMany.{many}
use Rattle.zone.proofs.Dropping.{room-made}
use Rattle.zone.proofs.Passed.{passed, Grows, grows}
use Rattle.zone.proofs.WithMaster.{with-room}
use Rattle.zone.proofs.Walk.{or_parts, shown}
use Rattle.zone.proofs.BaysLaws.{Both, present, like-last, like-more, on_low-like, on_high-like, on_join-like, map_s-like, on_fixed-like, on_first-like, first_s-like, on_last-like, last_s-like}
use Rattle.bay.proofs.Sound.{Block, sum-by4}
use Rattle.zone.proofs.Places.{alter-fsize}
use Rattle.bay.proofs.Resize.{length-sized, resized-block}
use Rattle.zone.proofs.Solid.{new-block, page-block, new-sized}
use Rattle.zone.proofs.Found.{Found, lost, got, low-found, high-found, join-found, block-named}
use Rattle.zone.proofs.Keep.{Whole}
use Rattle.zone.proofs.Grouped.{single-live}
use Rattle.zone.proofs.Rosters.{roster-same}
use Rattle.zone.proofs.Fits.{Fits, Equal, same_sum, put-fits, release-fits, edit-fits, reshape-fits, absent-fits, high_fits, less-fits, compact-fits, grow-fits, fresh-fits, join-fits}
use Rattle.zone.proofs.Matches.{Paired, Matches, matches, dropping-same, largest-same, total-same, count_same, content-same, own-sum-same}
use Rattle.zone.proofs.ResizeMissing.{max-same}
use Rattle.zone.proofs.Once.{Named, unnamed, named, often, count-get}

-- ---- where two searches find what the table lets through

both-got : {A B : Type 0} {R : A → B → Type 0} {a : A} {b : B} {t u : Bool} {o : Option A} {p : Option B} → Found a t o → t ≡ false → Found b u p → Both R o p → R a b
both-got lost e g q = absurd (true≢false e)
both-got got e got (present r) = r
both-got {A = A} {B = B} {R = R} {a = a} {b = b} got e lost q = elim q [ ]

module _ {s : Bays (List Cell) Fixed} {t : Bays Bay Fixed} (l : Paired s t) where
  -- a block comes into the lowest bay whose sum reaches n
  low_same : (e : Item) (n : ℕ) → Block (item_size e) → item_size e ≡ n → below (max_s bay_sum s) n ≡ false → Paired (Work.place_low e s) (Book.enter n e t)
  low_same e n k q m =
      rw (← q)
      (both-got (low-found bay_sum (item_size e) (put e) s) (rw q m) (low-found sum_of (item_size e) (on_entries (e ∷◌)) t)
      (on_low-like Fits Equal (λ b. leb (item_size e) (bay_sum b)) (λ c. leb (item_size e) (sum_of c)) (λ b c r. ap (leb (item_size e)) (same_sum r))
      (put e) (on_entries (e ∷◌)) (λ b c r h. put-fits r e k (leb-true (item_size e) (bay_sum b) h)) l))

  -- a fixed block comes into the highest
  high_same : (n end : ℕ) → Block n → below (max_s bay_sum s) n ≡ false
      → ((Work.place_high n end s).0 ≡ (Book.highest n end t).0) × Paired (Work.place_high n end s).1 (Book.highest n end t).1
  high_same n end k m =
      let r = both-got (high-found bay_sum (take_high n) [] n end s) m (high-found sum_of (less n) (bay 0 []) n end t)
      (on_high-like Fits Equal (λ b. leb n (bay_sum b)) (λ c. leb n (sum_of c)) (λ b c r. ap (leb n) (same_sum r))
      (take_high n) (less n) (λ b c r h. high_fits r n k.by4 (leb-true n (bay_sum b) h))
      (new_fixed n) (new_fixed n) (λ end. record { equal = refl; block = (new-sized n end k).block }) [] (bay 0 []) (fresh-fits 0 refl)
      (λ (x : Fixed). x.place) (λ (x : Fixed). x.place) (λ x y q. ap (λ (x : Fixed). x.place) q.equal) end l) in
      (r.0.equal, r.1)

  -- a fixed block goes
  join-same : (p : ℕ) → is_none (over (λ (x : Fixed). x.bytes) (find_f (λ (x : Fixed). eqb p (pointer x)) s)) ≡ false → Paired (Work.pointer_freed p s) (Book.strike p t)
  join-same p m =
      both-got (join-found (λ b n c. join_bays b (gap n c)) p s) m (join-found (λ b n c. bay (b.capacity + n + c.capacity) (b.entries ++ c.entries)) p t)
      (on_join-like Fits Equal (λ (b : List Cell) (x : Fixed) (c : List Cell). join_bays b (gap (fsize x) c)) (λ (b : Bay) (x : Fixed) (c : Bay). bay (b.capacity + fsize x + c.capacity) (b.entries ++ c.entries))
      (λ b b' c c' x y r r' q. rw (← q.equal) (join-fits (fsize x) q.block.by4 r r'))
      (λ (x : Fixed). eqb p (pointer x)) (λ (x : Fixed). eqb p (pointer x)) (λ x y q. ap (λ (x : Fixed). eqb p (pointer x)) q.equal) l)

  release-same : (ok : Item → Bool) → Paired (map_s (release ok) s) (map_s (on_entries (without ok)) t)
  release-same ok = map_s-like Fits Equal (release ok) (on_entries (without ok)) (λ b c r. release-fits r ok) l

  edit-same : (ok : Item → Bool) (g : Item → Item) → ((e : Item) → item_size (g e) ≡ item_size e) → Paired (map_s (edit ok g) s) (map_s (on_entries (map (alter ok g))) t)
  edit-same ok g q = map_s-like Fits Equal (edit ok g) (on_entries (map (alter ok g))) (λ b c r. edit-fits r ok g q) l

  rewrite-same : (k : Target) (f : List ℕ → List ℕ) → ((w : List ℕ) → length (f w) ≡ length w) → Paired (Work.rewrite k f s) (Book.change k f t)
  rewrite-same (by_handle h) f q = edit-same (is h) (on_data f) (data-size f q)
  rewrite-same (by_name n) f q = edit-same (has_name n) (on_data f) (data-size f q)
  rewrite-same (by_pointer p) f q =
      on_fixed-like Fits Equal (alter_fixed p f) (alter_fixed p f) (λ x y k. record { equal = ap (alter_fixed p f) k.equal; block = rw (alter-fsize p f q x) k.block }) l

compacted : {s : Bays (List Cell) Fixed} {t : Bays Bay Fixed} → Paired s t → Paired (map_s compact_bay s) t
compacted (like-last r) = like-last (compact-fits r)
compacted (like-more r q l) = like-more (compact-fits r) q (compacted l)

-- ---- a resize in the own bay

absent-same : (h : ℕ) (f : List ℕ → List ℕ) {s : Bays (List Cell) Fixed} {t : Bays Bay Fixed} → Paired s t → live h s ≡ 0 → Paired s (map_s (on_entries (map (alter (is h) (on_data f)))) t)
absent-same h f (like-last r) n = like-last (absent-fits r h f n)
absent-same h f (like-more r q l) n = like-more (absent-fits r h f (omega arith)) q (absent-same h f l (omega arith))

-- the bay has the handle once, and its sum reaches a − b
own_of : (h a : ℕ) (b : List Cell) (e : Item) → count (is h) (items b) ≤ 1 → get (is h) (items b) ≡ some e → leb (a - length e.bytes) (bay_sum b) ≡ true → own h a b ≡ true
own_of h a b e n q m =
    let k : count (is h) (items b) ≡ 1 = count-get (is h) (items b) n ∙ ap often q in
    rw (k, q) m

own_same : (h a : ℕ) → a % 4 ≡ 0 → {s : Bays (List Cell) Fixed} {t : Bays Bay Fixed} → Paired s t → live h s ≤ 1 → (e : Item) → find_s (λ (b : List Cell). get (is h) (items b)) s ≡ some e
    → leb (a - length e.bytes) (own_sum items bay_sum h s) ≡ true → Paired (on_lowest (has h) (reshape h a) s) (map_s (on_entries (map (alter (is h) (on_data (sized a))))) t)
own_same h a q (like-last {b = b} r) n e g m = like-last (reshape-fits r h a q (own_of h a b e n g (rw g at m)))
own_same h a q (like-more {b = b} {c = c} {x = x} {y = y} {s = s} {t = t} r k l) n e g m =
    go (get (is h) (items b)) refl (count-get (is h) (items b) (omega arith)) g m (λ i j. own_same h a q l (omega arith) e i j)
  where
    go : (o : Option Item) → get (is h) (items b) ≡ o → count (is h) (items b) ≡ often o → or_else o (find_s (λ (b : List Cell). get (is h) (items b)) s) ≡ some e → leb (a - length e.bytes) (get_or (or_else (over (λ (i : Item). bay_sum b) o) (find_s (λ (b : List Cell). over (λ (i : Item). bay_sum b) (get (is h) (items b))) s)) 0) ≡ true
        → (find_s (λ (b : List Cell). get (is h) (items b)) s ≡ some e → leb (a - length e.bytes) (own_sum items bay_sum h s) ≡ true → Paired (on_lowest (has h) (reshape h a) s) (map_s (on_entries (map (alter (is h) (on_data (sized a))))) t))
        → Paired (cond (not (is_none o)) (more (reshape h a b) x s) (more b x (on_lowest (has h) (reshape h a) s))) (more (on_entries (map (alter (is h) (on_data (sized a)))) c) y (map_s (on_entries (map (alter (is h) (on_data (sized a))))) t))
    go none p w g m f = like-more (absent-fits r h (sized a) w) k (f g m)
    go (some i) p w g m f = like-more (reshape-fits r h a q (own_of h a b e (omega arith) (p ∙ g) m)) k (absent-same h (sized a) l (omega arith))

resize-same : (h a : ℕ) (d : List ℕ) → a % 4 ≡ 0 → {s : Bays (List Cell) Fixed} {t : Bays Bay Fixed} → Paired s t → ((k : ℕ) → live k s ≤ 1) → ((n : ℕ) → many (has_name n) s ≤ 1)
    → find_s (λ (b : List Cell). get (is h) (items b)) s ≡ some (item h d)
    → below (own_sum items bay_sum h s) (a - length d) && below (max_s bay_sum s) (reloc_header + a) ≡ false → Paired (Work.resize_in h a d s) (Book.resize_in h a d t)
resize-same h a d q {s} {t} l o ap₁ g m = rw (← own-sum-same l o ap₁ h) (go (leb (a - length d) (own_sum items bay_sum h s)) refl m)
  where
    i : Item
    i = item h (sized a d)

    moved : leb (a - length d) (own_sum items bay_sum h s) ≡ false → below (max_s bay_sum s) (reloc_header + a) ≡ false → Paired (Work.place_low i (map_s (release (is h)) s)) (Book.enter (reloc_header + a) i (map_s (on_entries (without (is h))) t))
    moved p m =
        low_same (release-same l (is h)) i (reloc_header + a) (resized-block a (item h d) q) (ap (reloc_header +◌) (length-sized a d))
        (max-same h a s (o h) (ap (room_for a (own_sum items bay_sum h s)) g ∙ p) ∙ m)

    go : (u : Bool) → leb (a - length d) (own_sum items bay_sum h s) ≡ u → not u && below (max_s bay_sum s) (reloc_header + a) ≡ false
        → Paired (cond u (on_lowest (has h) (reshape h a) s) (Work.place_low i (map_s (release (is h)) s))) (cond u (Book.change (by_handle h) (sized a) t) (Book.enter (reloc_header + a) i (map_s (on_entries (without (is h))) t)))
    go true p m = own_same h a q l (o h) (item h d) g p
    go false p m = moved p m

-- ---- the calls

-- f is what is compared of an answer
pub record Same (f : Answer → Answer) (o : Out (List Cell)) (p : Out Bay) : Type 0 where
  pub answer : f o.answer ≡ p.answer
  pub next : Matches o.next p.next

-- the answer is the same, and the bays are paired
told_same : {a b : Answer} {buf n ck : ℕ} {hs : List ℕ} {u : Bays (List Cell) Fixed} {v : Bays Bay Fixed} → a ≡ b → Paired u v
    → Same (λ (a : Answer). a) (record { answer = a; next = record { buf = buf; len = n; clock = ck; chain = hs; bays = u } }) (record { answer = b; next = record { buf = buf; len = n; clock = ck; chain = hs; bays = v } })
told_same e p = record { answer = e; next = matches p }

-- an allocation, where a bay has the room
allocate-same : (c : ℕ) {z : Zone} {k : Ledger} → Matches z k → below (max_s bay_sum z.bays) (reloc_need c) ≡ false → Same (λ (a : Answer). a) (Work.allocate c z) (Book.allocate c k)
allocate-same c (matches {chain = hs} l) m = told_same refl (low_same l (new_item (top hs) c) (reloc_need c) (new-block (top hs) c) (omega (arith, length-replicate {A = ℕ} (up4 c) 0)) m)

-- more masters before it, where there is none
with-same : (c : ℕ) {z : Zone} {k : Ledger} → refusal_of (allocate_relocatable c) (Work.facts true z) ≡ 0 → Matches z k → Matches (Work.with_master z) (Book.with_master k)
with-same c {z} e (matches {chain = []} l) =
    let g : Grows z = grows c z e refl in
    rw (count_same l) (matches (on_first-like Fits Equal (packed_less added_bytes) (less added_bytes) l (less-fits (first_s-like Fits Equal l) added_bytes refl g.room)))
with-same c e (matches {chain = h ∷ hs} l) = matches l

module _ (buf len clock : ℕ) (chain : List ℕ) {s : Bays (List Cell) Fixed} {t : Bays Bay Fixed} (l : Paired s t) (o : (h : ℕ) → live h s ≤ 1) (a : (n : ℕ) → many (has_name n) s ≤ 1) where
  abbrev z : Zone
  z = record { buf = buf; len = len; clock = clock; chain = chain; bays = s }

  abbrev k : Ledger
  k = record { buf = buf; len = len; clock = clock; chain = chain; bays = t }

  data-same : (q : Target) → data_of items q z ≡ data_of entries_of q k
  data-same q = ap (λ (x : Option (List ℕ)). get_or x []) (content-same l o a q)

  fixed-same' : (c : ℕ) → below (max_s bay_sum s) (fixed_need c) ≡ false → Same (λ (a : Answer). a) (Work.fixed_allocated c z) (Book.fixed_allocated c k)
  fixed-same' c m = let r = high_same l (fixed_need c) len (omega arith) m in told_same (ap (λ (x : Fixed). told 0 (pointer x)) r.0) r.1

  resized-same : (h c : ℕ) → is_none (over length (over (λ (e : Item). e.bytes) (find_s (λ (b : List Cell). get (is h) (items b)) s))) ≡ false
      → below (own_sum items bay_sum h s) (up4 c - get_or (over length (over (λ (e : Item). e.bytes) (find_s (λ (b : List Cell). get (is h) (items b)) s))) 0) && below (max_s bay_sum s) (reloc_header + up4 c) ≡ false
      → Same (λ (a : Answer). a) (Work.work (resize h c) z) (Book.work (resize h c) k)
  resized-same h c e m = told_same refl (rw (← data-same (by_handle h)) (go (find_s (λ (b : List Cell). get (is h) (items b)) s) refl (block-named h s) e m))
    where
      go : (i : Option Item) → find_s (λ (b : List Cell). get (is h) (items b)) s ≡ i → Named h i → is_none (over length (over (λ (e : Item). e.bytes) i)) ≡ false
          → below (own_sum items bay_sum h s) (up4 c - get_or (over length (over (λ (e : Item). e.bytes) i)) 0) && below (max_s bay_sum s) (reloc_header + up4 c) ≡ false
          → Paired (Work.resize_in h (up4 c) (get_or (over (λ (e : Item). e.bytes) i) []) s) (Book.resize_in h (up4 c) (get_or (over (λ (e : Item). e.bytes) i) []) t)
      go none g unnamed e m = absurd (true≢false e)
      go (some i) g (named {d = d}) e m = resize-same h (up4 c) d (omega arith) l o a g m

  strip-same : (n : ℕ) → n % 4 ≡ 0 → n ≤ bay_sum (last_s s) → Same (λ (a : Answer). a) (Work.strip n z) (Book.strip n k)
  strip-same zero q m = record { answer = refl; next = rw (none-off, last-same t) (matches l) }
    where
      none-off : len - 0 ≡ len
      none-off = omega arith

      last-same : (v : Bays Bay Fixed) → on_last (less 0) v ≡ v
      last-same (last b) = ap (λ (n : ℕ). last (bay n b.entries)) (omega arith)
      last-same (more b x v) = ap (more b x) (last-same v)
  strip-same (suc n) q m = rw (eqb-suc-zero n) (told_same refl (on_last-like Fits Equal (take_high (suc n)) (less (suc n)) l (high_fits (last_s-like Fits Equal l) (suc n) q m)))

-- ---- pages

room-same : (need : ℕ) {z : Zone} {k : Ledger} → Whole z → Matches z k → Matches (Work.make_room need z) (Book.make_room need k)
room-same need i (matches {buf = x} {len = y} {clock = ck} {chain = w} {s = s} {t = t} l) =
    rw (← dropping-same l i.apart.apart x y ck w need) (matches (release-same l (among (dropping items bay_sum need (record { buf = x; len = y; clock = ck; chain = w; bays = s })))))

create-same : (n c : ℕ) {z : Zone} {k : Ledger} → Matches z k → below (max_s bay_sum z.bays) (page_need c) ≡ false → Same (compared_page (create_page c)) (Work.page_created n c z) (Book.page_created n c k)
create-same n c (matches {clock = ck} l) m =
    record { answer = refl; next = matches (low_same l (new_page n (tick ck) c) (page_need c) (page-block n (tick ck) c) (omega (arith, length-replicate {A = ℕ} (up4 c) 0)) m) }

page-same : (n : ℕ) (p : PageCall) {z : Zone} {k : Ledger} → Whole z → refusal_of (on_page n p) (Work.facts true z) ≡ 0 → Matches z k → Same (compared_page p) (Work.page_work n p z) (Book.page_work n p k)
page-same n (create_page c) {z} i e l = create-same n c (room-same (page_need c) i l) (room-made (page_need c) z i.apart.apart (or_left _ _ (passed (on_page n (create_page c)) z e 5 refl)))
page-same n use_page i e (matches {clock = ck} l) = record { answer = refl; next = matches (edit-same l (has_name n) (on_status (stamped (tick ck))) (status-size (stamped (tick ck)))) }
page-same n (mark_page m) i e (matches l) = record { answer = refl; next = matches (edit-same l (has_name n) (on_status (marked m)) (status-size (marked m))) }
page-same n drop_page i e (matches l) = record { answer = refl; next = matches (release-same l (has_name n)) }

-- EVERY CALL that nothing refuses
pub work-same : (c : Call) {z : Zone} {k : Ledger} → Whole z → refusal_of c (Work.facts true z) ≡ 0 → Matches z k → Same (compared c) (Work.work c z) (Book.work c k)
work-same (allocate_relocatable c) {z} i e l = allocate-same c (with-same c e l) (rw (with-room z true) (or_left _ _ (passed (allocate_relocatable c) z e 5 refl)))
work-same (allocate_fixed c) {z} i e (matches {buf = x} {len = y} {clock = ck} {chain = w} l) = fixed-same' x y ck w l (single-live _ i) i.apart.apart c (or_left _ _ (passed (allocate_fixed c) z e 5 refl))
work-same (free_handle h) i e (matches {buf = x} {len = y} {clock = ck} {chain = w} l) = told_same refl (release-same l (is h))
work-same (free_pointer p) {z} i e (matches {buf = x} {len = y} {clock = ck} {chain = w} l) = told_same refl (join-same l p (shown (λ (x : Fixed). x.bytes) (find_f (λ (x : Fixed). eqb p (pointer x)) z.bays) (or_left _ _ (passed (free_pointer p) z e 7 refl))))
work-same (resize h c) {z} i e (matches {buf = x} {len = y} {clock = ck} {chain = w} l) = resized-same x y ck w l (single-live _ i) i.apart.apart h c (or_left _ _ (passed (resize h c) z e 6 refl)) (or_left _ _ (passed (resize h c) z e 5 refl))
work-same (size t) i e (matches {buf = x} {len = y} {clock = ck} {chain = w} l) = told_same (ap (λ (d : List ℕ). told 0 (length d)) (data-same x y ck w l (single-live _ i) i.apart.apart t)) l
work-same (read t j n second) i e (matches {buf = x} {len = y} {clock = ck} {chain = w} l) = told_same (ap (λ (d : List ℕ). shows 0 (take n (drop j d) ++ drop n second)) (data-same x y ck w l (single-live _ i) i.apart.apart t)) l
work-same (write t j n second) i e (matches {buf = x} {len = y} {clock = ck} {chain = w} l) = told_same refl (rewrite-same l t (λ (w : List ℕ). sets w j (take n second)) (λ w. length-sets w j (take n second)))
work-same (view t j n) i e (matches {buf = x} {len = y} {clock = ck} {chain = w} l) = told_same (ap (λ (d : List ℕ). shows 0 (take n (drop j d))) (data-same x y ck w l (single-live _ i) i.apart.apart t)) l
work-same compact i e (matches {buf = x} {len = y} {clock = ck} {chain = w} l) = told_same (ap (told 0) (largest-same l)) (compacted l)
work-same sums i e (matches {buf = x} {len = y} {clock = ck} {chain = w} l) = told_same (ap₂ (told_two 0) (total-same l) (largest-same l)) l
work-same check i e (matches {buf = x} {len = y} {clock = ck} {chain = w} l) = told_same (ap (told_two 0 1) (count_same l)) l
work-same length_of i e (matches {buf = x} {len = y} {clock = ck} {chain = w} l) = told_same refl l
work-same (enlarge k) {z} i e (matches {buf = x} {len = y} {clock = ck} {chain = w} l) =
    let q = or_parts (eqb (k % 4) 0) (leb (z.len + k) z.buf) (leb (z.len + k) longest_zone) (or_left _ _ (passed (enlarge k) z e 9 refl)) in
    told_same refl (on_last-like Fits Equal _ _ l (grow-fits (last_s-like Fits Equal l) k (eqb-true (k % 4) 0 q.0)))
work-same (shrink j) i e (matches {buf = x} {len = y} {clock = ck} {chain = w} {s = s} l) =
    let r = last_s-like Fits Equal l in
    rw (← same_sum r) (strip-same x y ck w l (single-live _ i) i.apart.apart (min (j / 4 * 4) (bay_sum (last_s s))) (omega (arith, sum-by4 r.sound)) (omega arith))
work-same (roster second) i e (matches {buf = x} {len = y} {clock = ck} {chain = v} {s = s} {t = t} l) =
    told_same (ap (λ (cs : List Card). rostered cs second) (roster-same i (matches {buf = x} {len = y} {clock = ck} {chain = v} {s = s} {t = t} l))) l
work-same (on_page n p) i e l = page-same n p i e l
