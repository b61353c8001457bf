-- What an accepted create leaves: the new page beside those that the dropping left, and all else as it was.
use mathlib.Core.Path.{◌≡◌, refl, ap, sym, ◌∙◌, subst}
use mathlib.Core.Bool.{Bool, true, false, cond}
use mathlib.Core.Option.{some}
use mathlib.Core.List.{List, [], ◌∷◌, ◌++◌, Permᴰ}
use Prim.Native.Nat.{ℕ, suc, ◌+◌, ◌-◌, ◌%◌, ◌≤◌, ◌<◌}
use native.Mathlib.Omega.{arith}
use lib.Dec.{eqb}
use lib.ListN.{replicate, length-replicate}
use borrow.Author.Tests.{leb-true, eq-eqb}
use Rattle.block_type.specs.Limits.{up4, stamp_range, reloc_header, page_header, page_limit, page_need, first_block, argument_range}
use Rattle.format.specs.WellFormed.{chain_field, clock_field, master_at}
use Rattle.structure.specs.Structure.{sizes}
use Rattle.kinds.specs.Kinds.{Item, is, has_name, item_size}
use Rattle.ledger.specs.Space.{spot}
use Rattle.calls.specs.Calls.{create_page, allocate_relocatable, on_page, Answer, told}
use Rattle.calls.specs.Bays.{Bays, find_f, concat_s, max_s}
use Rattle.calls.specs.Counted.{count}
use Rattle.calls.specs.State.{Fixed, fsize, pointer, master_count}
use Rattle.calls.specs.Pages.{tick, new_page, among, dropping}
use Rattle.calls.specs.Table.{below, refusal_of}
use Rattle.calls.proofs.Sort.{flat-perm}
use Rattle.calls.proofs.First.{or_left}
use Rattle.bay.specs.Bay.{Cell, bay_sum, items, put}
use Rattle.bay.specs.Counted.{remove}
use Rattle.zone.specs.Work.{Zone, facts, work, make_room}
use Rattle.zone.specs.Call.{Result, in_line, result_of, outcome}
use Rattle.zone.specs.Promise.{Promise}
use Rattle.zone.specs.Claim.{PageCard, key_card, page_cards, pages_in, by_create}
use Rattle.zone.specs.PageSays.{Meets, met, further, Age, Stay, next_clock, leaving, Made}
use Rattle.zone.proofs.Dropping.{room-made, among-handle, many-flat}
use Rattle.zone.proofs.HowMany.{many, release-le}
use Rattle.zone.proofs.Passed.{passed, not-below}
use Rattle.zone.proofs.Found.{low-found}
use Rattle.zone.proofs.Once.{block_of}
use Rattle.zone.proofs.Walk.{each-got}
use Rattle.zone.proofs.Keep.{Whole}
use Rattle.zone.proofs.Grouped.{single-live, work-whole, work-masters, work-buffer}
use Rattle.zone.proofs.Run.{Stored, stored-after, call-worked}
use Rattle.zone.proofs.Fields.{clock-read, masters-read}
use Rattle.zone.proofs.MetBlocks.{spots_s}
use Rattle.zone.proofs.PagesMet.{pages-walk, page-found}
use Rattle.zone.proofs.Bystanders.{lowest-blind, place-find}
use Rattle.zone.proofs.Theorem.{page-there}
use Rattle.zone.proofs.PageNext.{meets-perm}
use Rattle.zone.proofs.PageChanges.{stay-by, spots-map, fixed-map, released-find, cards-removed}
use Rattle.zone.proofs.PageNumbers.{met-many}
use Rattle.zone.proofs.PageAsked.{tick_is, met-case}
use Rattle.zone.proofs.PagePlaced.{Slot, slot, placed_at, Inserted, low-inserted}
use Rattle.zone.proofs.PageBeside.{beside}
use Rattle.zone.proofs.PageDrops.{Ready, Cleared, ready-number}

-- a list with one more block that alone passes the test, and without it
remove-one : (ok : Item → Bool) (e : Item) (post : List Item) → ok e ≡ true → (pre : List Item) → count ok (pre ++ post) ≡ 0 → remove ok (pre ++ (e ∷ post)) ≡ pre ++ post
remove-one ok e post y [] q = rw y (remove-none ok post q)
  where
    remove-none : (ok : Item → Bool) (es : List Item) → count ok es ≡ 0 → remove ok es ≡ es
    remove-none ok [] q = refl
    remove-none ok (e ∷ es) q = go (ok e) q (λ k. remove-none ok es k)
      where
        go : (t : Bool) → cond t (suc (count ok es)) (count ok es) ≡ 0 → (count ok es ≡ 0 → remove ok es ≡ es) → cond t (remove ok es) (e ∷ remove ok es) ≡ e ∷ es
        go true q f = absurd (omega arith)
        go false q f = ap (e ∷◌) (f q)
remove-one ok e post y (i ∷ pre) q = go (ok i) q (λ k. remove-one ok e post y pre k)
  where
    go : (t : Bool) → cond t (suc (count ok (pre ++ post))) (count ok (pre ++ post)) ≡ 0 → (count ok (pre ++ post) ≡ 0 → remove ok (pre ++ (e ∷ post)) ≡ pre ++ post)
        → cond t (remove ok (pre ++ (e ∷ post))) (i ∷ remove ok (pre ++ (e ∷ post))) ≡ i ∷ (pre ++ post)
    go true q f = absurd (omega arith)
    go false q f = ap (i ∷◌) (f q)

module _ (n c : ℕ) (bs after : List ℕ) (a : Answer) (z : Zone) (w : Whole z) (s : Stored bs z) (y : n < argument_range) (r : Ready n c z) (k : Cleared n c bs z)
    (p : Promise (on_page n (create_page c)) bs a after) where
  e : refusal_of (on_page n (create_page c)) (facts true z) ≡ 0
  e = ready-number n c z r ∙ (rw k.clean)

  abbrev u : Zone
  u = make_room (page_need c) z

  abbrev new : Item
  new = new_page n (tick z.clock) c

  abbrev v : Zone
  v = (work (on_page n (create_page c)) z).next

  v-whole : Whole v
  v-whole = work-whole (on_page n (create_page c)) z y w e

  called : result_of a after ≡ outcome bs (in_line z) (work (on_page n (create_page c)) z)
  called = p ∙ call-worked bs z w s (on_page n (create_page c)) e

  v-stored : Stored after v
  v-stored = subst (λ (b : List ℕ). Stored b v) (sym (ap (λ (r : Result). r.bytes) called)) (stored-after bs z v w v-whole (work-buffer (on_page n (create_page c)) z y w e) s)

  room : below (max_s bay_sum u.bays) (item_size new) ≡ false
  room =
      let q : item_size new ≡ page_need c = omega (arith, length-replicate {A = ℕ} (up4 c) 0) in
      rw q (room-made (page_need c) z w.apart.apart (or_left _ _ (passed (on_page n (create_page c)) z e 5 refl)))

  -- the new block stands among those that were left
  inserted : Inserted new (concat_s items u.bays) (concat_s items v.bays)
  inserted = low-inserted new u.bays

  -- the cards: the new one, and those that were left
  cards : Permᴰ (pages_in after) (record { name = n; dirty = false; lock = false; stamp = clock_field after; bytes = replicate (up4 c) 0 } ∷ pages_in k.mid)
  cards =
      let q : Permᴰ (concat_s items v.bays) (new ∷ concat_s items u.bays) = rw (inserted.new, inserted.old) (mathlib.Core.List.Permᴰ.middle new inserted.pre inserted.post) in
      rw (pages-walk after v v-whole v-stored, pages-walk k.mid u k.whole k.stored, clock-read after v v-whole v-stored) (flat-perm (λ (e : Item). key_card e.key e.bytes) q)

  none_left : many (has_name n) u.bays ≡ 0
  none_left = omega (arith, release-le (has_name n) (among (dropping items bay_sum (page_need c) z)) z.bays, r.absent)

  -- and those in their order
  others : leaving n (pages_in after) ≡ pages_in k.mid
  others =
      let q : count (has_name n) (inserted.pre ++ inserted.post) ≡ 0 = rw (← inserted.old) (sym (many-flat (has_name n) items u.bays) ∙ none_left) in
      ap (leaving n) (pages-walk after v v-whole v-stored) ∙ sym (cards-removed n (concat_s items v.bays))
      ∙ ap page_cards (ap (remove (has_name n)) inserted.new ∙ remove-one (has_name n) new inserted.post (eq-eqb n n refl) inserted.pre q ∙ sym inserted.old)
      ∙ sym (pages-walk k.mid u k.whole k.stored)

  stays : Stay bs after
  stays = stay-by bs after z v w s v-whole v-stored refl refl (work-masters (on_page n (create_page c)) z y w e) spots blocks pointers
    where
      gone : Item → Bool
      gone = among (dropping items bay_sum (page_need c) z)

      spots : spots_s v.bays ≡ spots_s z.bays
      spots = lowest-blind spots_s (λ b d. refl) (λ b d x s u q. ap (spot x.place (fsize x) ∷◌) q) _ _ u.bays ∙ spots-map _ z.bays

      pointers : (p : ℕ) → find_f (λ (x : Fixed). eqb p (pointer x)) v.bays ≡ find_f (λ (x : Fixed). eqb p (pointer x)) z.bays
      pointers p = lowest-blind (find_f (λ (x : Fixed). eqb p (pointer x))) (λ b d. refl) (λ b d x s u q. ap (cond (eqb p (pointer x)) (some x)) q) _ _ u.bays ∙ fixed-map _ _ z.bays

      blocks : (h : ℕ) → block_of h v.bays ≡ block_of h z.bays
      blocks h =
          each-got {Q = λ (b : Bays (List Cell) Fixed). block_of h b ≡ block_of h u.bays} (low-found bay_sum (item_size new) (put new) u.bays) room (place-find (is h) new refl u.bays (single-live u k.whole h))
          ∙ released-find (is h) gone (λ i q. among-handle (dropping items bay_sum (page_need c) z) h i q) z.bays

  -- as a relocatable block
  lies : Slot (page_need c) u.bays → (b : Answer) (other : List ℕ) → (chain_field k.mid ≡ 0 → ⊥) → Promise (allocate_relocatable (c + (page_header - reloc_header))) k.mid b other
      → (b.number ≡ 0) × (a.value ≡ master_at other b.value + (page_header - reloc_header))
  lies x b other f q =
      let size : item_size new ≡ page_need c = omega (arith, length-replicate {A = ℕ} (up4 c) 0) in
      let reach : page_need c ≤ max_s bay_sum u.bays = omega (arith, size, not-below (max_s bay_sum u.bays) (item_size new) room) in
      let t = beside c k.mid other b u k.whole k.stored (leb-true c page_limit r.small) reach x q f in
      let o : master_count items v ≡ master_count items u = work-masters (on_page n (create_page c)) z y w e ∙ sym (masters-read bs z w s) ∙ sym k.masters ∙ masters-read k.mid u k.whole k.stored in
      let p : a.value ≡ first_block (master_count items v) + sizes x.pre + page_header =
      ap (λ (r : Result). r.answer.value) called ∙ placed_at (page_need c) u.bays x (has_name n) new size (eq-eqb n n refl) (v-whole.apart.apart n) (first_block (master_count items v)) in
      (t.0, omega (arith, p, o, t.1))

  told-so : told 0 a.value ≡ a
  told-so = let q = ap (λ (r : Result). r.answer) called in ap (λ (b : Answer). told 0 b.value) q ∙ sym q

  -- none of that name was there
  absent : (x : PageCard) → Meets x (pages_in bs) → x.name ≡ n → ⊥
  absent x m q = omega (arith, met-many bs z w s m, ap (λ (j : ℕ). many (has_name j) z.bays) q, r.absent)

  stayed : {x : PageCard} → Meets x (pages_in k.mid) → Meets x (pages_in after)
  stayed m = meets-perm (mathlib.Core.List.Permᴰ.symm cards) (further m)

  old : (x : PageCard) → Meets x (pages_in bs) → Meets x (pages_in after) → Meets x (pages_in k.mid)
  old x m l = met-case (Meets x (pages_in k.mid)) (meets-perm cards l) (λ e. absurd (absent x m (ap (λ (p : PageCard). p.name) e))) (λ o. o)

  pub made : Made n c bs after a.value
  made = record {
    mid = k.mid;
    dropped = k.dropped;
    made = ap (λ (b : Answer). result_of b after) told-so ∙ p ∙ sym (k.same y);
    ticks = clock-read after v v-whole v-stored ∙ tick_is z.clock w.ticks.byte ∙ ap next_clock (sym (clock-read bs z w s));
    new = meets-perm (mathlib.Core.List.Permᴰ.symm cards) met;
    young = λ x m q. met-case (Age (clock_field after) x.stamp 0) (meets-perm cards m)
        (λ e. (omega arith, ap (λ (p : PageCard). (p.stamp + 0) % stamp_range) e ∙ omega (arith, clock-read after v v-whole v-stored)))
        (λ o. absurd (absent x (k.fewer x o) q));
    place = let t = page-there n z w (create_page c) by_create e in page-found after v v-whole v-stored n t.1 ∙ ap some (sym t.0 ∙ sym (ap (λ (r : Result). r.answer.value) called));
    placed = lies (slot (page_need c) u.bays);
    others = others;
    locked = λ x m l. stayed (k.locked x m l);
    unsaved = λ x m l. stayed (k.unsaved x m l);
    turn = λ x y a b m o i j g h t l. stayed (k.turn x y a b m o i j g h t (old x m l));
    stay = stays;
  }
