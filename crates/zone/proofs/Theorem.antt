-- THE LIST THEOREM: calls that keep their promises, one after the other from an accepted initialization, answer as the ledger does.
use mathlib.Core.Path.{◌≡◌, refl, ap, ap₂, sym, ◌∙◌, subst}
use mathlib.Core.Bool.{true}
use mathlib.Core.Option.{Option}
use mathlib.Core.List.{List, [], ◌∷◌, ◌++◌}
use Prim.Native.Nat.{ℕ, zero, suc, ◌-◌, ◌≤◌}
use native.Mathlib.Omega.{arith}
use lib.ListN.{length, drop}
use lib.Dec.{eqb-suc-zero}
use Rattle.block_type.specs.Limits.{first_block}
use Rattle.structure.specs.Structure.{encode}
use Rattle.calls.specs.Calls.{Call, Answer, beside, Given}
use Rattle.calls.specs.Bays.{Bays}
use Rattle.calls.specs.State.{Fixed, fsize, Out}
use Rattle.calls.specs.Table.{refusal_of, first, order, bad_initialize}
use Rattle.calls.proofs.Never.{never-one, told-one}
use Rattle.ledger.specs.Ledger as Book
use Rattle.ledger.specs.Ledger.{Ledger, Bay, run, ledger_after, initial, step_with, step, sorted_by_handle}
use Rattle.ledger.specs.Space.{Spot, spot, fixed_spots, bay_sums, call_of}
use Rattle.ledger.specs.Still.{Has, NotFreed, a_call}
use Rattle.ledger.proofs.Space.{live_in, space, Roomy}
use Rattle.ledger.proofs.Still.{step-has}
use Rattle.bay.specs.Bay.{Cell, bay_sum}
use Rattle.bay.specs.Counted.{live}
use Rattle.zone.specs.Work as Work
use Rattle.zone.specs.Work.{Zone, work, fresh}
use Rattle.zone.specs.Call.{in_line, Result, call, initialize_with}
use Rattle.zone.specs.Promise.{Promise}
use Rattle.bay.proofs.Each.{Each, nothing, just}
use mathlib.Core.Bool.{true, false, true≢false}
use Prim.Native.Nat.{◌≤◌}
use lib.ListN.{length-replicate}
use borrow.Author.Tests.{eq-eqb}
use Rattle.block_type.specs.Limits.{page_need, up4}
use mathlib.Core.Option.{none, some}
use Rattle.kinds.specs.Kinds.{Item, has_name, item_size, on_status}
use Rattle.kinds.proofs.KindLaws.{status-name}
use Rattle.calls.specs.Calls.{PageCall, create_page, use_page, mark_page, drop_page, on_page, Beside, alone, lends, part, of_page, number_told, second_of, refused}
use Rattle.calls.specs.Bays.{max_s, over}
use Rattle.calls.specs.State.{get}
use Rattle.calls.specs.Counted.{count}
use Rattle.calls.specs.Pages.{tick, stamped, new_page}
use Rattle.calls.specs.Table.{Facts, refusal_value, below, is_none}
use Rattle.calls.proofs.First.{or_left}
use Rattle.bay.specs.Bay.{bay_sum, items, put}
use Rattle.bay.proofs.Laws.{bsize-split}
use Rattle.bay.proofs.Perm.{perm-total}
use Rattle.bay.proofs.Each.{each_weaken, each-some}
use Rattle.zone.specs.Work.{make_room, data_offset}
use Rattle.zone.specs.Call.{result_of, outcome}
use Rattle.zone.specs.Claim.{sorted_by_name, page_at, compared_beside, compared, all_compared, AnswersPlace, by_create, by_use}
use Rattle.zone.proofs.HowMany.{many, low-many, edit-many, get-count}
use Rattle.zone.proofs.Dropping.{page_of, room-made, many-flat}
use Rattle.zone.proofs.Passed.{passed}
use Rattle.zone.proofs.Walk.{each-got}
use Rattle.zone.proofs.Found.{low-found}
use Rattle.zone.proofs.Sums.{find-sum}
use Rattle.zone.proofs.PagesMet.{pages-walk, page-found, cards-perm}
use Rattle.zone.proofs.BaysLaws.{like-last, like-more}
use Rattle.zone.proofs.Keep.{Whole}
use Rattle.zone.proofs.Grouped.{single-live, work-whole, work-buffer}
use Rattle.zone.proofs.Run.{Stored, stored-well, stored-after, call-worked, call-refused}
use Rattle.zone.proofs.Fields.{length-read, clock-read}
use Rattle.zone.proofs.InBuffer.{live-read, fixed-read}
use Rattle.zone.proofs.Numbers.{work-number}
use Rattle.zone.proofs.Initial.{Accepted, accepted, fresh-whole, fresh-stored}
use Rattle.zone.specs.Claim.{History, stop, then, Never, never_nil, never_cons, Where, nowhere, here, Stands, Claim, TheList}
use Rattle.zone.proofs.Fits.{same_sum, fresh-fits}
use Rattle.zone.proofs.Matches.{Paired, Matches, matches, facts-same, handle-same, fixed_same, live_same, flat-perm}
use Rattle.zone.proofs.Rosters.{zone-sorted, roster-same}
use Rattle.zone.proofs.Works.{work-same}
use Rattle.zone.proofs.Lines.{fixed-lines}
use Rattle.zone.proofs.MetBlocks.{spots_s, sums_s, fixed-walk, free_walk, reloc-walk}

-- ---- a point of the list: the buffer holds a zone, and the zone is one with the ledger

pub record Point (bs : List ℕ) (l : Ledger) : Type 0 where
  pub zone : Zone
  pub whole : Whole zone
  pub stored : Stored bs zone
  pub one : Matches zone l

module _ {bs : List ℕ} {l : Ledger} (p : Point bs l) where
  single : (h : ℕ) → live h p.zone.bays ≤ 1
  single h = single-live p.zone p.whole h

  facts-are : Work.facts true p.zone ≡ Book.facts l
  facts-are = facts-same single p.whole.apart.apart p.one

  number_same : (c : Call) → refusal_of c (Work.facts true p.zone) ≡ refusal_of c (Book.facts l)
  number_same c = ap (refusal_of c) facts-are

-- ---- one call: from point to point

-- what is compared of a refusal is the refusal
told-refused : (n v : ℕ) (b : Beside) → compared_beside b (record { number = number_told (suc n) b; value = v; second = 0; bytes = second_of b }) ≡ record { number = number_told (suc n) b; value = v; second = 0; bytes = second_of b }
told-refused n v alone = refl
told-refused n v (lends second) = refl
told-refused n v part = refl
told-refused n v (of_page k (create_page c)) = rw (eqb-suc-zero n)
told-refused n v (of_page k use_page) = rw (eqb-suc-zero n)
told-refused n v (of_page k (mark_page m)) = refl
told-refused n v (of_page k drop_page) = refl

-- and the number of an answer its number
told-number : (a : Answer) (b : Beside) → (compared_beside b a).number ≡ a.number
told-number a alone = refl
told-number a (lends second) = refl
told-number a part = refl
told-number a (of_page k (create_page c)) = refl
told-number a (of_page k use_page) = refl
told-number a (of_page k (mark_page m)) = refl
told-number a (of_page k drop_page) = refl

pub record Onward (c : Call) (bs : List ℕ) (r : Result) (o : Out Bay) : Type 0 where
  pub long : length r.bytes ≡ length bs
  pub same : compared c r.answer ≡ o.answer
  pub not-one : r.answer.number ≡ 1 → ⊥
  pub point : Point r.bytes o.next

pub onward : {bs : List ℕ} {l : Ledger} (c : Call) → Given (beside c) → Point bs l → Onward c bs (call c bs) (step c l)
onward {bs} {l} c y p = subst (λ (n : ℕ). Onward c bs (call c bs) (step_with n c l)) (number_same p c) (go (refusal_of c (Work.facts true p.zone)) refl)
  where
    go : (n : ℕ) → refusal_of c (Work.facts true p.zone) ≡ n → Onward c bs (call c bs) (step_with n c l)
    go zero e =
        let k = work-same c p.whole e p.one in
        let u : Stored _ (work c p.zone).next =
        stored-after bs p.zone (work c p.zone).next p.whole (work-whole c p.zone y p.whole e) (work-buffer c p.zone y p.whole e) p.stored in
        rw (call-worked bs p.zone p.whole p.stored c e) (record {
          long = u.buffer ∙ work-buffer c p.zone y p.whole e ∙ sym p.stored.buffer;
          same = k.answer;
          not-one = λ q. omega (arith, work-number c p.zone);
          point = record {
            zone = (work c p.zone).next;
            whole = work-whole c p.zone y p.whole e;
            stored = u;
            one = k.next;
          };
        })
    go (suc n) e =
        rw (call-refused bs p.zone p.whole p.stored c n e, eqb-suc-zero n) (record {
          long = refl;
          same = told-refused n _ (beside c) ∙ ap (λ (f : Facts). refused c (suc n) (refusal_value (suc n) c f)) (facts-are p);
          not-one = λ q. never-one c (Work.facts true p.zone) refl (e ∙ told-one (suc n) (beside c) q);
          point = p;
        })

-- ---- what stands at a point

where-of : {A : Type 0} {P : A → Type 0} {o : Option A} → Each P o → Where P o
where-of nothing = nowhere
where-of (just p) = here p

spots-same : {s : Bays (List Cell) Fixed} {t : Bays Bay Fixed} → Paired s t → spots_s s ≡ fixed_spots t
spots-same (like-last r) = refl
spots-same (like-more r q l) = ap₂ (λ (x : Fixed) (k : List Spot). spot x.place (fsize x) ∷ k) q.equal (spots-same l)

sums_same : {s : Bays (List Cell) Fixed} {t : Bays Bay Fixed} → Paired s t → sums_s bay_sum s ≡ bay_sums t
sums_same (like-last r) = ap (◌∷ []) (same_sum r)
sums_same (like-more r q l) = ap₂ ◌∷◌ (same_sum r) (sums_same l)

stands : {bs : List ℕ} {l : Ledger} → Point bs l → Stands bs l
stands {bs} p = go p.whole p.stored p.one
  where
    go : {z : Zone} {k : Ledger} → Whole z → Stored bs z → Matches z k → Stands bs k
    go {z} {k} w s (matches m) = record {
      pages = ap sorted_by_name (pages-walk bs z w s) ∙ cards-perm (flat-perm m) (λ n. omega (arith, w.apart.apart n, many-flat (has_name n) items z.bays));
      clock = clock-read bs z w s;
      live = λ h. where-of (rw (← handle-same m (single-live z w) w.apart.apart h) (live-read bs z w s h));
      blocks = ap sorted_by_handle (reloc-walk bs z w s) ∙ sym (zone-sorted z w) ∙ roster-same w (matches m);
      still = λ q. where-of (rw (← fixed_same q m) (fixed-read bs z w s q));
      places = fixed-walk bs z w s ∙ spots-same m;
      lines = fixed-lines bs (stored-well bs z w s);
      sums = free_walk bs z w s ∙ sums_same m;
      long = length-read bs z w s;
      buffer = s.buffer;
      well = stored-well bs z w s;
    }

-- ---- a list of calls

-- the point after a call that kept its promise, and what it was told
after : {bs mid : List ℕ} {l : Ledger} (c : Call) {a : Answer} → Given (beside c) → Promise c bs a mid → Point bs l → Point mid (step c l).next
after {l = l} c y k p = subst (λ (b : List ℕ). Point b (step c l).next) (sym (ap (λ (r : Result). r.bytes) k)) (onward c y p).point

told-as : {bs mid : List ℕ} {l : Ledger} (c : Call) {a : Answer} → Given (beside c) → Promise c bs a mid → Point bs l → compared c a ≡ (step c l).answer
told-as c y k p = ap (λ (r : Result). compared c r.answer) k ∙ (onward c y p).same

reached : {bs end : List ℕ} {cs : List Call} {as' : List Answer} (l : Ledger) → History bs cs as' end → Point bs l → Point end (ledger_after cs l)
reached l stop p = p
reached l (then {c = c} y k h) p = reached (step c l).next h (after c y k p)

answered : {bs end : List ℕ} {cs : List Call} {as' : List Answer} (l : Ledger) → History bs cs as' end → Point bs l → all_compared cs as' ≡ run cs l
answered l stop p = refl
answered l (then {c = c} y k h) p = ap₂ ◌∷◌ (told-as c y k p) (answered (step c l).next h (after c y k p))

never : {bs end : List ℕ} {cs : List Call} {as' : List Answer} (l : Ledger) → History bs cs as' end → Point bs l → Never 1 as'
never l stop p = never_nil
never l (then {c = c} y k h) p = never_cons (λ e. (onward c y p).not-one (sym (ap (λ (r : Result). r.answer.number) k) ∙ e)) (never (step c l).next h (after c y k p))

kept : {bs end : List ℕ} {cs : List Call} {as' : List Answer} (l : Ledger) (x : Spot) → History bs cs as' end → NotFreed x cs
    → Has x (fixed_spots l.bays) → Has x (fixed_spots (ledger_after cs l).bays)
kept l x stop f h = h
kept l x (then {c = c} y k r) (a_call ne f) h = kept (step c l).next x r f (step-has c l ne h)

once-live : {bs : List ℕ} {l : Ledger} → Point bs l → (h : ℕ) → live_in h l.bays ≤ 1
once-live p h = go p.one (single p)
  where
    go : {z : Zone} {k : Ledger} → Matches z k → ((h : ℕ) → live h z.bays ≤ 1) → live_in h k.bays ≤ 1
    go (matches m) o = omega (arith, live_same m h, o h)

roomy : {s : Bays (List Cell) Fixed} {t : Bays Bay Fixed} → Paired s t → Roomy t
roomy (like-last {b = b} r) = omega (arith, bsize-split b, perm-total r.perm, r.size)
roomy (like-more {b = b} r q l) = (omega (arith, bsize-split b, perm-total r.perm, r.size), roomy l)

room_at : {bs : List ℕ} {l : Ledger} → Point bs l → Roomy l.bays
room_at p = go p.one
  where
    go : {z : Zone} {k : Ledger} → Matches z k → Roomy k.bays
    go (matches m) = roomy m

-- ---- a page right after create or use

module _ (n : ℕ) (z : Zone) (w : Whole z) where
  pub page-there : (c : PageCall) → AnswersPlace c → refusal_of (on_page n c) (Work.facts true z) ≡ 0 → ((work (on_page n c) z).answer.value ≡ data_offset n (work (on_page n c) z).next) × (1 ≤ many (has_name n) (work (on_page n c) z).next.bays)
  page-there (create_page c) by_create e =
      let v : Zone = make_room (page_need c) z in
      let new : Item = new_page n (tick z.clock) c in
      let q : item_size new ≡ page_need c = omega (arith, length-replicate {A = ℕ} (up4 c) 0) in
      let r : below (max_s bay_sum v.bays) (item_size new) ≡ false = rw q (room-made (page_need c) z w.apart.apart (or_left _ _ (passed (on_page n (create_page c)) z e 5 refl))) in (
        refl,
        each-got {Q = λ (b : Bays (List Cell) Fixed). 1 ≤ many (has_name n) b} (low-found bay_sum (item_size new) (put new) v.bays) r
            (each_weaken (λ b k. let one : has_name n new ≡ true = eq-eqb n n refl in omega (arith, rw one at k)) (low-many (has_name n) new v.bays)),
      )
  page-there use_page by_use e =
      (refl, rw (edit-many (has_name n) (has_name n) (on_status (stamped (tick z.clock))) (λ i. status-name (stamped (tick z.clock)) n i) z.bays) (present (page_of n z) refl (or_left _ _ (passed (on_page n use_page) z e 13 refl))))
    where
      present : (o : Option Item) → page_of n z ≡ o → is_none (over length (over (λ (i : Item). i.bytes) o)) ≡ false → 1 ≤ many (has_name n) z.bays
      present none q x = absurd (true≢false x)
      present (some i) q x = each-some (subst (Each (λ (i : Item). 1 ≤ many (has_name n) z.bays)) q (find-sum (λ (b : List Cell). get (has_name n) (items b)) (λ (b : List Cell). count (has_name n) (items b)) (λ b. get-count (has_name n) (items b)) z.bays))
  page-there (mark_page _) x3 e = elim x3 [ ]
  page-there drop_page x3 e = elim x3 [ ]

offset : {bs next : List ℕ} {l : Ledger} (n : ℕ) (c : PageCall) {a : Answer} → Given (beside (on_page n c)) → Promise (on_page n c) bs a next → AnswersPlace c → a.number ≡ 0 → Point bs l → page_at n next ≡ some a.value
offset {bs} {next} n c {a} y k x d p = go (refusal_of (on_page n c) (Work.facts true p.zone)) refl
  where
    go : (j : ℕ) → refusal_of (on_page n c) (Work.facts true p.zone) ≡ j → page_at n next ≡ some a.value
    go zero e =
        let u : Zone = (work (on_page n c) p.zone).next in
        let v : Whole u = work-whole (on_page n c) p.zone y p.whole e in
        let t = page-there n p.zone p.whole c x e in
        let s : Stored _ u = stored-after bs p.zone u p.whole v (work-buffer (on_page n c) p.zone y p.whole e) p.stored in
        let r : result_of a next ≡ outcome bs (in_line p.zone) (work (on_page n c) p.zone) = k ∙ call-worked bs p.zone p.whole p.stored (on_page n c) e in
        ap (page_at n) (ap (λ (r : Result). r.bytes) r) ∙ page-found _ u v s n t.1 ∙ ap some (sym t.0 ∙ sym (ap (λ (r : Result). r.answer.value) r))
    go (suc j) e = absurd (omega (arith, d, ap (λ (r : Result). r.answer.number) (k ∙ call-refused bs p.zone p.whole p.stored (on_page n c) j e)))

claim : {b₀ : List ℕ} (buf n m : ℕ) → Point b₀ (initial buf n m) → Claim buf n m b₀
claim {b₀} buf n m p =
    let l₀ : Ledger = initial buf n m in
    record {
      answers = λ cs u mid h. answered l₀ h p;
      never_1 = λ cs u mid h. never l₀ h p;
      stands = λ cs u mid h. stands (reached l₀ h p);
      unmoved = λ cs ds u v mid end h k x f i.
          let a : Point mid (ledger_after cs l₀) = reached l₀ h p in
          let b : Point end (ledger_after ds (ledger_after cs l₀)) = reached (ledger_after cs l₀) k a in
          subst (Has x) (sym (stands b).places) (kept (ledger_after cs l₀) x k f (subst (Has x) (stands a).places i));
      space = λ cs u mid end q a h y k e.
          let b : Point mid (ledger_after cs l₀) = reached l₀ h p in
          sym (told-number a (beside (call_of q))) ∙ ap (λ (x : Answer). x.number) (told-as (call_of q) y k b) ∙ space q (ledger_after cs l₀) (once-live b) (room_at b) e;
      offset = λ cs u mid end k c a h y q x d. offset k c y q x d (reached l₀ h p);
    }

-- ---- from initialization on

pub first-point : (bs : List ℕ) (n m : ℕ) → Accepted (length bs) n m → Point (encode (in_line (fresh (length bs) n m)) ++ drop n bs) (initial (length bs) n m)
first-point bs n m a = record {
  zone = fresh (length bs) n m;
  whole = fresh-whole (length bs) n m a;
  stored = fresh-stored (length bs) n m a bs refl;
  one = matches (like-last (fresh-fits (n - first_block m) (omega (arith, a))));
}

pub the-list : TheList
the-list bs b₀ n m a i d = go (first order (bad_initialize (length bs) n m ∷ [])) refl (sym (ap (λ (r : Result). r.answer.number) i) ∙ d) (ap (λ (r : Result). r.bytes) i)
  where
    go : (k : ℕ) → first order (bad_initialize (length bs) n m ∷ []) ≡ k → (initialize_with k n m bs).answer.number ≡ 0 → b₀ ≡ (initialize_with k n m bs).bytes → Claim (length bs) n m b₀
    go zero e d q = claim (length bs) n m (rw q (first-point bs n m (accepted (length bs) n m e)))
    go (suc k) e d q = absurd (omega (arith, rw (eqb-suc-zero k) at d))
