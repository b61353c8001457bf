-- What `specs/PageSays` says of pages holds.
use mathlib.Core.Path.{◌≡◌, refl, ap, sym, ◌∙◌, subst}
use mathlib.Core.Bool.{Bool, true, false, cond, true≢false}
use mathlib.Core.Option.{Option, none, some, get_or}
use mathlib.Core.List.{List}
use Prim.Native.Nat.{ℕ, zero, suc, ◌≤◌, ◌<◌}
use native.Mathlib.Omega.{arith}
use lib.Dec.{eqb, leb, eqb-suc-zero}
use lib.ListN.{length}
use borrow.Author.Tests.{le-leb, lt-leb, ne_eqb}
use Rattle.bigendian.specs.BigEndian.{Bytes}
use Rattle.block_type.specs.Limits.{page_limit, page_need, argument_range}
use Rattle.format.specs.WellFormed.{well_formed}
use Rattle.kinds.specs.Kinds.{has_name}
use Rattle.calls.specs.Calls.{by_handle, by_pointer, by_name, PageCall, create_page, use_page, mark_page, drop_page, Call, allocate_relocatable, allocate_fixed, free_handle, free_pointer, resize, size, read, write, view, compact, sums, check, length_of, enlarge, shrink, roster, on_page, Answer, told, refused, Beside, alone, lends, part, of_page, beside, number_told}
use Rattle.calls.specs.Bays.{over, concat_s}
use Rattle.calls.specs.State.{content}
use Rattle.calls.specs.Pages.{unlocked, in_turn, first_dirty, sum_without, dropping}
use Rattle.calls.specs.Table.{Facts, is_none, causes, holds_in, order, refusal_of, refusal_value}
use Rattle.calls.proofs.First.{picked}
use Rattle.structure.specs.Structure.{decode}
use Rattle.calls.proofs.Order.{create_number, create-number, absent-number, read-absent, write-absent}
use Rattle.bay.specs.Bay.{bay_sum, items}
use Rattle.zone.specs.Work.{Zone, facts, work}
use Rattle.zone.specs.View.{view_length}
use Rattle.zone.specs.Call.{Result, result_of, outcome, zone_in, number_of, call_with, call}
use Rattle.zone.specs.Promise.{Promise}
use Rattle.zone.specs.Growth.{largest_of}
use Rattle.zone.specs.PageSays.{Absent, Drops, Stops, StoppedCreate, stopped_create, emptied_in, Made, CreateSays, PageSays}
use Rattle.zone.proofs.HowMany.{many}
use Rattle.zone.proofs.Keep.{Whole}
use Rattle.zone.proofs.Run.{Stored, number_is, call-worked, call-refused, well-whole, well-stored}
use Rattle.zone.proofs.Numbers.{work-number}
use Rattle.zone.proofs.PageNumbers.{named-many, none-many, absent-zone, met-many, told-number, told-refused}
use Rattle.zone.proofs.PageAsked.{used, flags, dropped}
use Rattle.zone.proofs.PageDrops.{Ready, Ends, reaches, stops, ends, ready-number}
use Rattle.zone.proofs.PageLoose.{loose-walk}
use Rattle.zone.proofs.PageMade.{made}
use Rattle.zone.proofs.PageRead.{size-told, read_told, read_past, write-past, view-past, view-none, read_short, write-short, view-told, view-place, view-long, write-told}
use Rattle.zone.proofs.PageIdle.{idle}
use Rattle.zone.proofs.PageSlide.{slid}
use Rattle.zone.proofs.PageStops.{stop_is, drop-is}

-- ---- what a number says of the four tests

zero-parts : (a l e s : Bool) → create_number a l e s ≡ 0 → (a ≡ true) × (l ≡ true) × (e ≡ true)
zero-parts true true true true q = (refl, refl, refl)
zero-parts true true true false q = absurd (omega arith)
zero-parts true true false s q = absurd (omega arith)
zero-parts true false e s q = absurd (omega arith)
zero-parts false l e s q = absurd (omega arith)

twelve-parts : (a l e s : Bool) → create_number a l e s ≡ 12 → (a ≡ true) × (l ≡ true) × (e ≡ true)
twelve-parts true true true true q = absurd (omega arith)
twelve-parts true true true false q = (refl, refl, refl)
twelve-parts true true false s q = absurd (omega arith)
twelve-parts true false e s q = absurd (omega arith)
twelve-parts false l e s q = absurd (omega arith)

-- ---- create

module _ (n c : ℕ) (bs after : List ℕ) (a : Answer) (z : Zone) (w : Whole z) (s : Stored bs z) (p : Promise (on_page n (create_page c)) bs a after) where
  abbrev new : Bool
  new = is_none (over length (content items (by_name n) z.bays))

  abbrev small : Bool
  small = leb c page_limit

  abbrev emptied : Bool
  emptied = leb (page_need c) (sum_without items bay_sum unlocked z.bays)

  abbrev clean : Bool
  clean = is_none (first_dirty (dropping items bay_sum (page_need c) z))

  abbrev number : ℕ
  number = create_number new small emptied clean

  refusal : refusal_of (on_page n (create_page c)) (facts true z) ≡ number
  refusal = create-number n c (facts true z) refl

  told-so : a.number ≡ number
  told-so = told-number bs z w s n (create_page c) after a p refl ∙ refusal

  absent : Absent n bs → new ≡ true
  absent f = none-many n z (absent-zone bs z w s n f)

  by_parts : (new ≡ true) × (small ≡ true) × (emptied ≡ true) → Ready n c z
  by_parts t = record { small = t.1; absent = none (many (has_name n) z.bays) refl; emptied = t.2 }
    where
      none : (k : ℕ) → many (has_name n) z.bays ≡ k → many (has_name n) z.bays ≡ 0
      none zero q = q
      none (suc k) q = absurd (true≢false (sym t.0 ∙ named-many n z (omega arith)))

  -- the name of a dirty page that would be reached
  named : a.number ≡ 12 → (v : ℕ) → first_dirty (dropping items bay_sum (page_need c) z) ≡ some v → a ≡ told 12 v
  named e v k = (told-refused bs z w s n (create_page c) 11 after a p (refusal ∙ sym told-so ∙ e)).0 ∙ ap (λ (o : Option ℕ). told 12 (get_or o 0)) k

  -- no other end
  cleared-number : (r : Ready n c z) → first_dirty (dropping items bay_sum (page_need c) z) ≡ none → a.number ≡ 0
  cleared-number r k = told-so ∙ sym refusal ∙ ready-number n c z r ∙ (rw k)

  stopped-number : (r : Ready n c z) (v : ℕ) → first_dirty (dropping items bay_sum (page_need c) z) ≡ some v → a.number ≡ 12
  stopped-number r v k = told-so ∙ sym refusal ∙ ready-number n c z r ∙ (rw k)

  pub twelve : a.number ≡ 12 → Stops (page_need c) a.value bs
  twelve e = go (ends n c (in_turn z.clock (concat_s items z.bays)) bs z w s ready refl)
    where
      ready : Ready n c z
      ready = by_parts (twelve-parts new small emptied clean (sym told-so ∙ e))

      go : Ends n c bs z → Stops (page_need c) a.value bs
      go (reaches k) = absurd (omega (arith, e, cleared-number ready k.clean))
      go (stops v k t) = subst (λ (i : ℕ). Stops (page_need c) i bs) (sym (ap (λ (b : Answer). b.value) (named e v k))) t

  pub create-says : n < argument_range → CreateSays n c bs after a
  create-says y = record {
    shape = shape (refusal_of (on_page n (create_page c)) (facts true z)) refl;
    eleven = λ x m q. told-so ∙ (rw (named-many n z (subst (λ (k : ℕ). 1 ≤ many (has_name k) z.bays) q (met-many bs z w s m))));
    three = λ f l. told-so ∙ (rw (absent f, lt-leb c page_limit l));
    five = λ f l g. told-so ∙ (rw (absent f, le-leb c page_limit l, lt-leb (page_need c) (sum_without items bay_sum unlocked z.bays) (omega (arith, g, loose-walk bs z w s))));
    other = λ f l g d. other clean
        (told-so ∙ (rw (absent f, le-leb c page_limit l, le-leb (page_need c) (sum_without items bay_sum unlocked z.bays) (omega (arith, g, loose-walk bs z w s))))) d;
    done = λ e. done e (ends n c (in_turn z.clock (concat_s items z.bays)) bs z w s (ready-zero e) refl);
    nothing = λ f. nothing f (refusal_of (on_page n (create_page c)) (facts true z)) refl;
    alone = λ f g. alone f g (refusal_of (on_page n (create_page c)) (facts true z)) refl;
  }
    where
      formed : (k v : ℕ) → a ≡ told k v → a ≡ told a.number a.value
      formed k v q = q ∙ ap (λ (b : Answer). told b.number b.value) (sym q)

      shape : (k : ℕ) → refusal_of (on_page n (create_page c)) (facts true z) ≡ k → a ≡ told a.number a.value
      shape zero q = formed 0 _ (ap (λ (r : Result). r.answer) (p ∙ call-worked bs z w s (on_page n (create_page c)) q))
      shape (suc k) q = formed (suc k) _ (told-refused bs z w s n (create_page c) k after a p q).0

      other : (t : Bool) → a.number ≡ cond t 0 12 → (a.number ≡ 12 → ⊥) → a.number ≡ 0
      other true q f = q
      other false q f = absurd (f q)

      ready-zero : a.number ≡ 0 → Ready n c z
      ready-zero e = by_parts (zero-parts new small emptied clean (sym told-so ∙ e))

      done : a.number ≡ 0 → Ends n c bs z → Made n c bs after a.value
      done e (reaches k) = made n c bs after a z w s y (ready-zero e) k p
      done e (stops v k t) = absurd (omega (arith, e, stopped-number (ready-zero e) v k))

      nothing : (a.number ≡ 0 → ⊥) → (k : ℕ) → refusal_of (on_page n (create_page c)) (facts true z) ≡ k → after ≡ bs
      nothing f zero q = absurd (f (told-so ∙ sym refusal ∙ q))
      nothing f (suc k) q = (told-refused bs z w s n (create_page c) k after a p q).1

      alone : (a.number ≡ 0 → ⊥) → (a.number ≡ 12 → ⊥) → (k : ℕ) → refusal_of (on_page n (create_page c)) (facts true z) ≡ k → a.value ≡ 0
      alone f g zero q = absurd (f (told-so ∙ sym refusal ∙ q))
      alone f g (suc k) q =
          ap (λ (b : Answer). b.value) (told-refused bs z w s n (create_page c) k after a p q).0
          ∙ ap (λ (t : Bool). cond t (get_or (first_dirty (dropping items bay_sum (page_need c) z)) 0) 0) (ne_eqb (suc k) 12 (λ e. g (told-so ∙ sym refusal ∙ q ∙ e)))

  module _ (f : Absent n bs) (l : c ≤ page_limit) (g : page_need c ≤ largest_of (emptied_in bs)) where
    ready : Ready n c z
    ready = record { small = le-leb c page_limit l; absent = absent-zone bs z w s n f; emptied = le-leb (page_need c) (sum_without items bay_sum unlocked z.bays) (omega (arith, g, loose-walk bs z w s)) }

    pub stopped : (v : ℕ) → Stops (page_need c) v bs → a ≡ told 12 v
    stopped v t =
        let k : first_dirty (dropping items bay_sum (page_need c) z) ≡ some v = stop_is n c v t z w s ready in
        named (told-so ∙ sym refusal ∙ ready-number n c z ready ∙ (rw k)) v k

    pub reached : (mid : List ℕ) → n < argument_range → Drops (page_need c) bs mid → (a.number ≡ 0) × Promise (on_page n (create_page c)) mid a after
    reached mid y t =
        let k = drop-is n c t z w s ready in
        (told-so ∙ sym refusal ∙ ready-number n c z ready ∙ (rw k.0), p ∙ sym (k.1 y))

-- ---- no page of that name

module _ (n : ℕ) (bs : List ℕ) (y : Bytes bs) (h : well_formed bs ≡ true) (f : Absent n bs) where
  nowhere : is_none (over length (content items (by_name n) (zone_in bs).bays)) ≡ true
  nowhere = none-many n (zone_in bs) (absent-zone bs (zone_in bs) (well-whole bs y h) (well-stored bs y h) n f)

  missing : (c : Call) → refusal_of c (facts true (zone_in bs)) ≡ 13 → call c bs ≡ result_of (refused c 13 (refusal_value 13 c (facts true (zone_in bs)))) bs
  missing c q = call-refused bs (zone_in bs) (well-whole bs y h) (well-stored bs y h) c 12 q

  view-absent : (i k : ℕ) → refusal_of (view (by_name n) i k) (facts true (zone_in bs)) ≡ 13
  view-absent i k = rw nowhere

  no-view : (i k : ℕ) → view_length (by_name n) i k bs ≡ 0
  no-view i k = ap (λ (j : ℕ). cond (eqb j 0) k 0) (number_is bs (zone_in bs) (well-whole bs y h) (well-stored bs y h) (view (by_name n) i k) ∙ view-absent i k)

-- ---- no zone

no_zone : (n : ℕ) (p : PageCall) (bs : List ℕ) → well_formed bs ≡ false → call (on_page n p) bs ≡ result_of (told 1 0) bs
no_zone n p bs h = ap (λ (j : ℕ). call_with j (on_page n p) bs) number ∙ ap (λ (v : ℕ). result_of (told 1 v) bs) (value p)
  where
    number : number_of (on_page n p) bs ≡ 1
    number = rw h

    value : (p : PageCall) → refusal_value 1 (on_page n p) (facts (well_formed bs) (zone_in bs)) ≡ 0
    value (create_page c) = refl
    value use_page = refl
    value (mark_page m) = refl
    value drop_page = refl

-- ---- who is told 12

data Create : Call → Type 0 where
  is-create : {n c : ℕ} → Create (on_page n (create_page c))

twelve-held : (c : Call) (f : Facts) → holds_in 12 (causes c f) ≡ true → Create c
twelve-held (allocate_relocatable c) f q = absurd (true≢false (sym q))
twelve-held (allocate_fixed c) f q = absurd (true≢false (sym q))
twelve-held (free_handle h) f q = absurd (true≢false (sym q))
twelve-held (free_pointer p) f q = absurd (true≢false (sym q))
twelve-held (resize h c) f q = absurd (true≢false (sym q))
twelve-held (size (by_handle h)) f q = absurd (true≢false (sym q))
twelve-held (size (by_pointer p)) f q = absurd (true≢false (sym q))
twelve-held (size (by_name n)) f q = absurd (true≢false (sym q))
twelve-held (read (by_handle h) i n second) f q = absurd (true≢false (sym q))
twelve-held (read (by_pointer p) i n second) f q = absurd (true≢false (sym q))
twelve-held (read (by_name k) i n second) f q = absurd (true≢false (sym q))
twelve-held (write (by_handle h) i n second) f q = absurd (true≢false (sym q))
twelve-held (write (by_pointer p) i n second) f q = absurd (true≢false (sym q))
twelve-held (write (by_name k) i n second) f q = absurd (true≢false (sym q))
twelve-held (view (by_handle h) i n) f q = absurd (true≢false (sym q))
twelve-held (view (by_pointer p) i n) f q = absurd (true≢false (sym q))
twelve-held (view (by_name k) i n) f q = absurd (true≢false (sym q))
twelve-held compact f q = absurd (true≢false (sym q))
twelve-held sums f q = absurd (true≢false (sym q))
twelve-held check f q = absurd (true≢false (sym q))
twelve-held length_of f q = absurd (true≢false (sym q))
twelve-held (enlarge k) f q = absurd (true≢false (sym q))
twelve-held (shrink k) f q = absurd (true≢false (sym q))
twelve-held (roster second) f q = absurd (true≢false (sym q))
twelve-held (on_page n (create_page c)) f q = is-create
twelve-held (on_page n use_page) f q = absurd (true≢false (sym q))
twelve-held (on_page n (mark_page m)) f q = absurd (true≢false (sym q))
twelve-held (on_page n drop_page) f q = absurd (true≢false (sym q))

stopped_by : {c : Call} → Create c → (bs after : List ℕ) (a : Answer) → Bytes bs → Promise c bs a after → a.number ≡ 12 → StoppedCreate a.value bs c
stopped_by (is-create {n = n} {c = c}) bs after a y p e = stopped_create (go (well_formed bs) refl)
  where
    go : (t : Bool) → well_formed bs ≡ t → Stops (page_need c) a.value bs
    go true h = twelve n c bs after a (zone_in bs) (well-whole bs y h) (well-stored bs y h) p e
    go false h = absurd (omega (arith, e, ap (λ (r : Result). r.answer.number) (p ∙ no_zone n (create_page c) bs h)))

only_create : (c : Call) (bs after : List ℕ) (a : Answer) → Bytes bs → Promise c bs a after → a.number ≡ 12 → StoppedCreate a.value bs c
only_create c bs after a y p e = stopped_by (create (number_of c bs) refl) bs after a y p e
  where
    done : (t : Bool) → (cond t (outcome bs (decode bs) (work c (zone_in bs))) (result_of (told 0 0) bs)).answer.number ≡ 0
    done true = work-number c (zone_in bs)
    done false = refl

    telling : (b : Beside) (k : ℕ) → number_told (suc k) b ≡ 12 → suc k ≡ 12
    telling alone k q = q
    telling (lends second) k q = q
    telling part k q = absurd (omega arith)
    telling (of_page n p) k q = q

    refusing : (k : ℕ) → (call_with (suc k) c bs).answer.number ≡ number_told (suc k) (beside c)
    refusing k = rw (eqb-suc-zero k)

    create : (k : ℕ) → number_of c bs ≡ k → Create c
    create zero q = absurd (omega (arith, e, ap (λ (r : Result). r.answer.number) p, ap (λ (j : ℕ). (call_with j c bs).answer.number) q, done (well_formed bs)))
    create (suc k) q =
        let t : suc k ≡ 12 = telling (beside c) k (sym (refusing k) ∙ sym (ap (λ (r : Result). r.answer.number) (p ∙ ap (λ (j : ℕ). call_with j c bs) q)) ∙ e) in
        twelve-held c (facts (well_formed bs) (zone_in bs)) (picked (causes c (facts (well_formed bs) (zone_in bs))) order 11 (q ∙ t))

pub page-says : PageSays
page-says = record {
  created = λ n c bs after a l y h p. create-says n c bs after a (zone_in bs) (well-whole bs y h) (well-stored bs y h) p l;
  only_create = only_create;
  stopped = λ n c v bs after a y h p f l g t. stopped n c bs after a (zone_in bs) (well-whole bs y h) (well-stored bs y h) p f l g v t;
  reached = λ n c bs mid after a i y h p f l g t. reached n c bs after a (zone_in bs) (well-whole bs y h) (well-stored bs y h) p f l g mid i t;
  used = λ x bs after a y h m p. let w = well-whole bs y h in let s = well-stored bs y h in used bs (zone_in bs) w s x.name (met-many bs (zone_in bs) w s m) after a p;
  marked = λ x k bs after a y h m p. let w = well-whole bs y h in let s = well-stored bs y h in flags bs (zone_in bs) w s x.name (met-many bs (zone_in bs) w s m) k after a p;
  dropped = λ x bs after a y h m p. let w = well-whole bs y h in let s = well-stored bs y h in dropped bs (zone_in bs) w s x.name (met-many bs (zone_in bs) w s m) after a p;
  sized = λ x bs y h m. size-told bs (zone_in bs) (well-whole bs y h) (well-stored bs y h) x m;
  shown = λ x i k second bs y h m l o. read_told bs (zone_in bs) (well-whole bs y h) (well-stored bs y h) x m i k second l o;
  viewed = λ x v i k bs y h m q l. let w = well-whole bs y h in let s = well-stored bs y h in (view-told bs (zone_in bs) w s x m i k l, view-place bs (zone_in bs) w s x m i k l v q, view-long bs (zone_in bs) w s x m i k l);
  written = λ x v i k second bs after a y h m q l o p. write-told bs (zone_in bs) (well-whole bs y h) (well-stored bs y h) x m v i k second after a q l o p;
  refused_past_end = λ x i k second bs y h m l.
      let w = well-whole bs y h in
      let s = well-stored bs y h in
      (read_past bs (zone_in bs) w s x m i k l second, write-past bs (zone_in bs) w s x m i k l second, view-past bs (zone_in bs) w s x m i k l, view-none bs (zone_in bs) w s x m i k l);
  refused_too_short = λ x i k second bs y h m l o. let w = well-whole bs y h in let s = well-stored bs y h in (read_short bs (zone_in bs) w s x m i k second l o, write-short bs (zone_in bs) w s x m i k second l o);
  use_missing = λ n bs y h f. missing n bs y h f (on_page n use_page) (absent-number _ (nowhere n bs y h f));
  mark_missing = λ n m bs y h f. missing n bs y h f (on_page n (mark_page m)) (absent-number _ (nowhere n bs y h f));
  drop_missing = λ n bs y h f. missing n bs y h f (on_page n drop_page) (absent-number _ (nowhere n bs y h f));
  size_missing = λ n bs y h f. missing n bs y h f (size (by_name n)) (absent-number _ (nowhere n bs y h f));
  read_missing = λ n i k second bs y h f. missing n bs y h f (read (by_name n) i k second) (read-absent n i k second (facts true (zone_in bs)) refl (nowhere n bs y h f));
  write_missing = λ n i k second bs y h f. missing n bs y h f (write (by_name n) i k second) (write-absent n i k second (facts true (zone_in bs)) refl (nowhere n bs y h f));
  view_missing = λ n i k bs y h f. (missing n bs y h f (view (by_name n) i k) (view-absent n bs y h f i k), no-view n bs y h f i k);
  broken = no_zone;
  idle = λ c bs after a y h g p f o. idle c bs after a (zone_in bs) (well-whole bs y h) (well-stored bs y h) g p f o;
  slid = λ c bs after a y h l p. slid c bs after a (zone_in bs) (well-whole bs y h) (well-stored bs y h) l p;
}
