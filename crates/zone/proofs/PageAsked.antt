-- Use, marks and drop of a page that is there, as `specs/PageSays` says them.
use mathlib.Core.Path.{◌≡◌, refl, ap, sym, ◌∙◌, subst}
use mathlib.Core.Bool.{Bool, true, false, cond}
use mathlib.Core.Option.{some}
use mathlib.Core.List.{List, [], ◌∷◌}
use Prim.Native.Nat.{ℕ, suc, ◌+◌, ◌-◌, ◌≤◌, ◌<◌}
use native.Mathlib.Omega.{arith}
use lib.Dec.{eqb, leb}
use borrow.Author.Tests.{eqb-true, eqb-false, leb-true, leb-false}
use Rattle.bigendian.specs.BigEndian.{overwrite}
use Rattle.block_type.specs.Limits.{stamp_range, page_header, status_at, clock_at}
use Rattle.format.specs.WellFormed.{clock_field}
use Rattle.kinds.specs.Kinds.{Status, has_name, on_status}
use Rattle.kinds.proofs.KindLaws.{is-no-page, status-name}
use Rattle.calls.specs.Calls.{Mark, set_dirty, clear_dirty, set_lock, clear_lock, use_page, mark_page, drop_page, on_page, Answer, told}
use Rattle.calls.specs.Bays.{map_s, concat_s}
use Rattle.calls.specs.State.{done, with_bays}
use Rattle.calls.specs.Pages.{tick, stamped, marked}
use Rattle.calls.specs.Table.{refusal_of}
use Rattle.calls.proofs.Order.{there-number}
use Rattle.bay.specs.Bay.{items, edit}
use Rattle.zone.specs.Work.{Zone, facts, clear_out, ticked, data_offset}
use Rattle.zone.specs.Call.{Result, in_line, replacing, outcome, call}
use Rattle.zone.specs.Promise.{Promise}
use Rattle.zone.specs.Claim.{PageCard, page_cards, pages_in, page_at}
use Rattle.zone.specs.PageSays.{Meets, met, further, Stay, next_clock, Used, Marked, Dropped, leaving, on_name, stamped_with, flagged}
use Rattle.zone.proofs.HowMany.{many, edit-many}
use Rattle.zone.proofs.Dropping.{mark-stamp}
use Rattle.zone.proofs.Walk.{Closed, changes-status}
use Rattle.zone.proofs.Keep.{Whole}
use Rattle.zone.proofs.Run.{Stored, stored-after, call-worked}
use Rattle.zone.proofs.Fields.{clock-read}
use Rattle.zone.proofs.PagesMet.{pages-walk, page-found}
use Rattle.zone.proofs.PageRelease.{items-released}
use Rattle.zone.proofs.PageNumbers.{named-many}
use Rattle.zone.proofs.PageBytes.{page-in, at, place_is, place_after, line-edited, block-fits, in_buffer, stamp-small, flag_byte, flags-written, stamp-written, only_one, only_two}
use Rattle.zone.proofs.PageStill.{unmoved}
use Rattle.zone.proofs.PageChanges.{whole_by, masters-by, stay-by, spots-map, fixed-map, released-find, edited-find, cards-removed, cards-altered, items-edited}

pub tick_is : (k : ℕ) → k < stamp_range → tick k ≡ next_clock k
tick_is k l = go (eqb (suc k) stamp_range) refl
  where
    go : (t : Bool) → eqb (suc k) stamp_range ≡ t → tick k ≡ cond t 0 (suc k)
    go true q = omega (arith, eqb-true (suc k) stamp_range q)
    go false q = below (leb stamp_range (suc k)) refl
      where
        below : (t : Bool) → leb stamp_range (suc k) ≡ t → tick k ≡ suc k
        below true e = absurd (eqb-false (suc k) stamp_range q (omega (arith, leb-true stamp_range (suc k) e)))
        below false e = omega (arith, leb-false stamp_range (suc k) e)

some_is : {a b : ℕ} → some a ≡ some b → a ≡ b
some_is q = cc

-- a mark leaves the stamp
mark-same : (m : Mark) (t : Status) → (marked m t).stamp ≡ t.stamp
mark-same set_dirty t = refl
mark-same clear_dirty t = refl
mark-same set_lock t = refl
mark-same clear_lock t = refl

-- the first, or a further one
pub met-case : (C : Type 0) {x y : PageCard} {l : List PageCard} → Meets x (y ∷ l) → (x ≡ y → C) → (Meets x l → C) → C
met-case C met f g = f refl
met-case C (further m) f g = g m

-- the page of that name has that stamp
met-stamped : (n k : ℕ) (l : List PageCard) {x : PageCard} → Meets x (on_name n (stamped_with k) l) → x.name ≡ n → x.stamp ≡ k
met-stamped n k (y ∷ l) {x} m q = met-case (x.stamp ≡ k) m (λ e. go (eqb n y.name) refl e) (λ o. met-stamped n k l o q)
  where
    go : (t : Bool) → eqb n y.name ≡ t → x ≡ cond t (stamped_with k y) y → x.stamp ≡ k
    go true d e = ap (λ (p : PageCard). p.stamp) e
    go false d e = absurd (eqb-false n y.name d (sym q ∙ ap (λ (p : PageCard). p.name) e))
met-stamped n k [] {x = x} m q = elim m [ ]

module _ (bs : List ℕ) (z : Zone) (w : Whole z) (s : Stored bs z) (n : ℕ) (here : 1 ≤ many (has_name n) z.bays) where
  -- ---- drop

  abbrev pub left : Zone
  left = clear_out (has_name n) z

  pub drop-passed : refusal_of (on_page n drop_page) (facts true z) ≡ 0
  drop-passed = there-number _ (named-many n z here)

  clears : (P : Zone → Type 0) → Closed P → P z → P left
  clears P k g = k.clear z (has_name n) (λ h e y. is-no-page h n e y) g

  pub drop-whole : Whole left
  drop-whole = whole_by z left w clears

  pub drop-stored : Stored (replacing bs (in_line z) (in_line left)) left
  drop-stored = stored-after bs z left w drop-whole refl s

  pub drop-called : call (on_page n drop_page) bs ≡ outcome bs (in_line z) (done 0 left)
  drop-called = call-worked bs z w s (on_page n drop_page) drop-passed

  pub left-stay : (after : List ℕ) → Stored after left → Stay bs after
  left-stay after s' =
      stay-by bs after z left w s drop-whole s' refl refl (masters-by z left w clears) (spots-map _ z.bays) (λ h. released-find _ (has_name n) (λ e q. is-no-page h n e q) z.bays) (λ p. fixed-map _ _ z.bays)

  pub left-pages : (after : List ℕ) → Stored after left → pages_in after ≡ leaving n (pages_in bs)
  left-pages after s' =
      pages-walk after left drop-whole s' ∙ ap page_cards (items-released (has_name n) z.bays) ∙ cards-removed n (concat_s items z.bays) ∙ ap (leaving n) (sym (pages-walk bs z w s))

  pub dropped : (after : List ℕ) (a : Answer) → Promise (on_page n drop_page) bs a after → Dropped n bs after a
  dropped after a p =
      let q = p ∙ drop-called in
      let s' : Stored after left = subst (λ (b : List ℕ). Stored b left) (sym (ap (λ (r : Result). r.bytes) q)) drop-stored in
      record {
        accepted = ap (λ (r : Result). r.answer) q;
        ticks = clock-read after left drop-whole s' ∙ sym (clock-read bs z w s);
        pages = left-pages after s';
        unmoved = unmoved bs after z w s n drop-whole s' (masters-by z left w clears);
        stay = left-stay after s';
      }

  -- ---- another status: the clock of the zone v is that of z, or the next

  module _ (v : Zone) (g : Status → Status) (small : (t : Status) → t.stamp < stamp_range → (g t).stamp < stamp_range) (f : PageCard → PageCard)
      (o : (i : ℕ) (t : Status) (d : List ℕ) → ◌≡◌ {A = PageCard} (record { name = i; dirty = (g t).dirty; lock = (g t).lock; stamp = (g t).stamp; bytes = d }) (f (record { name = i; dirty = t.dirty; lock = t.lock; stamp = t.stamp; bytes = d })))
      (same : v.bays ≡ z.bays) (buffer : v.buf ≡ z.buf) (long : v.len ≡ z.len) (chain : v.chain ≡ z.chain) (step : (P : Zone → Type 0) → Closed P → P z → P v) where
    abbrev edited : Zone
    edited = with_bays (map_s (edit (has_name n) (on_status g)) v.bays) v

    edits : (P : Zone → Type 0) → Closed P → P z → P edited
    edits P k p = k.edit v (has_name n) (on_status g) (changes-status g small) (step P k p)

    edit-whole : Whole edited
    edit-whole = whole_by z edited w edits

    edit-stored : Stored (replacing bs (in_line z) (in_line edited)) edited
    edit-stored = stored-after bs z edited w edit-whole buffer s

    edit-stay : (after : List ℕ) → Stored after edited → Stay bs after
    edit-stay after s' =
        stay-by bs after z edited w s edit-whole s' long chain (masters-by z edited w edits) (spots-map _ v.bays ∙ (rw same)) (λ h. edited-find n h g v.bays ∙ (rw same)) (λ p. fixed-map _ _ v.bays ∙ (rw same))

    edit-pages : (after : List ℕ) → Stored after edited → pages_in after ≡ on_name n f (pages_in bs)
    edit-pages after s' =
        pages-walk after edited edit-whole s'
        ∙ ap page_cards (items-edited (has_name n) (on_status g) v.bays)
        ∙ cards-altered n g f o (concat_s items v.bays)
        ∙ ap (λ b. on_name n f (page_cards (concat_s items b))) same
        ∙ ap (on_name n f) (sym (pages-walk bs z w s))

    edit-found : (after : List ℕ) → Stored after edited → page_at n after ≡ some (data_offset n edited)
    edit-found after s' = page-found after edited edit-whole s' n (omega (arith, edit-many (has_name n) (has_name n) (on_status g) (λ e. status-name g n e) v.bays, ap (many (has_name n)) same))

  pub used : (after : List ℕ) (a : Answer) → Promise (on_page n use_page) bs a after → Used n bs after a
  used after a p =
      let v : Zone = ticked z.bays z in
      let g : Status → Status = stamped (tick z.clock) in
      let e : refusal_of (on_page n use_page) (facts true z) ≡ 0 = there-number _ (named-many n z here) in
      let q = p ∙ call-worked bs z w s (on_page n use_page) e in
      let small : (t : Status) → t.stamp < stamp_range → (g t).stamp < stamp_range = λ t l. omega arith in
      let step : (P : Zone → Type 0) → Closed P → P z → P v = λ P k x. k.step z x in
      let card : PageCard → PageCard = stamped_with (tick z.clock) in
      let u : Zone = edited v g small card (λ i t d. refl) refl refl refl refl step in
      let w' : Whole u = edit-whole v g small card (λ i t d. refl) refl refl refl refl step in
      let s' : Stored after u = subst (λ (b : List ℕ). Stored b u) (sym (ap (λ (r : Result). r.bytes) q)) (edit-stored v g small card (λ i t d. refl) refl refl refl refl step) in
      let c : clock_field after ≡ tick z.clock = clock-read after u w' s' in
      record {
        accepted = let k = ap (λ (r : Result). r.answer) q in k ∙ ap (λ (b : Answer). told 0 b.value) (sym k);
        place = edit-found v g small card (λ i t d. refl) refl refl refl refl step after s' ∙ ap some (sym (ap (λ (r : Result). r.answer.value) q));
        ticks = c ∙ tick_is z.clock w.ticks.byte ∙ ap next_clock (sym (clock-read bs z w s));
        pages = edit-pages v g small card (λ i t d. refl) refl refl refl refl step after s' ∙ ap (λ (k : ℕ). on_name n (stamped_with k) (pages_in bs)) (sym c);
        young = λ x m k. let f = met-stamped n (tick z.clock) (pages_in bs) (rw (edit-pages v g small card (λ i t d. refl) refl refl refl refl step after s') at m) k in (omega arith, omega (arith, f, c));
        only =
            let t = page-in z w n here in
            let o : a.value ≡ at bs z w s n t + page_header =
            ap (λ (r : Result). r.answer.value) q ∙ place_after bs z w s n t u (g t.status) t.content (line-edited bs z w s n t (on_status g)) refl refl (masters-by z u w (edits v g small card (λ i t d. refl) refl refl refl refl step)) in
            let e : at bs z w s n t + (status_at + 1) ≡ a.value - 1 = omega arith in
            let fits = block-fits bs z w s n t in
            let whole = in_buffer bs z w s n t in
            only_two bs after clock_at (a.value - 1) u.clock (tick z.clock) (omega (arith, fits, whole)) (omega (arith, fits, whole))
            (ap (λ (r : Result). r.bytes) q
            ∙ stamp-written bs z w s n t u (g t.status) t.content (line-edited bs z w s n t (on_status g)) refl refl (small t.status (stamp-small bs z w s n t)) refl refl
            ∙ ap (λ (j : ℕ). overwrite (overwrite bs clock_at (u.clock ∷ [])) j (tick z.clock ∷ [])) e);
        stay = edit-stay v g small card (λ i t d. refl) refl refl refl refl step after s';
      }

  flag_is : (m : Mark) (i : ℕ) (t : Status) (d : List ℕ)
      → ◌≡◌ {A = PageCard} (record { name = i; dirty = (marked m t).dirty; lock = (marked m t).lock; stamp = (marked m t).stamp; bytes = d }) (flagged m (record { name = i; dirty = t.dirty; lock = t.lock; stamp = t.stamp; bytes = d }))
  flag_is set_dirty i t d = refl
  flag_is clear_dirty i t d = refl
  flag_is set_lock i t d = refl
  flag_is clear_lock i t d = refl

  pub flags : (m : Mark) (after : List ℕ) (a : Answer) → Promise (on_page n (mark_page m)) bs a after → Marked n m bs after a
  flags m after a p =
      let e : refusal_of (on_page n (mark_page m)) (facts true z) ≡ 0 = there-number _ (named-many n z here) in
      let q = p ∙ call-worked bs z w s (on_page n (mark_page m)) e in
      let step : (P : Zone → Type 0) → Closed P → P z → P z = λ P k x. x in
      let u : Zone = edited z (marked m) (mark-stamp m) (flagged m) (flag_is m) refl refl refl refl step in
      let w' : Whole u = edit-whole z (marked m) (mark-stamp m) (flagged m) (flag_is m) refl refl refl refl step in
      let s' : Stored after u = subst (λ (b : List ℕ). Stored b u) (sym (ap (λ (r : Result). r.bytes) q)) (edit-stored z (marked m) (mark-stamp m) (flagged m) (flag_is m) refl refl refl refl step) in
      record {
        accepted = ap (λ (r : Result). r.answer) q;
        ticks = clock-read after u w' s' ∙ sym (clock-read bs z w s);
        pages = edit-pages z (marked m) (mark-stamp m) (flagged m) (flag_is m) refl refl refl refl step after s';
        only = λ i k.
            let t = page-in z w n here in
            let o : i ≡ data_offset n z = some_is (sym k ∙ page-found bs z w s n here) in
            let e : at bs z w s n t + status_at ≡ i - (page_header - status_at) = omega (arith, o, place_is bs z w s n t) in
            let fits = block-fits bs z w s n t in
            let whole = in_buffer bs z w s n t in
            only_one bs after (i - (page_header - status_at)) (flag_byte (marked m t.status)) (omega (arith, fits, whole))
            (ap (λ (r : Result). r.bytes) q
            ∙ flags-written bs z w s n t u (marked m t.status) t.content (line-edited bs z w s n t (on_status (marked m))) refl refl (mark-stamp m t.status (stamp-small bs z w s n t)) (mark-same m t.status) refl refl
            ∙ ap (λ (j : ℕ). overwrite bs j (flag_byte (marked m t.status) ∷ [])) e);
        stay = edit-stay z (marked m) (mark-stamp m) (flagged m) (flag_is m) refl refl refl refl step after s';
      }
