-- A call that is none on a page and no write by name leaves the clock, and every page as it was, in the old order.
use mathlib.Core.Path.{◌≡◌, refl, ap, ap₂, sym, ◌∙◌, subst}
use mathlib.Core.Bool.{Bool, true, false, cond}
use mathlib.Core.Option.{Option}
use mathlib.Core.List.{List, [], ◌∷◌, ◌++◌, map, append-nil, append_assoc}
use Prim.Native.Nat.{ℕ, zero, suc, ◌-◌, ◌*◌, ◌/◌, min}
use lib.Dec.{eqb, leb}
use lib.ListN.{length, replicate}
use Rattle.block_type.specs.Limits.{up4, fixed_need, added_bytes}
use Rattle.format.specs.WellFormed.{clock_field}
use Rattle.kinds.specs.Kinds.{Item, item, is, on_data}
use Rattle.kinds.proofs.KindLaws.{is-item}
use Rattle.calls.specs.Calls.{by_handle, by_pointer, by_name, PageCall, Call, allocate_relocatable, allocate_fixed, free_handle, free_pointer, resize, size, read, write, view, compact, sums, check, length_of, enlarge, shrink, roster, on_page, Answer, beside, Given}
use Rattle.calls.specs.Bays.{Bays, last, more, over, on_lowest, on_first, map_s, on_fixed, on_last, concat_s, max_s, last_s}
use Rattle.calls.specs.State.{Fixed, fsize, pointer, top, sized, total, alter, own_sum, data_of, Out, cut_high, join_over, join_at}
use Rattle.calls.specs.Table.{is_empty, refusal_of}
use Rattle.calls.proofs.Sort.{flat_append}
use Rattle.bay.specs.Bay.{Cell, free, held, bay_size, bay_sum, items, gap, join_bays, packed, packed_less, compact_bay, take_high, release, edit, resized, grow_into, in_place, grow_here, reshape}
use Rattle.bay.specs.Counted.{remove}
use Rattle.bay.proofs.Each.{Each, nothing, just, each_over, each-cond, each-get_d, cond-one}
use Rattle.bay.proofs.Laws.{items-gap, items-weld, items-packed, tidy-items, less-items, Less, trim-less, release-items, edit-items}
use Rattle.zone.specs.Work.{Zone, facts, work, with_master, has, place_low}
use Rattle.zone.specs.Call.{Result}
use Rattle.zone.specs.Promise.{Promise}
use Rattle.zone.specs.Claim.{PageCard, key_card, page_cards, pages_in}
use Rattle.zone.specs.PageSays.{Idle}
use Rattle.zone.proofs.Keep.{Whole}
use Rattle.zone.proofs.Grouped.{work-whole, work-buffer}
use Rattle.zone.proofs.Run.{Stored, stored-after, call-worked, call-refused}
use Rattle.zone.proofs.Fields.{clock-read}
use Rattle.zone.proofs.PagesMet.{pages-walk}
use Rattle.zone.proofs.PagePlaced.{low-inserted}

-- ---- the cards of blocks

cards-append : (a b : List Item) → page_cards (a ++ b) ≡ page_cards a ++ page_cards b
cards-append a b = flat_append (λ (e : Item). key_card e.key e.bytes) a b

-- a block with a handle has none
handle-card : (h : ℕ) (e : Item) → is h e ≡ true → key_card e.key e.bytes ≡ []
handle-card h e q = ap (λ (i : Item). key_card i.key i.bytes) (is-item h e q)

cards-removed : (h : ℕ) (es : List Item) → page_cards (remove (is h) es) ≡ page_cards es
cards-removed h [] = refl
cards-removed h (e ∷ es) = go (is h e) refl (cards-removed h es)
  where
    go : (t : Bool) → is h e ≡ t → page_cards (remove (is h) es) ≡ page_cards es → page_cards (cond t (remove (is h) es) (e ∷ remove (is h) es)) ≡ key_card e.key e.bytes ++ page_cards es
    go true q i = rw (handle-card h e q) i
    go false q i = ap (key_card e.key e.bytes ++◌) i

cards-altered : (h : ℕ) (f : List ℕ → List ℕ) (es : List Item) → page_cards (map (alter (is h) (on_data f)) es) ≡ page_cards es
cards-altered h f [] = refl
cards-altered h f (e ∷ es) = go (is h e) refl (cards-altered h f es)
  where
    go : (t : Bool) → is h e ≡ t → page_cards (map (alter (is h) (on_data f)) es) ≡ page_cards es → page_cards (cond t (on_data f e) e ∷ map (alter (is h) (on_data f)) es) ≡ key_card e.key e.bytes ++ page_cards es
    go true q i = ap₂ ◌++◌ (handle-card h (on_data f e) q ∙ sym (handle-card h e q)) i
    go false q i = ap (key_card e.key e.bytes ++◌) i

-- ---- one bay

abbrev in_bay : List Cell → List PageCard
in_bay b = page_cards (items b)

pub taken : (n : ℕ) (b : List Cell) → items (take_high n b) ≡ items b
taken n b = each-get_d {P = λ (d : List Cell). items d ≡ items b} (go (trim-less n b)) (less-items n b)
  where
    go : {o : Option (List Cell)} → Each (Less n b) o → Each (λ (d : List Cell). items d ≡ items b) o
    go nothing = nothing
    go (just l) = just l.same

grown : (h a : ℕ) (cs : List Cell) → Each (λ (d : List Cell). in_bay d ≡ in_bay cs) (grow_here h a cs)
grown h a [] = nothing
grown h a (free k ∷ cs) = each_over (free k ∷◌) (λ d q. q) (grown h a cs)
grown h a (held e ∷ cs) = go (is h e) refl (grown h a cs)
  where
    in_place_lem : is h e ≡ true → (ds : List Cell) → in_bay ds ≡ in_bay cs → in_bay (held (resized a e) ∷ ds) ≡ in_bay (held e ∷ cs)
    in_place_lem q ds i = ap₂ ◌++◌ (handle-card h (resized a e) q ∙ sym (handle-card h e q)) i

    into : is h e ≡ true → (n : ℕ) (ds : List Cell) → in_bay ds ≡ in_bay cs → Each (λ (d : List Cell). in_bay d ≡ in_bay (held e ∷ cs)) (grow_into (resized a e) n ds)
    into q n [] i = nothing
    into q n (held d ∷ ds) i = nothing
    into q n (free k ∷ ds) i = each-cond (leb n k) (λ l. just (in_place_lem q (gap (k - n) ds) (ap page_cards (items-gap (k - n) ds) ∙ i))) nothing

    go : (t : Bool) → is h e ≡ t → Each (λ (d : List Cell). in_bay d ≡ in_bay cs) (grow_here h a cs) → Each (λ (d : List Cell). in_bay d ≡ in_bay (held e ∷ cs)) (cond t (in_place e a cs) (over (held e ∷◌) (grow_here h a cs)))
    go true q k =
        each-cond (leb a (length e.bytes))
        (λ l. just (in_place_lem q (gap (length e.bytes - a) cs) (ap page_cards (items-gap (length e.bytes - a) cs))))
        (into q (a - length e.bytes) cs refl)
    go false q k = each_over (held e ∷◌) (λ d i. ap (key_card e.key e.bytes ++◌) i) k

packed-is : (es : List Item) (n : ℕ) → items (packed es (gap n [])) ≡ es
packed-is es n = items-packed es (gap n []) ∙ ap (es ++◌) (items-gap n []) ∙ append-nil es

reshaped : (h a : ℕ) (b : List Cell) → in_bay (reshape h a b) ≡ in_bay b
reshaped h a b =
    each-get_d {P = λ (d : List Cell). in_bay d ≡ in_bay b} (grown h a b)
    (ap page_cards (packed-is (map (alter (is h) (on_data (sized a))) (items b)) (bay_size b - total (map (alter (is h) (on_data (sized a))) (items b)))) ∙ cards-altered h (sized a) (items b))

-- ---- the bays

abbrev in_bays : Bays (List Cell) Fixed → List PageCard
in_bays s = page_cards (concat_s items s)

same-append : (a b c d : List Item) → page_cards a ≡ page_cards b → page_cards c ≡ page_cards d → page_cards (a ++ c) ≡ page_cards (b ++ d)
same-append a b c d p q = cards-append a c ∙ ap₂ ◌++◌ p q ∙ sym (cards-append b d)

-- a change of bays that leaves the cards of each
module _ (f : List Cell → List Cell) (q : (b : List Cell) → in_bay (f b) ≡ in_bay b) where
  on-lowest : (t : List Cell → Bool) (s : Bays (List Cell) Fixed) → in_bays (on_lowest t f s) ≡ in_bays s
  on-lowest t (last b) = q b
  on-lowest t (more b x s) = cond-one in_bays (t b) (same-append (items (f b)) (items b) (concat_s items s) (concat_s items s) (q b) refl) (same-append (items b) (items b) (concat_s items (on_lowest t f s)) (concat_s items s) refl (on-lowest t s))

  on-all : (s : Bays (List Cell) Fixed) → in_bays (map_s f s) ≡ in_bays s
  on-all (last b) = q b
  on-all (more b x s) = same-append (items (f b)) (items b) (concat_s items (map_s f s)) (concat_s items s) (q b) (on-all s)

  on-last : (s : Bays (List Cell) Fixed) → in_bays (on_last f s) ≡ in_bays s
  on-last (last b) = q b
  on-last (more b x s) = same-append (items b) (items b) (concat_s items (on_last f s)) (concat_s items s) refl (on-last s)

  on-first : (s : Bays (List Cell) Fixed) → in_bays (on_first f s) ≡ in_bays s
  on-first (last b) = q b
  on-first (more b x s) = same-append (items (f b)) (items b) (concat_s items s) (concat_s items s) (q b) refl

placed : (h : ℕ) (d : List ℕ) (s : Bays (List Cell) Fixed) → in_bays (place_low (item h d) s) ≡ in_bays s
placed h d s =
    let k = low-inserted (item h d) s in
    ap page_cards k.new ∙ cards-append k.pre (item h d ∷ k.post) ∙ sym (ap page_cards k.old ∙ cards-append k.pre k.post)

cut_high_lem : (n end : ℕ) (s : Bays (List Cell) Fixed) → in_bays (cut_high bay_sum (take_high n) [] n end s).1 ≡ in_bays s
cut_high_lem n end (last b) = cards-append (items (take_high n b)) [] ∙ append-nil _ ∙ ap page_cards (taken n b)
cut_high_lem n end (more b x s) =
    cond-one (λ (r : Fixed × Bays (List Cell) Fixed). in_bays r.1) (leb n (max_s bay_sum s)) (same-append (items b) (items b) (concat_s items (cut_high bay_sum (take_high n) [] n end s).1) (concat_s items s) refl (cut_high_lem n end s))
    (same-append (items (take_high n b)) (items b) (concat_s items s) (concat_s items s) (ap page_cards (taken n b)) refl)

joined : (p : ℕ) (s : Bays (List Cell) Fixed) → in_bays (join_at (λ b n c. join_bays b (gap n c)) p s) ≡ in_bays s
joined p (last b) = refl
joined p (more b x s) = cond-one in_bays (eqb p (pointer x)) (over-one s) (same-append (items b) (items b) (concat_s items (join_at (λ b n c. join_bays b (gap n c)) p s)) (concat_s items s) refl (joined p s))
  where
    one : (c : List Cell) → items (join_bays b (gap (fsize x) c)) ≡ items b ++ items c
    one c = items-weld b (gap (fsize x) c) ∙ ap (items b ++◌) (items-gap (fsize x) c)

    over-one : (s : Bays (List Cell) Fixed) → in_bays (join_over (λ b n c. join_bays b (gap n c)) b x s) ≡ in_bays (more b x s)
    over-one (last c) = ap page_cards (one c)
    over-one (more c y s) = ap page_cards (ap (◌++ concat_s items s) (one c) ∙ append_assoc (items b) (items c) (concat_s items s))

on-fixed : (f : Fixed → Fixed) (s : Bays (List Cell) Fixed) → in_bays (on_fixed f s) ≡ in_bays s
on-fixed f (last b) = refl
on-fixed f (more b x s) = same-append (items b) (items b) (concat_s items (on_fixed f s)) (concat_s items s) refl (on-fixed f s)

freed : (h : ℕ) (s : Bays (List Cell) Fixed) → in_bays (map_s (release (is h)) s) ≡ in_bays s
freed h s = on-all (release (is h)) (λ b. ap page_cards (release-items (is h) b) ∙ cards-removed h (items b)) s

with-master : (z : Zone) → in_bays (with_master z).bays ≡ in_bays z.bays
with-master z = cond-one (λ (v : Zone). in_bays v.bays) (is_empty z.chain) (on-first (packed_less added_bytes) (λ b. ap page_cards (less-items added_bytes b)) z.bays) refl

-- ---- the calls

work-pages : (c : Call) (z : Zone) → ((n : ℕ) (p : PageCall) → c ≡ on_page n p → ⊥) → ((n i k : ℕ) (second : List ℕ) → c ≡ write (by_name n) i k second → ⊥) → in_bays (work c z).next.bays ≡ in_bays z.bays
work-pages (allocate_relocatable c) z f g = placed (top (with_master z).chain) (replicate (up4 c) 0) (with_master z).bays ∙ with-master z
work-pages (allocate_fixed c) z f g = cut_high_lem (fixed_need c) z.len z.bays
work-pages (free_handle h) z f g = freed h z.bays
work-pages (free_pointer p) z f g = joined p z.bays
work-pages (resize h c) z f g =
    cond-one in_bays (leb (up4 c - length (data_of items (by_handle h) z)) (own_sum items bay_sum h z.bays))
    (on-lowest (reshape h (up4 c)) (reshaped h (up4 c)) (has h) z.bays)
    (placed h (sized (up4 c) (data_of items (by_handle h) z)) (map_s (release (is h)) z.bays) ∙ freed h z.bays)
work-pages (size t) z f g = refl
work-pages (read t i n second) z f g = refl
work-pages (write (by_handle h) i n second) z f g = on-all (edit (is h) (on_data _)) (λ b. ap page_cards (edit-items (is h) (on_data _) b) ∙ cards-altered h _ (items b)) z.bays
work-pages (write (by_pointer p) i n second) z f g = on-fixed _ z.bays
work-pages (write (by_name k) i n second) z f g = absurd (g k i n second refl)
work-pages (view t i n) z f g = refl
work-pages compact z f g = on-all compact_bay (λ b. ap page_cards (tidy-items b)) z.bays
work-pages sums z f g = refl
work-pages check z f g = refl
work-pages length_of z f g = refl
work-pages (enlarge k) z f g = on-last (λ b. join_bays b (gap k [])) (λ b. ap page_cards (items-weld b (gap k []) ∙ ap (items b ++◌) (items-gap k []) ∙ append-nil (items b))) z.bays
work-pages (shrink k) z f g =
    cond-one (λ (o : Out (List Cell)). in_bays o.next.bays) (eqb (min (k / 4 * 4) (bay_sum (last_s z.bays))) 0) refl
    (on-last (take_high (min (k / 4 * 4) (bay_sum (last_s z.bays)))) (λ b. ap page_cards (taken _ b)) z.bays)
work-pages (roster second) z f g = refl
work-pages (on_page n p) z f g = absurd (f n p refl)

work-clock : (c : Call) (z : Zone) → ((n : ℕ) (p : PageCall) → c ≡ on_page n p → ⊥) → (work c z).next.clock ≡ z.clock
work-clock (allocate_relocatable c) z f = cond-one (λ (v : Zone). v.clock) (is_empty z.chain) refl refl
work-clock (allocate_fixed c) z f = refl
work-clock (free_handle h) z f = refl
work-clock (free_pointer p) z f = refl
work-clock (resize h c) z f = refl
work-clock (size g) z f = refl
work-clock (read g i n second) z f = refl
work-clock (write g i n second) z f = refl
work-clock (view g i n) z f = refl
work-clock compact z f = refl
work-clock sums z f = refl
work-clock check z f = refl
work-clock length_of z f = refl
work-clock (enlarge k) z f = refl
work-clock (shrink k) z f = cond-one (λ (o : Out (List Cell)). o.next.clock) (eqb (min (k / 4 * 4) (bay_sum (last_s z.bays))) 0) refl refl
work-clock (roster second) z f = refl
work-clock (on_page n p) z f = absurd (f n p refl)

pub idle : (c : Call) (bs after : List ℕ) (a : Answer) (z : Zone) → Whole z → Stored bs z → Given (beside c) → Promise c bs a after
    → ((n : ℕ) (p : PageCall) → c ≡ on_page n p → ⊥) → ((n i k : ℕ) (second : List ℕ) → c ≡ write (by_name n) i k second → ⊥) → Idle bs after
idle c bs after a z w s y p f g = go (refusal_of c (facts true z)) refl
  where
    go : (n : ℕ) → refusal_of c (facts true z) ≡ n → Idle bs after
    go zero e =
        let u : Zone = (work c z).next in
        let w' : Whole u = work-whole c z y w e in
        let s' : Stored after u = subst (λ (l : List ℕ). Stored l u) (sym (ap (λ (r : Result). r.bytes) (p ∙ call-worked bs z w s c e))) (stored-after bs z u w w' (work-buffer c z y w e) s) in
        record {
          ticks = clock-read after u w' s' ∙ work-clock c z f ∙ sym (clock-read bs z w s);
          pages = pages-walk after u w' s' ∙ work-pages c z f g ∙ sym (pages-walk bs z w s);
        }
    go (suc n) e =
        let q : after ≡ bs = ap (λ (r : Result). r.bytes) (p ∙ call-refused bs z w s c n e) in
        record { ticks = ap clock_field q; pages = ap pages_in q }
