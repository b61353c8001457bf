-- A change of pages alone: the zone stays whole, blocks with a handle and fixed blocks stay as they are, and the cards that a walk meets change alike.
use mathlib.Core.Path.{◌≡◌, refl, ap, ap₂, sym, ◌∙◌}
use mathlib.Core.Bool.{Bool, true, false, cond, true≢false}
use mathlib.Core.Option.{some}
use mathlib.Core.List.{List, [], ◌∷◌, ◌++◌, map, map-append}
use Prim.Native.Nat.{ℕ}
use lib.Dec.{eqb}
use Rattle.block_type.specs.Limits.{first_block}
use Rattle.kinds.specs.Kinds.{Status, Key, of_handle, of_name, Item, is, key_named, has_name, key_on_status, on_status}
use Rattle.kinds.proofs.KindLaws.{status-is, is-no-page}
use Rattle.calls.specs.Calls.{Target, by_handle, by_pointer}
use Rattle.calls.specs.Bays.{Bays, last, more, over, or_else, map_s, find_s, find_f, concat_s}
use Rattle.calls.specs.State.{get, alter, Fixed, fsize, pointer, content, master_count}
use Rattle.ledger.specs.Space.{spot}
use Rattle.structure.specs.Structure.{head_of}
use Rattle.bay.specs.Bay.{Cell, items, release, edit}
use Rattle.bay.specs.Counted.{remove}
use Rattle.bay.proofs.Laws.{release-items, edit-items}
use Rattle.zone.specs.Work.{Zone}
use Rattle.zone.specs.Claim.{PageCard, key_card, page_cards}
use Rattle.zone.specs.PageSays.{NoPage, Stay, on_name, leaving}
use Rattle.zone.proofs.Once.{block_of}
use Rattle.zone.proofs.Walk.{Closed}
use Rattle.zone.proofs.Handles.{Owns, owns-closed}
use Rattle.zone.proofs.Places.{Placed, placed-closed}
use Rattle.zone.proofs.Clean.{Clean, clean-closed}
use Rattle.zone.proofs.Bounds.{Bounded, bounded_closed}
use Rattle.zone.proofs.Solid.{Solid, solid-closed}
use Rattle.zone.proofs.Names.{Apart, apart-closed, Ticks, ticks-closed}
use Rattle.zone.proofs.Keep.{Whole, masters-are}
use Rattle.zone.proofs.Grouped.{solid-of, sound-of}
use Rattle.zone.proofs.Run.{Stored}
use Rattle.zone.proofs.Fields.{length-read, masters-read, first_read, chain-read}
use Rattle.zone.proofs.MetBlocks.{spots_s, fixed-walk}
use Rattle.zone.proofs.ReadSame.{read_same}

-- ---- whole, by any change that every such property survives

pub whole_by : (z u : Zone) → Whole z → ((P : Zone → Type 0) → Closed P → P z → P u) → Whole u
whole_by z u w f = record {
  m = w.m;
  few = w.few;
  owned = f (Owns w.m) (owns-closed w.m) w.owned;
  placed = f (Placed w.m) (placed-closed w.m) w.placed;
  bounded = f Bounded bounded_closed w.bounded;
  sound = sound-of (f Solid solid-closed (record { solid = solid-of w.sound w.clean.clean })).solid;
  clean = f Clean clean-closed w.clean;
  apart = f Apart apart-closed w.apart;
  ticks = f Ticks ticks-closed w.ticks;
}

-- with as many masters
pub masters-by : (z u : Zone) → Whole z → ((P : Zone → Type 0) → Closed P → P z → P u) → master_count items u ≡ master_count items z
unfolding whole_by
masters-by z u w f = masters-are u (whole_by z u w f) ∙ sym (masters-are z w)

-- ---- what is left as it was

pub stay-by : (bs after : List ℕ) (z u : Zone) → Whole z → Stored bs z → Whole u → Stored after u → u.len ≡ z.len → u.chain ≡ z.chain → master_count items u ≡ master_count items z → spots_s u.bays ≡ spots_s z.bays
    → ((h : ℕ) → block_of h u.bays ≡ block_of h z.bays) → ((p : ℕ) → find_f (λ (x : Fixed). eqb p (pointer x)) u.bays ≡ find_f (λ (x : Fixed). eqb p (pointer x)) z.bays) → Stay bs after
stay-by bs after z u w s w' s' l c m f g k = record {
  long = length-read after u w' s' ∙ l ∙ sym (length-read bs z w s);
  first = first_read after u w' s' ∙ ap first_block m ∙ sym (first_read bs z w s);
  masters = masters-read after u w' s' ∙ m ∙ sym (masters-read bs z w s);
  chain = chain-read after u w' s' ∙ ap head_of c ∙ sym (chain-read bs z w s);
  kept = λ t i n second o. read_same w' s' w s t i n second (same t o);
  still = fixed-walk after u w' s' ∙ f ∙ sym (fixed-walk bs z w s);
}
  where
    same : (t : Target) → NoPage t → content items t u.bays ≡ content items t z.bays
    same (by_handle h) o = ap (over (λ (i : Item). i.bytes)) (g h)
    same (by_pointer p) o = ap (over (λ (x : Fixed). x.bytes)) (k p)
    same (Rattle.calls.specs.Calls.by_name _) o = elim o [ ]

-- every bay changed
pub spots-map : (f : List Cell → List Cell) (s : Bays (List Cell) Fixed) → spots_s (map_s f s) ≡ spots_s s
spots-map f (last b) = refl
spots-map f (more b x s) = ap (spot x.place (fsize x) ∷◌) (spots-map f s)

pub fixed-map : (f : List Cell → List Cell) (p : Fixed → Bool) (s : Bays (List Cell) Fixed) → find_f p (map_s f s) ≡ find_f p s
fixed-map f p (last b) = refl
fixed-map f p (more b x s) = ap (cond (p x) (some x)) (fixed-map f p s)

pub find-map : (ok : Item → Bool) (f : List Cell → List Cell) → ((b : List Cell) → get ok (items (f b)) ≡ get ok (items b)) → (s : Bays (List Cell) Fixed)
    → find_s (λ (b : List Cell). get ok (items b)) (map_s f s) ≡ find_s (λ (b : List Cell). get ok (items b)) s
find-map ok f q (last b) = q b
find-map ok f q (more b x s) = ap₂ or_else (q b) (find-map ok f q s)

-- blocks that do not pass the test of those that go
get-remove : (p ok : Item → Bool) → ((e : Item) → p e ≡ true → ok e ≡ false) → (es : List Item) → get p (remove ok es) ≡ get p es
get-remove p ok f [] = refl
get-remove p ok f (e ∷ es) = go (ok e) refl (p e) refl (get-remove p ok f es)
  where
    go : (t : Bool) → ok e ≡ t → (u : Bool) → p e ≡ u → get p (remove ok es) ≡ get p es → get p (cond t (remove ok es) (e ∷ remove ok es)) ≡ cond u (some e) (get p es)
    go true a true b q = absurd (true≢false (sym a ∙ f e b))
    go true a false b q = q
    go false a u b q = rw b (ap (cond u (some e)) q)

pub released-find : (p ok : Item → Bool) → ((e : Item) → p e ≡ true → ok e ≡ false) → (s : Bays (List Cell) Fixed)
    → find_s (λ (b : List Cell). get p (items b)) (map_s (release ok) s) ≡ find_s (λ (b : List Cell). get p (items b)) s
released-find p ok f s = find-map p (release ok) (λ b. ap (get p) (release-items ok b) ∙ get-remove p ok f (items b)) s

get-alter : (n h : ℕ) (g : Status → Status) (es : List Item) → get (is h) (map (alter (has_name n) (on_status g)) es) ≡ get (is h) es
get-alter n h g [] = refl
get-alter n h g (e ∷ es) = go (is h e) refl (has_name n e) refl (get-alter n h g es)
  where
    go : (u : Bool) → is h e ≡ u → (t : Bool) → has_name n e ≡ t → get (is h) (map (alter (has_name n) (on_status g)) es) ≡ get (is h) es
        → get (is h) (cond t (on_status g e) e ∷ map (alter (has_name n) (on_status g)) es) ≡ cond u (some e) (get (is h) es)
    go true a true b q = absurd (true≢false (sym b ∙ is-no-page h n e a))
    go true a false b q = rw a
    go false a true b q = rw (status-is g h e, a) q
    go false a false b q = rw a q

pub edited-find : (n h : ℕ) (g : Status → Status) (s : Bays (List Cell) Fixed) → block_of h (map_s (edit (has_name n) (on_status g)) s) ≡ block_of h s
edited-find n h g s = find-map (is h) (edit (has_name n) (on_status g)) (λ b. ap (get (is h)) (edit-items (has_name n) (on_status g) b) ∙ get-alter n h g (items b)) s

-- ---- cards

pub cards-removed : (k : ℕ) (es : List Item) → page_cards (remove (has_name k) es) ≡ leaving k (page_cards es)
cards-removed k [] = refl
cards-removed k (e ∷ es) = go e.key (cards-removed k es)
  where
    go : (i : Key) → page_cards (remove (has_name k) es) ≡ leaving k (page_cards es)
        → page_cards (cond (key_named k i) (remove (has_name k) es) (record { key = i; bytes = e.bytes } ∷ remove (has_name k) es)) ≡ leaving k (key_card i e.bytes ++ page_cards es)
    go (of_handle h) q = q
    go (of_name n s) q = by (eqb k n)
      where
        by : (t : Bool) → page_cards (cond t (remove (has_name k) es) (record { key = of_name n s; bytes = e.bytes } ∷ remove (has_name k) es))
            ≡ cond t (leaving k (page_cards es)) (record { name = n; dirty = s.dirty; lock = s.lock; stamp = s.stamp; bytes = e.bytes } ∷ leaving k (page_cards es))
        by true = q
        by false = ap (record { name = n; dirty = s.dirty; lock = s.lock; stamp = s.stamp; bytes = e.bytes } ∷◌) q

abbrev pub card_of : ℕ → Status → List ℕ → PageCard
card_of n s d = record { name = n; dirty = s.dirty; lock = s.lock; stamp = s.stamp; bytes = d }

pub cards-altered : (k : ℕ) (g : Status → Status) (f : PageCard → PageCard) → ((n : ℕ) (s : Status) (d : List ℕ) → card_of n (g s) d ≡ f (card_of n s d)) → (es : List Item)
    → page_cards (map (alter (has_name k) (on_status g)) es) ≡ on_name k f (page_cards es)
cards-altered k g f o [] = refl
cards-altered k g f o (e ∷ es) = go e.key (cards-altered k g f o es)
  where
    go : (i : Key) → page_cards (map (alter (has_name k) (on_status g)) es) ≡ on_name k f (page_cards es)
        → page_cards (cond (key_named k i) (record { key = key_on_status g i; bytes = e.bytes }) (record { key = i; bytes = e.bytes }) ∷ map (alter (has_name k) (on_status g)) es) ≡ on_name k f (key_card i e.bytes ++ page_cards es)
    go (of_handle h) q = q
    go (of_name n s) q = by (eqb k n)
      where
        by : (t : Bool) → page_cards (cond t (record { key = of_name n (g s); bytes = e.bytes }) (record { key = of_name n s; bytes = e.bytes }) ∷ map (alter (has_name k) (on_status g)) es)
            ≡ cond t (f (card_of n s e.bytes)) (card_of n s e.bytes) ∷ on_name k f (page_cards es)
        by true = ap₂ ◌∷◌ (o n s e.bytes) q
        by false = ap (card_of n s e.bytes ∷◌) q

pub items-edited : (ok : Item → Bool) (g : Item → Item) (s : Bays (List Cell) Fixed) → concat_s items (map_s (edit ok g) s) ≡ map (alter ok g) (concat_s items s)
items-edited ok g (last b) = edit-items ok g b
items-edited ok g (more b x s) = ap₂ ◌++◌ (edit-items ok g b) (items-edited ok g s) ∙ sym (map-append (alter ok g) (items b) (concat_s items s))
