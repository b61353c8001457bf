-- The pages that a walk through a buffer meets are those of the zone in it: names, flags, stamps and data; and where a page's data lie.
use mathlib.Core.Path.{◌≡◌, refl, sym, ap, ap₂, ◌∙◌}
use mathlib.Core.Bool.{Bool, true, false, cond, ◌&&◌}
use mathlib.Core.Option.{Option, none, some}
use mathlib.Core.List.{List, [], ◌∷◌, ◌++◌, map, append_assoc, append-nil, Permᴰ}
use Prim.Native.Nat.{ℕ, suc, ◌+◌, ◌*◌, ◌/◌, ◌%◌, ◌<◌, ◌≤◌}
use native.Mathlib.Omega.{arith}
use lib.Dec.{eqb, leb}
use lib.ListN.{length, drop}
use lib.Seq.{drop_at}
use borrow.Author.Tests.{leb-true, leb-false, le-leb}
use Rattle.bigendian.specs.BigEndian.{to_be}
use Rattle.bigendian.proofs.Laws.{length-to_be}
use Rattle.block_type.specs.Limits.{free_code, fixed_code, fixed_header, page_code, page_header, tag_at, type_unit, first_block, dirty_bit, lock_bit, stamp_range}
use Rattle.format.specs.Occurs.{occurs}
use Rattle.format.specs.WellFormed.{zone_of, type_of, size_of, name_of, split_blocks}
use Rattle.kinds.specs.Kinds.{Status, status_word, status_in, Key, of_handle, of_name, Item, key_code, key_tag, key_header, KeyFits, key_named, code_of, tag_of, header_of, names_of, has_name, item_size}
use Rattle.kinds.proofs.KindLaws.{facts, status-back, page-of, tag-long, name-owner}
use Rattle.format.proofs.Count.{occurs-append}
use Rattle.calls.proofs.Sort.{Order, flat_append, flat-perm, sort-perm}
use Rattle.calls.specs.Bays.{Bays, last, more, concat_s}
use Rattle.calls.specs.State.{Fixed, master_count}
use Rattle.calls.specs.Counted.{count}
use Rattle.bay.specs.Bay.{Cell, free, held, items}
use Rattle.bay.proofs.CellBytes.{used}
use Rattle.structure.specs.Structure.{Block, cell, fixed, code, encode_block, place_of, names_in}
use Rattle.structure.specs.Valid.{Tiled}
use Rattle.structure.proofs.Round.{blocks_is, zone-is}
use Rattle.structure.proofs.Back.{Enc, enc-cell, enc-fixed}
use Rattle.zone.specs.Group.{flat_bay, flatten}
use Rattle.zone.specs.Work.{Zone, data_offset}
use Rattle.zone.specs.Call.{in_line}
use Rattle.zone.specs.Claim.{PageCard, card_in, key_card, page_cards, sorted_by_name, pages_met, page_met_at, blocks_in, pages_in, page_at}
use Rattle.zone.proofs.HowMany.{many}
use Rattle.zone.proofs.Keep.{Whole, valid-line, names-strip, count-line, masters-are}
use Rattle.zone.proofs.Run.{Stored}
use Rattle.zone.proofs.Fields.{first_read}

-- ---- one block

-- what the header of a movable block says
pub record Says (e : Item) : Type 0 where
  pub kind : type_of (encode_block (cell (held e))) ≡ code_of e
  pub same : size_of (encode_block (cell (held e))) ≡ item_size e
  pub tag : drop tag_at (encode_block (cell (held e))) ≡ tag_of e ++ e.bytes

pub says : (e : Item) → item_size e % 4 ≡ 0 → item_size e / 2 < type_unit → Says e
unfolding encode_block
says e q l =
    let f = facts e in
    let u = used (code_of e) (item_size e) (tag_of e) e.bytes f.used f.small (omega (arith, tag-long e)) q l in
    let v = code_of e * type_unit + item_size e / 2 in
    record { kind = u.code; same = u.same; tag = drop_at (to_be 2 v) (tag_of e ++ e.bytes) tag_at (length-to_be 2 v) }

-- as a card
pub card-is : (n : ℕ) (s : Status) (d b : List ℕ) → drop tag_at b ≡ (to_be 4 n ++ to_be 2 (status_word s)) ++ d → KeyFits (of_name n s) → card_in b ≡ record { name = n; dirty = s.dirty; lock = s.lock; stamp = s.stamp; bytes = d }
card-is n s d b e ok =
    let p = page-of n s d b e ok in
    let w : status_in (status_word s) ≡ s = status-back s ok.1 in
    (λ i. record { name = p.0 i; dirty = leb dirty_bit (p.1 i); lock = leb lock_bit (p.1 i % dirty_bit); stamp = p.1 i % stamp_range; bytes = p.2 i })
    ∙ ap (λ (u : Status). record { name = n; dirty = u.dirty; lock = u.lock; stamp = u.stamp; bytes = d }) w

met-card : (e : Item) (rest : List PageCard) → Says e → KeyFits e.key → cond (eqb (type_of (encode_block (cell (held e)))) page_code) (card_in (encode_block (cell (held e))) ∷ rest) rest ≡ key_card e.key e.bytes ++ rest
met-card e rest x ok = rw x.kind (go e.key x.tag ok)
  where
    go : (k : Key) → drop tag_at (encode_block (cell (held e))) ≡ key_tag k ++ e.bytes → KeyFits k → cond (eqb (key_code k) page_code) (card_in (encode_block (cell (held e))) ∷ rest) rest ≡ key_card k e.bytes ++ rest
    go (of_handle h) t ok = refl
    go (of_name n s) t ok = ap (◌∷ rest) (card-is n s e.bytes (encode_block (cell (held e))) t ok)

-- its place
met-place : (n at : ℕ) (e : Item) (rest : Option ℕ) → Says e → KeyFits e.key
    → cond (eqb (type_of (encode_block (cell (held e)))) page_code && eqb n (name_of (encode_block (cell (held e))))) (some (at + page_header)) rest ≡ cond (has_name n e) (some (at + header_of e)) rest
met-place n at e rest x ok = rw x.kind (go e.key x.tag ok)
  where
    go : (k : Key) → drop tag_at (encode_block (cell (held e))) ≡ key_tag k ++ e.bytes → KeyFits k
        → cond (eqb (key_code k) page_code && eqb n (name_of (encode_block (cell (held e))))) (some (at + page_header)) rest ≡ cond (key_named n k) (some (at + key_header k)) rest
    go (of_handle h) t ok = refl
    go (of_name i s) t ok = rw (page-of i s e.bytes (encode_block (cell (held e))) t ok).0

-- ---- all blocks

-- the cards of a zone's blocks
abbrev block_cards : List Block → List PageCard
block_cards [] = []
block_cards (cell (free n) ∷ bs) = block_cards bs
block_cards (cell (held e) ∷ bs) = key_card e.key e.bytes ++ block_cards bs
block_cards (fixed d ∷ bs) = block_cards bs

abbrev found : ℕ → ℕ → List Block → Option ℕ
found n at [] = none
found n at (cell (free k) ∷ bs) = found n (at + k) bs
found n at (cell (held e) ∷ bs) = cond (has_name n e) (some (at + header_of e)) (found n (at + item_size e) bs)
found n at (fixed d ∷ bs) = found n (at + (fixed_header + length d)) bs

other-kind : {b : Block} → Enc b → code b ≡ free_code → eqb (type_of (encode_block b)) page_code ≡ false
other-kind {b} x q = rw (x.kind, q)

fixed-kind : {b : Block} → Enc b → code b ≡ fixed_code → eqb (type_of (encode_block b)) page_code ≡ false
fixed-kind {b} x q = rw (x.kind, q)

pages-enc : (prev : Bool) (bs : List Block) → Tiled prev bs → pages_met (map encode_block bs) ≡ block_cards bs
unfolding pages_met
pages-enc prev [] t = refl
pages-enc prev (cell (free n) ∷ bs) t = rw (other-kind (enc-cell (free n) (t.1, t.2, t.3)) refl) (pages-enc true bs t.4)
pages-enc prev (fixed d ∷ bs) t = rw (fixed-kind (enc-fixed d t.0 t.1) refl) (pages-enc false bs t.3)
pages-enc prev (cell (held e) ∷ bs) t = rw (pages-enc false bs t.3) (met-card e (block_cards bs) (says e t.0 (omega (arith, t.1))) t.2.1)

place-enc : (n at : ℕ) (prev : Bool) (bs : List Block) → Tiled prev bs → page_met_at n at (map encode_block bs) ≡ found n at bs
unfolding page_met_at
place-enc n at prev [] t = refl
place-enc n at prev (cell (free k) ∷ bs) t =
    let x = enc-cell (free k) (t.1, t.2, t.3) in
    rw (other-kind x refl, x.same) (place-enc n (at + k) true bs t.4)
place-enc n at prev (fixed d ∷ bs) t =
    let x = enc-fixed d t.0 t.1 in
    rw (fixed-kind x refl, x.same) (place-enc n (at + (fixed_header + length d)) false bs t.3)
place-enc n at prev (cell (held e) ∷ bs) t =
    let x = says e t.0 (omega (arith, t.1)) in
    rw (x.same, place-enc n (at + item_size e) false bs t.3) (met-place n at e (found n (at + item_size e) bs) x t.2.1)

-- where the name is there
found-place : (n at : ℕ) (bs : List Block) → 0 < occurs n (names_in bs) → found n at bs ≡ some (place_of (has_name n) at bs)
unfolding names_in occurs place_of
found-place n at [] l = absurd (omega arith)
found-place n at (cell (free k) ∷ bs) l = found-place n (at + k) bs l
found-place n at (fixed d ∷ bs) l = found-place n (at + (fixed_header + length d)) bs l
found-place n at (cell (held e) ∷ bs) l = go (has_name n e) refl (λ k. found-place n (at + item_size e) bs k)
  where
    rest : has_name n e ≡ false → 0 < occurs n (names_in bs)
    rest q = let o : occurs n (names_of e) ≡ 0 = name-owner n e ∙ (rw q) in omega (arith, l, occurs-append n (names_of e) (names_in bs))

    go : (t : Bool) → has_name n e ≡ t → (0 < occurs n (names_in bs) → found n (at + item_size e) bs ≡ some (place_of (has_name n) (at + item_size e) bs))
        → cond t (some (at + header_of e)) (found n (at + item_size e) bs) ≡ some (cond t (at + header_of e) (place_of (has_name n) (at + item_size e) bs))
    go true q f = refl
    go false q f = f (rest q)

-- and where it is not
found_none : (n at : ℕ) (bs : List Block) → occurs n (names_in bs) ≡ 0 → found n at bs ≡ none
unfolding names_in occurs
found_none n at [] q = refl
found_none n at (cell (free k) ∷ bs) q = found_none n (at + k) bs q
found_none n at (fixed d ∷ bs) q = found_none n (at + (fixed_header + length d)) bs q
found_none n at (cell (held e) ∷ bs) q = go (has_name n e) (name-owner n e) (found_none n (at + item_size e) bs (omega (arith, q, occurs-append n (names_of e) (names_in bs))))
  where
    go : (t : Bool) → occurs n (names_of e) ≡ cond t 1 0 → found n (at + item_size e) bs ≡ none → cond t (some (at + header_of e)) (found n (at + item_size e) bs) ≡ none
    go true o f = absurd (omega (arith, o, q, occurs-append n (names_of e) (names_in bs)))
    go false o f = f

-- ---- in bays

cards-bay : (cs : List Cell) (r : List Block) → block_cards (flat_bay cs r) ≡ page_cards (items cs) ++ block_cards r
cards-bay [] r = refl
cards-bay (free n ∷ cs) r = cards-bay cs r
cards-bay (held e ∷ cs) r = ap (key_card e.key e.bytes ++◌) (cards-bay cs r) ∙ sym (append_assoc (key_card e.key e.bytes) (page_cards (items cs)) (block_cards r))

cards-strip : (s : Bays (List Cell) Fixed) → block_cards (flatten s) ≡ page_cards (concat_s items s)
cards-strip (last b) = cards-bay b [] ∙ append-nil (page_cards (items b))
cards-strip (more b x s) =
    cards-bay b (fixed x.bytes ∷ flatten s)
    ∙ ap (page_cards (items b) ++◌) (cards-strip s)
    ∙ sym (flat_append (λ (e : Item). key_card e.key e.bytes) (items b) (concat_s items s))

-- ---- the buffer

module _ (bs : List ℕ) (z : Zone) (w : Whole z) (s : Stored bs z) where
  pub blocks-enc : blocks_in bs ≡ map encode_block (flatten z.bays)
  blocks-enc =
      ap₂ (λ (k : ℕ) (y : List ℕ). split_blocks (drop k y)) (first_read bs z w s ∙ ap first_block (masters-are z w ∙ sym (count-line z w))) (ap zone_of s.split ∙ zone-is (in_line z) (valid-line z w) (drop z.len bs))
      ∙ blocks_is (in_line z) (valid-line z w)

  pub pages-walk : pages_in bs ≡ page_cards (concat_s items z.bays)
  pages-walk = ap pages_met blocks-enc ∙ pages-enc false (flatten z.bays) (valid-line z w).tiled ∙ cards-strip z.bays

  -- the data of a page that is there
  pub page-found : (n : ℕ) → 1 ≤ many (has_name n) z.bays → page_at n bs ≡ some (data_offset n z)
  page-found n l =
      ap₂ (page_met_at n) (first_read bs z w s) blocks-enc
      ∙ place-enc n (first_block (master_count items z)) false (flatten z.bays) (valid-line z w).tiled
      ∙ found-place n (first_block (master_count items z)) (flatten z.bays) (omega (arith, names-strip n z.bays))

  pub page-missing : (n : ℕ) → many (has_name n) z.bays ≡ 0 → page_at n bs ≡ none
  page-missing n e =
      ap₂ (page_met_at n) (first_read bs z w s) blocks-enc
      ∙ place-enc n (first_block (master_count items z)) false (flatten z.bays) (valid-line z w).tiled
      ∙ found_none n (first_block (master_count items z)) (flatten z.bays) (names-strip n z.bays ∙ e)

-- ---- by rising name: lists that are one up to order

rising : Order (λ (x y : PageCard). leb x.name y.name) (λ (x : PageCard). x.name)
rising = record {
  total = λ x y q. le-leb y.name x.name (let l = leb-false x.name y.name q in omega arith);
  goes_further = λ x y z p q. le-leb x.name z.name (omega (arith, leb-true x.name y.name p, leb-true y.name z.name q));
  ties = λ x y p q. omega (arith, leb-true x.name y.name p, leb-true y.name x.name q);
}

pub cards-few : (n : ℕ) (es : List Item) → occurs n (map (λ (x : PageCard). x.name) (page_cards es)) ≡ count (has_name n) es
unfolding occurs
cards-few n [] = refl
cards-few n (e ∷ es) = go e.key (cards-few n es)
  where
    one : (t : Bool) (k : ℕ) → cond t 1 0 + k ≡ cond t (suc k) k
    one true k = omega arith
    one false k = omega arith

    go : (k : Key) → occurs n (map (λ (x : PageCard). x.name) (page_cards es)) ≡ count (has_name n) es
        → occurs n (map (λ (x : PageCard). x.name) (key_card k e.bytes ++ page_cards es)) ≡ cond (key_named n k) (suc (count (has_name n) es)) (count (has_name n) es)
    go (of_handle h) q = q
    go (of_name i s) q = ap (λ (j : ℕ). cond (eqb n i) 1 0 + j) q ∙ one (eqb n i) (count (has_name n) es)

pub cards-perm : {a b : List Item} → Permᴰ a b → ((n : ℕ) → count (has_name n) a ≤ 1) → sorted_by_name (page_cards a) ≡ sorted_by_name (page_cards b)
cards-perm {a} p f = sort-perm rising (flat-perm (λ (e : Item). key_card e.key e.bytes) p) (λ n. omega (arith, cards-few n a, f n))
