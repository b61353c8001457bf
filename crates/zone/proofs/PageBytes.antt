-- Which bytes change where the status or the data of one page change: some of its block's, and the clock's where that changes too.
use mathlib.Core.Path.{◌≡◌, refl, ap, ap₂, sym, ◌∙◌}
use mathlib.Core.Bool.{Bool, true, false, cond}
use mathlib.Core.List.{List, [], ◌∷◌, ◌++◌, map, map-append, append_assoc}
use Prim.Native.Nat.{ℕ, suc, ◌+◌, ◌-◌, ◌*◌, ◌/◌, ◌%◌, ◌^◌, ◌≤◌, ◌<◌, max}
use native.Mathlib.Omega.{arith}
use lib.Dec.{eqb}
use lib.ListN.{length, get_or, set, take, drop, length-append, length-map, length-set}
use lib.Seq.{append_snoc, set_split, get_or-set_other}
use native.Mathlib.Numerals.{add-one}
use borrow.Author.Tests.{eqb-true, eq-eqb}
use Rattle.bigendian.specs.BigEndian.{to_be, overwrite}
use Rattle.bigendian.proofs.Laws.{length-to_be}
use Rattle.bigendian.proofs.Overwrite.{write-left, write-right, write_mid, write-length}
use Rattle.block_type.specs.Limits.{fixed_header, page_header, page_code, status_at, type_unit, master_size, zone_header, first_block, clock_at, stamp_range, dirty_bit, lock_bit}
use Rattle.format.specs.WellFormed.{offsets}
use Rattle.format.proofs.Count.{length-offsets}
use Rattle.kinds.specs.Kinds.{Status, status_word, Key, of_handle, of_name, Item, page, is, has_name, code_of, tag_of, header_of, item_size, Written}
use Rattle.kinds.proofs.KindLaws.{tag-long}
use Rattle.calls.specs.Bays.{Bays, last, more, map_s}
use Rattle.calls.specs.State.{Fixed, alter, master_count}
use Rattle.bay.specs.Bay.{Cell, free, held, items, edit}
use Rattle.structure.specs.Structure.{Block, cell, fixed, sizes, count, start, len, head_of, handles_of, place_of, next_of, value, join, encode, encode_block}
use Rattle.structure.specs.Valid.{Tiled}
use Rattle.structure.proofs.Append.{sizes-append, handles-append}
use Rattle.structure.proofs.Back.{enc-cell, enc-fixed}
use Rattle.structure.proofs.ZoneLayout.{lay, values, encode-lay, lay-clock, lay-rest, lay-same}
use Rattle.zone.specs.Group.{flat_bay, flatten}
use Rattle.zone.specs.Work.{Zone, data_offset}
use Rattle.zone.specs.Call.{in_line, replacing}
use Rattle.zone.specs.PageSays.{OnlyAt}
use Rattle.zone.proofs.HowMany.{many}
use Rattle.zone.proofs.Keep.{Whole, valid-line, len-line, count-line, masters-are}
use Rattle.zone.proofs.Run.{Stored, length-line}
use Rattle.zone.proofs.PagePlaced.{passing, passing-strip, place_inside}

-- ---- the page of a name among blocks

pub record Paged (n : ℕ) (l : List Block) : Type 0 where
  pub pre : List Block
  pub status : Status
  pub content : List ℕ
  pub post : List Block
  pub is : l ≡ pre ++ (cell (held (page n status content)) ∷ post)
  pub before : passing (has_name n) pre ≡ 0
  pub after : passing (has_name n) post ≡ 0

module _ (n : ℕ) where
  behind : (b : Block) {l : List Block} → ((r : List Block) → passing (has_name n) (b ∷ r) ≡ passing (has_name n) r) → Paged n l → Paged n (b ∷ l)
  behind b q p = record { pre = b ∷ p.pre; status = p.status; content = p.content; post = p.post; is = ap (b ∷◌) p.is; before = q p.pre ∙ p.before; after = p.after }

  paged : (l : List Block) → passing (has_name n) l ≡ 1 → Paged n l
  paged [] q = absurd (omega arith)
  paged (cell (free k) ∷ l) q = behind (cell (free k)) (λ r. refl) (paged l q)
  paged (fixed d ∷ l) q = behind (fixed d) (λ r. refl) (paged l q)
  paged (cell (held e) ∷ l) q = go e.key e.bytes q (λ k. paged l k)
    where
      by : (i : ℕ) (st : Status) (d : List ℕ) (t : Bool) → eqb n i ≡ t → cond t (suc (passing (has_name n) l)) (passing (has_name n) l) ≡ 1 → (passing (has_name n) l ≡ 1 → Paged n l) → Paged n (cell (held (page i st d)) ∷ l)
      by i st d true p q f = record { pre = []; status = st; content = d; post = l; is = ap (λ (j : ℕ). cell (held (page j st d)) ∷ l) (sym (eqb-true n i p)); before = refl; after = omega arith }
      by i st d false p q f = behind (cell (held (page i st d))) (λ r. rw p) (f q)

      go : (k : Key) (d : List ℕ) → passing (has_name n) (cell (held (record { key = k; bytes = d })) ∷ l) ≡ 1 → (passing (has_name n) l ≡ 1 → Paged n l) → Paged n (cell (held (record { key = k; bytes = d })) ∷ l)
      go (of_handle h) d q f = behind (cell (held (record { key = of_handle h; bytes = d }))) (λ r. refl) (f q)
      go (of_name i st) d q f = by i st d (eqb n i) refl q f

-- ---- the blocks that pass a test changed, in bays and in a line

module _ (ok : Item → Bool) (g : Item → Item) where
  abbrev one : Block → Block
  one (cell (free k)) = cell (free k)
  one (cell (held e)) = cell (held (alter ok g e))
  one (fixed d) = fixed d

  bay-edit : (cs : List Cell) (r : List Block) → flat_bay (edit ok g cs) (map one r) ≡ map one (flat_bay cs r)
  bay-edit [] r = refl
  bay-edit (free k ∷ cs) r = ap (cell (free k) ∷◌) (bay-edit cs r)
  bay-edit (held e ∷ cs) r = ap (cell (held (alter ok g e)) ∷◌) (bay-edit cs r)

  flat-edit : (s : Bays (List Cell) Fixed) → flatten (map_s (edit ok g) s) ≡ map one (flatten s)
  flat-edit (last b) = bay-edit b []
  flat-edit (more b x s) = ap (λ (l : List Block). flat_bay (edit ok g b) (fixed x.bytes ∷ l)) (flat-edit s) ∙ bay-edit b (fixed x.bytes ∷ flatten s)

  -- those that do not pass
  kept : (l : List Block) → passing ok l ≡ 0 → map one l ≡ l
  kept [] q = refl
  kept (cell (free k) ∷ l) q = ap (cell (free k) ∷◌) (kept l q)
  kept (fixed d ∷ l) q = ap (fixed d ∷◌) (kept l q)
  kept (cell (held e) ∷ l) q = go (ok e) q (λ k. kept l k)
    where
      go : (t : Bool) → cond t (suc (passing ok l)) (passing ok l) ≡ 0 → (passing ok l ≡ 0 → map one l ≡ l) → cell (held (cond t (g e) e)) ∷ map one l ≡ cell (held e) ∷ l
      go true q f = absurd (omega arith)
      go false q f = ap (cell (held e) ∷◌) (f q)

-- ---- bytes of blocks

join-append : (a b : List Block) → join (map encode_block (a ++ b)) ≡ join (map encode_block a) ++ join (map encode_block b)
unfolding join
join-append [] b = refl
join-append (x ∷ a) b = ap (encode_block x ++◌) (join-append a b) ∙ sym (append_assoc (encode_block x) (join (map encode_block a)) (join (map encode_block b)))

held-long : (e : Item) → length (encode_block (cell (held e))) ≡ item_size e
unfolding encode_block
held-long e = omega (arith, length-append (to_be 2 (code_of e * type_unit + item_size e / 2)) (tag_of e ++ e.bytes), length-to_be 2 (code_of e * type_unit + item_size e / 2), length-append (tag_of e) e.bytes, tag-long e)

front_long : (prev : Bool) (a b : List Block) → Tiled prev (a ++ b) → length (join (map encode_block a)) ≡ sizes a
unfolding join sizes
front_long prev [] b t = refl
front_long prev (cell (free n) ∷ a) b t = omega (arith, length-append (encode_block (cell (free n))) (join (map encode_block a)), (enc-cell (free n) (t.1, t.2, t.3)).long, front_long true a b t.4)
front_long prev (fixed d ∷ a) b t = omega (arith, length-append (encode_block (fixed d)) (join (map encode_block a)), (enc-fixed d t.0 t.1).long, front_long false a b t.3)
front_long prev (cell (held e) ∷ a) b t = omega (arith, length-append (encode_block (cell (held e))) (join (map encode_block a)), held-long e, front_long false a b t.3)

tiled-written : (prev : Bool) (a : List Block) (e : Item) (b : List Block) → Tiled prev (a ++ (cell (held e) ∷ b)) → Written e
tiled-written prev [] e b t = t.2
tiled-written prev (cell (free n) ∷ a) e b t = tiled-written true a e b t.4
tiled-written prev (fixed d ∷ a) e b t = tiled-written false a e b t.3
tiled-written prev (cell (held i) ∷ a) e b t = tiled-written false a e b t.3

-- a status word's high byte has the flags, its low byte is the stamp
abbrev pub flag_byte : Status → ℕ
flag_byte s = cond s.dirty (dirty_bit / stamp_range) 0 + cond s.lock (lock_bit / stamp_range) 0

word_bytes : (s : Status) → s.stamp < stamp_range → to_be 2 (status_word s) ≡ flag_byte s ∷ s.stamp ∷ []
unfolding to_be
word_bytes s l = ap₂ (λ (a b : ℕ). a ∷ b ∷ []) (high s.dirty s.lock) (low s.dirty s.lock)
  where
    high : (d k : Bool) → (cond d dirty_bit 0 + (cond k lock_bit 0 + s.stamp)) / 256 ^ 1 % 256 ≡ cond d (dirty_bit / stamp_range) 0 + cond k (lock_bit / stamp_range) 0
    high true true = omega arith
    high true false = omega arith
    high false true = omega arith
    high false false = omega arith

    low : (d k : Bool) → (cond d dirty_bit 0 + (cond k lock_bit 0 + s.stamp)) / 256 ^ 0 % 256 ≡ s.stamp
    low true true = omega arith
    low true false = omega arith
    low false true = omega arith
    low false false = omega arith

-- type, size and name of a page with k bytes of data
abbrev label : ℕ → ℕ → List ℕ
label n k = to_be 2 (page_code * type_unit + (page_header + k) / 2) ++ to_be 4 n

label-long : (n k : ℕ) → length (label n k) ≡ status_at
label-long n k = length-append (to_be 2 (page_code * type_unit + (page_header + k) / 2)) (to_be 4 n) ∙ simp length-to_be

page-bytes : (n : ℕ) (s : Status) (d : List ℕ) → s.stamp < stamp_range → encode_block (cell (held (page n s d))) ≡ label n (length d) ++ (flag_byte s ∷ s.stamp ∷ d)
unfolding encode_block
page-bytes n s d l =
    let v = page_code * type_unit + (page_header + length d) / 2 in
    ap (λ (t : List ℕ). to_be 2 v ++ ((to_be 4 n ++ t) ++ d)) (word_bytes s l)
    ∙ ap (to_be 2 v ++◌) (append_assoc (to_be 4 n) (flag_byte s ∷ s.stamp ∷ []) d)
    ∙ sym (append_assoc (to_be 2 v) (to_be 4 n) (flag_byte s ∷ s.stamp ∷ d))

-- with what stands around it
line-bytes : (pre post : List Block) (n : ℕ) (s : Status) (d : List ℕ) → s.stamp < stamp_range
    → join (map encode_block (pre ++ (cell (held (page n s d)) ∷ post))) ≡ (join (map encode_block pre) ++ label n (length d)) ++ (flag_byte s ∷ s.stamp ∷ (d ++ join (map encode_block post)))
unfolding join
line-bytes pre post n s d l =
    join-append pre (cell (held (page n s d)) ∷ post)
    ∙ ap (λ (t : List ℕ). join (map encode_block pre) ++ (t ++ join (map encode_block post))) (page-bytes n s d l)
    ∙ ap (join (map encode_block pre) ++◌) (append_assoc (label n (length d)) (flag_byte s ∷ s.stamp ∷ d) (join (map encode_block post)))
    ∙ sym (append_assoc (join (map encode_block pre)) (label n (length d)) (flag_byte s ∷ s.stamp ∷ (d ++ join (map encode_block post))))

-- ---- one page changed: where all blocks lie stays

place_other : (h n : ℕ) (s s' : Status) (d d' : List ℕ) (post : List Block) → length d' ≡ length d → (at : ℕ) (pre : List Block)
    → place_of (is h) at (pre ++ (cell (held (page n s' d')) ∷ post)) ≡ place_of (is h) at (pre ++ (cell (held (page n s d)) ∷ post))
unfolding place_of
place_other h n s s' d d' post l at [] = ap (λ (k : ℕ). place_of (is h) (at + (page_header + k)) post) l
place_other h n s s' d d' post l at (cell (free k) ∷ pre) = place_other h n s s' d d' post l (at + k) pre
place_other h n s s' d d' post l at (fixed x ∷ pre) = place_other h n s s' d d' post l (at + (fixed_header + length x)) pre
place_other h n s s' d d' post l at (cell (held e) ∷ pre) = ap (cond (is h e) (at + header_of e)) (place_other h n s s' d d' post l (at + item_size e) pre)

pub map_same : (f g : ℕ → ℕ) → ((h : ℕ) → f h ≡ g h) → (hs : List ℕ) → map f hs ≡ map g hs
map_same f g q [] = refl
map_same f g q (h ∷ hs) = ap₂ ◌∷◌ (q h) (map_same f g q hs)

-- one byte written
write-one : (l : List ℕ) (i a : ℕ) → i < length l → overwrite l i (a ∷ []) ≡ set l i a
write-one l i a h = append_snoc (take i l) a (drop (i + 1) l) ∙ ap (λ (k : ℕ). take i l ++ (a ∷ drop k l)) (add-one i) ∙ sym (set_split l i a h)

pub only_one : (bs after : List ℕ) (i a : ℕ) → i < length bs → after ≡ overwrite bs i (a ∷ []) → OnlyAt i i bs after
only_one bs after i a l e =
    let q = e ∙ write-one bs i a l in
    record { long = ap length q ∙ length-set bs i a; same = λ k f g. ap (λ (x : List ℕ). get_or x k 0) q ∙ get_or-set_other bs i k a 0 f }

pub only_two : (bs after : List ℕ) (i j a b : ℕ) → i < length bs → j < length bs → after ≡ overwrite (overwrite bs i (a ∷ [])) j (b ∷ []) → OnlyAt i j bs after
only_two bs after i j a b l m e =
    let q = e ∙ ap (λ (x : List ℕ). overwrite x j (b ∷ [])) (write-one bs i a l) ∙ write-one (set bs i a) j b (omega (arith, length-set bs i a)) in
    record {
      long = ap length q ∙ length-set (set bs i a) j b ∙ length-set bs i a;
      same = λ k f g. ap (λ (x : List ℕ). get_or x k 0) q ∙ get_or-set_other (set bs i a) j k b 0 g ∙ get_or-set_other bs i k a 0 f;
    }

pub page-in : (z : Zone) → Whole z → (n : ℕ) → 1 ≤ many (has_name n) z.bays → Paged n (flatten z.bays)
page-in z w n l = paged n (flatten z.bays) (omega (arith, passing-strip (has_name n) z.bays, w.apart.apart n))

module _ (bs : List ℕ) (z : Zone) (w : Whole z) (s : Stored bs z) (n : ℕ) (there : Paged n (flatten z.bays)) where
  -- where its block begins
  abbrev pub at : ℕ
  at = start (in_line z) + sizes there.pre

  pub place_is : data_offset n z ≡ at + page_header
  place_is =
      ap₂ (place_of (has_name n)) (ap first_block (masters-are z w ∙ sym (count-line z w))) there.is
      ∙ place_inside (has_name n) (page n there.status there.content) there.post (eq-eqb n n refl) (start (in_line z)) there.pre there.before

  tiled : Tiled false (there.pre ++ (cell (held (page n there.status there.content)) ∷ there.post))
  tiled = rw there.is at (valid-line z w).tiled

  pub stamp-small : there.status.stamp < stamp_range
  stamp-small = (tiled-written false there.pre (page n there.status there.content) there.post tiled).1.1

  pub block-fits : at + (page_header + length there.content) ≤ z.len
  unfolding sizes
  block-fits = omega (arith, len-line z w, ap sizes there.is, sizes-append there.pre (cell (held (page n there.status there.content)) ∷ there.post))

  pub in_buffer : z.len ≤ length bs
  in_buffer = omega (arith, w.bounded, s.buffer)

  -- among the blocks, the change is of that page alone
  pub line-edited : (g : Item → Item) → flatten (map_s (edit (has_name n) g) z.bays) ≡ there.pre ++ (cell (held (g (page n there.status there.content))) ∷ there.post)
  line-edited g =
      let f = one (has_name n) g in
      let e : Item = page n there.status there.content in
      let k : has_name n e ≡ true = eq-eqb n n refl in
      let here : f (cell (held e)) ≡ cell (held (g e)) = rw k in
      flat-edit (has_name n) g z.bays ∙ ap (map f) there.is ∙ map-append f there.pre (cell (held e) ∷ there.post)
      ∙ ap₂ ◌++◌ (kept (has_name n) g there.pre there.before) (ap₂ ◌∷◌ here (kept (has_name n) g there.post there.after))

  module _ (u : Zone) (st : Status) (d : List ℕ) (q : flatten u.bays ≡ there.pre ++ (cell (held (page n st d)) ∷ there.post)) (c : u.chain ≡ z.chain) (l : length d ≡ length there.content) where
    handles : handles_of (flatten u.bays) ≡ handles_of (flatten z.bays)
    unfolding handles_of
    handles =
        ap handles_of q ∙ handles-append there.pre (cell (held (page n st d)) ∷ there.post)
        ∙ sym (ap handles_of there.is ∙ handles-append there.pre (cell (held (page n there.status there.content)) ∷ there.post))

    counts : count (in_line u) ≡ count (in_line z)
    counts = ap₂ (λ (a b : List ℕ). length a + length b) handles c

    lengths : len (in_line u) ≡ len (in_line z)
    unfolding sizes
    lengths =
        omega (
          arith,
          counts,
          ap sizes q,
          ap sizes there.is,
          sizes-append there.pre (cell (held (page n st d)) ∷ there.post),
          sizes-append there.pre (cell (held (page n there.status there.content)) ∷ there.post),
          l,
        )

    places : (h : ℕ) → value (in_line u) h ≡ value (in_line z) h
    places h =
        ap₂ ◌+◌
        (ap₂ (place_of (is h)) (ap first_block counts) q ∙ place_other h n there.status st there.content d there.post l (start (in_line z)) there.pre ∙ ap (place_of (is h) (start (in_line z))) (sym there.is))
        (ap (next_of h) c)

    line : encode (in_line u) ≡ lay u.clock (len (in_line z)) (start (in_line z)) (count (in_line z)) (head_of z.chain) (values (in_line z)) (join (map encode_block (flatten u.bays)))
    line =
        encode-lay (in_line u)
        ∙ lay-same u.clock lengths (ap first_block counts) counts (ap head_of c) (map_same _ _ places (offsets zone_header (count (in_line u))) ∙ ap (λ (k : ℕ). map (value (in_line z)) (offsets zone_header k)) counts) refl

    -- the zone as it was, with the clock of u
    abbrev ticking : List ℕ
    ticking = lay u.clock (len (in_line z)) (start (in_line z)) (count (in_line z)) (head_of z.chain) (values (in_line z)) (join (map encode_block (flatten z.bays)))

    module _ (o : ℕ) (x : List ℕ) (e : join (map encode_block (flatten u.bays)) ≡ overwrite (join (map encode_block (flatten z.bays))) (sizes there.pre + o) x) where
      line-changed : encode (in_line u) ≡ overwrite ticking (at + o) x
      line-changed =
          let k : at + o ≡ zone_header + (master_size * length (values (in_line z)) + (sizes there.pre + o)) =
          omega (arith, length-map (offsets zone_header (count (in_line z))) (value (in_line z)), length-offsets zone_header (count (in_line z))) in
          line ∙ ap (lay u.clock (len (in_line z)) (start (in_line z)) (count (in_line z)) (head_of z.chain) (values (in_line z))) e
          ∙ sym (lay-rest u.clock _ _ _ _ (sizes there.pre + o) (values (in_line z)) (join (map encode_block (flatten z.bays))) x)
          ∙ ap (λ (k : ℕ). overwrite ticking k x) (sym k)

      replaced : replacing bs (in_line z) (in_line u) ≡ encode (in_line u) ++ drop z.len bs
      replaced =
          let a : len (in_line z) - len (in_line u) ≡ 0 = omega (arith, lengths) in
          let b : max (len (in_line z)) (len (in_line u)) ≡ z.len = omega (arith, lengths, len-line z w) in
          rw (a, b)

      fits : o + length x ≤ page_header + length there.content → at + o + length x ≤ length (encode (in_line z))
      fits f = omega (arith, f, length-line z w, block-fits)

      -- the clock stays
      pub page-written : o + length x ≤ page_header + length there.content → u.clock ≡ z.clock → replacing bs (in_line z) (in_line u) ≡ overwrite bs (at + o) x
      page-written f k =
          let t : ticking ≡ encode (in_line z) = ap (λ (j : ℕ). lay j (len (in_line z)) (start (in_line z)) (count (in_line z)) (head_of z.chain) (values (in_line z)) (join (map encode_block (flatten z.bays)))) k ∙ sym (encode-lay (in_line z)) in
          replaced ∙ ap (◌++ drop z.len bs) (line-changed ∙ ap (λ (y : List ℕ). overwrite y (at + o) x) t)
          ∙ sym (write-left (encode (in_line z)) (drop z.len bs) x (at + o) (fits f))
          ∙ ap (λ (y : List ℕ). overwrite y (at + o) x) (sym s.split)

      -- the clock is written too
      pub page-ticked : o + length x ≤ page_header + length there.content → replacing bs (in_line z) (in_line u) ≡ overwrite (overwrite bs clock_at (u.clock ∷ [])) (at + o) x
      page-ticked f =
          let m : clock_at + 1 ≤ length (encode (in_line z)) = omega (arith, length-line z w, len-line z w) in
          let t : ticking ≡ overwrite (encode (in_line z)) clock_at (u.clock ∷ []) =
          sym (ap (λ (y : List ℕ). overwrite y clock_at (u.clock ∷ [])) (encode-lay (in_line z)) ∙ lay-clock z.clock u.clock _ _ _ _ _ _) in
          let k : at + o + length x ≤ length (overwrite (encode (in_line z)) clock_at (u.clock ∷ [])) = omega (arith, fits f, write-length (encode (in_line z)) (u.clock ∷ []) clock_at m) in
          replaced ∙ ap (◌++ drop z.len bs) (line-changed ∙ ap (λ (y : List ℕ). overwrite y (at + o) x) t)
          ∙ sym (write-left (overwrite (encode (in_line z)) clock_at (u.clock ∷ [])) (drop z.len bs) x (at + o) k)
          ∙ ap (λ (y : List ℕ). overwrite y (at + o) x) (sym (write-left (encode (in_line z)) (drop z.len bs) (u.clock ∷ []) clock_at m) ∙ ap (λ (y : List ℕ). overwrite y clock_at (u.clock ∷ [])) (sym s.split))

    pub place_after : master_count items u ≡ master_count items z → data_offset n u ≡ at + page_header
    place_after m =
        ap₂ (place_of (has_name n)) (ap first_block (m ∙ masters-are z w ∙ sym (count-line z w))) q
        ∙ place_inside (has_name n) (page n st d) there.post (eq-eqb n n refl) (start (in_line z)) there.pre there.before

    -- ---- the parts of its block

    module _ (small : st.stamp < stamp_range) where
      abbrev front : List ℕ
      front = join (map encode_block there.pre)

      front-is : length front ≡ sizes there.pre
      front-is = front_long false there.pre (cell (held (page n there.status there.content)) ∷ there.post) tiled

      abbrev back : List ℕ
      back = join (map encode_block there.post)

      abbrev tag : List ℕ
      tag = label n (length there.content)

      old-bytes : join (map encode_block (flatten z.bays)) ≡ (front ++ tag) ++ (flag_byte there.status ∷ there.status.stamp ∷ (there.content ++ back))
      old-bytes = ap (λ (b : List Block). join (map encode_block b)) there.is ∙ line-bytes there.pre there.post n there.status there.content stamp-small

      new-bytes : join (map encode_block (flatten u.bays)) ≡ (front ++ tag) ++ (flag_byte st ∷ st.stamp ∷ (d ++ back))
      new-bytes = ap (λ (b : List Block). join (map encode_block b)) q ∙ line-bytes there.pre there.post n st d small ∙ ap (λ (k : ℕ). (front ++ label n k) ++ (flag_byte st ∷ st.stamp ∷ (d ++ back))) l

      tag_at : length (front ++ tag) ≡ sizes there.pre + status_at
      tag_at = length-append front tag ∙ ap₂ ◌+◌ front-is (label-long n (length there.content))

      -- other flags
      pub flags-written : st.stamp ≡ there.status.stamp → d ≡ there.content → u.clock ≡ z.clock → replacing bs (in_line z) (in_line u) ≡ overwrite bs (at + status_at) (flag_byte st ∷ [])
      flags-written e f k =
          page-written status_at (flag_byte st ∷ [])
          (new-bytes ∙ ap₂ (λ (j : ℕ) (y : List ℕ). (front ++ tag) ++ (flag_byte st ∷ j ∷ (y ++ back))) e f
          ∙ sym (ap (λ (y : List ℕ). overwrite y (sizes there.pre + status_at) (flag_byte st ∷ [])) old-bytes
          ∙ write_mid (front ++ tag) (flag_byte there.status ∷ []) (flag_byte st ∷ []) (there.status.stamp ∷ (there.content ++ back)) (sizes there.pre + status_at) tag_at refl))
          (omega arith) k

      -- another stamp, and the clock
      pub stamp-written : flag_byte st ≡ flag_byte there.status → d ≡ there.content → replacing bs (in_line z) (in_line u) ≡ overwrite (overwrite bs clock_at (u.clock ∷ [])) (at + (status_at + 1)) (st.stamp ∷ [])
      stamp-written e f =
          let f₁ : List ℕ = (front ++ tag) ++ (flag_byte there.status ∷ []) in
          let j : length f₁ ≡ sizes there.pre + (status_at + 1) = omega (arith, length-append (front ++ tag) (flag_byte there.status ∷ []), tag_at) in
          page-ticked (status_at + 1) (st.stamp ∷ [])
          (new-bytes ∙ ap₂ (λ (j : ℕ) (y : List ℕ). (front ++ tag) ++ (j ∷ st.stamp ∷ (y ++ back))) e f
          ∙ sym (ap (λ (y : List ℕ). overwrite y (sizes there.pre + (status_at + 1)) (st.stamp ∷ [])) (old-bytes ∙ sym (append_assoc (front ++ tag) (flag_byte there.status ∷ []) (there.status.stamp ∷ (there.content ++ back))))
          ∙ write_mid f₁ (there.status.stamp ∷ []) (st.stamp ∷ []) (there.content ++ back) (sizes there.pre + (status_at + 1)) j refl
          ∙ append_assoc (front ++ tag) (flag_byte there.status ∷ []) (st.stamp ∷ (there.content ++ back))))
          (omega arith)

      -- other data
      pub data-written : (i : ℕ) (x : List ℕ) → i + length x ≤ length there.content → st ≡ there.status → d ≡ overwrite there.content i x → u.clock ≡ z.clock
          → replacing bs (in_line z) (in_line u) ≡ overwrite bs (at + (page_header + i)) x
      data-written i x m e f k =
          let f₂ : List ℕ = (front ++ tag) ++ (flag_byte there.status ∷ there.status.stamp ∷ []) in
          let j : length f₂ + i ≡ sizes there.pre + (page_header + i) = omega (arith, length-append (front ++ tag) (flag_byte there.status ∷ there.status.stamp ∷ []), tag_at) in
          page-written (page_header + i) x
          (new-bytes ∙ ap₂ (λ (t : Status) (y : List ℕ). (front ++ tag) ++ (flag_byte t ∷ t.stamp ∷ (y ++ back))) e f
          ∙ sym (ap₂ (λ (y : List ℕ) (o : ℕ). overwrite y o x) (old-bytes ∙ sym (append_assoc (front ++ tag) (flag_byte there.status ∷ there.status.stamp ∷ []) (there.content ++ back))) (sym j)
          ∙ write-right f₂ (there.content ++ back) x i ∙ ap (f₂ ++◌) (write-left there.content back x i m)
          ∙ append_assoc (front ++ tag) (flag_byte there.status ∷ there.status.stamp ∷ []) (overwrite there.content i x ++ back)))
          (omega (arith, m)) k
