-- The bytes of a valid structure are well-formed, and have that structure.
use mathlib.Core.Path.{◌≡◌, refl, sym, ap, ◌∙◌}
use mathlib.Core.List.{List, [], ◌∷◌, ◌++◌, map, append_assoc}
use mathlib.Core.Bool.{Bool, true, false, cond}
use Prim.Native.Nat.{ℕ, zero, suc, ◌+◌, ◌*◌, ◌-◌, ◌%◌, ◌<◌, ◌≤◌}
use native.Mathlib.Omega.{arith}
use lib.Dec.{eqb}
use borrow.Author.Tests.{eqb-true, eqb-false, eq-eqb, ne_eqb, le-leb}
use lib.ListN.{length, get_or, drop, length-append}
use lib.Seq.{take_at, drop_at, drop-drop}
use Rattle.format.specs.Occurs.{occurs}
use Rattle.block_type.specs.Limits.{fixed_header, longest_zone, master_size, most_masters, zone_header, handle_range, argument_range, first_block, zero_at}
use Rattle.bigendian.specs.BigEndian.{to_be}
use Rattle.bigendian.proofs.Laws.{be-to_be, length-to_be}
use Rattle.format.specs.WellFormed.{header_ok, length_field, first_field, masters_field, chain_field, clock_field, split_blocks, master_at, relocs, zone_of, well_formed, offsets}
use Rattle.format.proofs.OneWalk.{one-walk}
use Rattle.format.proofs.Distinct.{once-distinct}
use Rattle.format.specs.OneWalk.{body_ok}
use Rattle.format.proofs.Masters.{Master}
use Rattle.format.proofs.Count.{All, one_same, one-other, occurs-offset, length-offsets, all_of}
use Rattle.structure.specs.Structure.{Block, fixed, Structure, encode_block, sizes, count, start, len, head_of, place_of, next_of, value, words, join, header, encode, decode_zone, decode, cell, handles_of, names_in}
use Rattle.bay.specs.Bay.{free, held}
use Rattle.kinds.specs.Kinds.{item_size, header_of, is}
use Rattle.structure.proofs.Codec.{blocks-join}
use Rattle.structure.specs.Valid.{Tiled, Valid}
use Rattle.structure.proofs.Back.{Placed, Encs, encs, Linked, chain-links, chain_back, words-at}
use Rattle.structure.proofs.Words.{length-words}
use Rattle.structure.proofs.Append.{occurs-held}

-- ---- the header

pub record Head (e : List ℕ) (l f m c k : ℕ) (t : List ℕ) : Type 0 where
  pub is_len : length_field e ≡ l
  pub is_first : first_field e ≡ f
  pub is_masters : masters_field e ≡ m
  pub is_chain : chain_field e ≡ c
  pub is-clock : clock_field e ≡ k
  pub zero : get_or e zero_at 0 ≡ 0
  pub rest : drop zone_header e ≡ t
  pub long : length e ≡ zone_header + length t

pub head-of : (l f m c k : ℕ) (t : List ℕ) → l < argument_range → f < argument_range → m < argument_range → c < handle_range
    → Head ((to_be 4 l ++ (to_be 4 f ++ (to_be 4 m ++ (to_be 2 c ++ k ∷ 0 ∷ [])))) ++ t) l f m c k t
unfolding to_be
head-of l f m c k t hl hf hm hc = record {
  is_len = be-to_be 4 l hl;
  is_first = be-to_be 4 f hf;
  is_masters = be-to_be 4 m hm;
  is_chain = be-to_be 2 c hc;
  is-clock = refl;
  zero = refl;
  rest = refl;
  long = omega arith;
}

pub header_of_lem : (e : List ℕ) (l f m c k : ℕ) (t : List ℕ) → Head e l f m c k t → l % 4 ≡ 0 → l ≤ length e → l ≤ longest_zone → m ≤ most_masters → f ≡ zone_header + master_size * m → f ≤ l → header_ok e ≡ true
unfolding header_ok
header_of_lem e l f m c k t h q r u few st w =
    rw (
      le-leb zone_header (length e) (omega arith),
      h.zero,
      h.is_len,
      h.is_first,
      h.is_masters,
      eq-eqb (l % 4) 0 q,
      le-leb l (length e) r,
      le-leb l longest_zone u,
      le-leb m most_masters few,
      eq-eqb f (zone_header + master_size * m) st,
      le-leb f l w,
    )

-- ---- counts

pub offset-is : (h k n : ℕ) → 0 < occurs h (offsets k n) → (k ≤ h) × (h + master_size ≤ k + master_size * n) × (h % 4 ≡ k % 4)
unfolding occurs offsets
offset-is h k zero l = let x : ⊥ = omega arith in absurd x
offset-is h k (suc n) l = go (eqb h k) refl (offset-is h (k + master_size) n)
  where
    go : (t : Bool) → eqb h k ≡ t → (0 < occurs h (offsets (k + master_size) n) → (k + master_size ≤ h) × (h + master_size ≤ k + master_size + master_size * n) × (h % 4 ≡ (k + master_size) % 4))
        → (k ≤ h) × (h + master_size ≤ k + master_size * suc n) × (h % 4 ≡ k % 4)
    go true e f = let q = eqb-true h k e in (omega arith, omega arith, ap (λ (x : ℕ). x % 4) q)
    go false e f = let r = f (omega (arith, one-other h k (eqb-false h k e))) in (omega (arith, r.0), omega (arith, r.1), omega (arith, r.2))

pub offset-le : (h k n : ℕ) → occurs h (offsets k n) ≤ 1
offset-le h k n = go (occurs h (offsets k n)) refl
  where
    go : (x : ℕ) → occurs h (offsets k n) ≡ x → x ≤ 1
    go zero e = omega arith
    go (suc x) e = let r = offset-is h k n (omega arith) in omega (arith, occurs-offset h k n r.0 (omega (arith, r.1)) r.2)

pub next-none : (h : ℕ) (ks : List ℕ) → occurs h ks ≡ 0 → next_of h ks ≡ 0
unfolding occurs next_of
next-none h [] e = refl
next-none h (k ∷ ks) e = rw (ne_eqb h k (λ x. omega (arith, one_same h k x))) (next-none h ks (omega arith))

pub place_none : (h at : ℕ) (bs : List Block) → occurs h (handles_of bs) ≡ 0 → place_of (is h) at bs ≡ 0
unfolding occurs place_of handles_of
place_none h at [] e = refl
place_none h at (cell (free n) ∷ bs) e = place_none h (at + n) bs e
place_none h at (fixed d ∷ bs) e = place_none h (at + (fixed_header + length d)) bs e
place_none h at (cell (held e) ∷ bs) q = go (is h e) (sym (occurs-held h e bs) ∙ q) (place_none h (at + item_size e) bs)
  where
    go : (t : Bool) → cond t 1 0 + occurs h (handles_of bs) ≡ 0 → (occurs h (handles_of bs) ≡ 0 → place_of (is h) (at + item_size e) bs ≡ 0) → cond t (at + header_of e) (place_of (is h) (at + item_size e) bs) ≡ 0
    go true q r = let x : ⊥ = omega arith in absurd x
    go false q r = r (omega arith)

place-le : (h at : ℕ) (bs : List Block) → place_of (is h) at bs ≤ at + sizes bs
unfolding place_of sizes
place-le h at [] = omega arith
place-le h at (cell (free n) ∷ bs) = omega (arith, place-le h (at + n) bs)
place-le h at (fixed d ∷ bs) = omega (arith, place-le h (at + (fixed_header + length d)) bs)
place-le h at (cell (held e) ∷ bs) = go (is h e) (place-le h (at + item_size e) bs)
  where
    go : (t : Bool) → place_of (is h) (at + item_size e) bs ≤ at + item_size e + sizes bs → cond t (at + header_of e) (place_of (is h) (at + item_size e) bs) ≤ at + (item_size e + sizes bs)
    go true i = omega arith
    go false i = omega arith

head-le : (b : ℕ) (ks : List ℕ) → All (λ (k : ℕ). k ≤ b) ks → head_of ks ≤ b
head-le b [] a = omega arith
head-le b (k ∷ ks) a = a.0

next_le : (b h : ℕ) (ks : List ℕ) → All (λ (k : ℕ). k ≤ b) ks → next_of h ks ≤ b
unfolding next_of
next_le b h [] a = omega arith
next_le b h (k ∷ ks) a = go (eqb h k) (head-le b ks a.1) (next_le b h ks a.1)
  where
    go : (t : Bool) → head_of ks ≤ b → next_of h ks ≤ b → cond t (head_of ks) (next_of h ks) ≤ b
    go true p q = p
    go false p q = q

tiled-four : (prev : Bool) (bs : List Block) → Tiled prev bs → sizes bs % 4 ≡ 0
unfolding sizes
tiled-four prev [] t = refl
tiled-four prev (cell (free n) ∷ bs) t = omega (arith, t.2, tiled-four true bs t.4)
tiled-four prev (fixed d ∷ bs) t = omega (arith, t.0, tiled-four false bs t.3)
tiled-four prev (cell (held it) ∷ bs) t = omega (arith, t.0, tiled-four false bs t.3)

-- ---- a valid structure

module _ (s : Structure) (v : Valid s) where
  abbrev e : List ℕ
  e = encode s

  is-offset : (h : ℕ) → 0 < occurs h (handles_of s.blocks) + occurs h s.chain → Master (start s) h
  is-offset h l = let r = offset-is h zone_header (count s) (omega (arith, v.owned h)) in record { low = r.0; fits = r.1; four = r.2 }

  links-le : All (λ (k : ℕ). k ≤ first_block most_masters) s.chain
  links-le = all_of _ s.chain (λ h l. let r = is-offset h (omega arith) in omega (arith, r.fits, v.few))

  value-le : (h : ℕ) → value s h < argument_range
  value-le h = omega (arith, place-le h (start s) s.blocks, next_le (first_block most_masters) h s.chain links-le, v.short)

  pub heads : (t : List ℕ) → Head (encode s ++ t) (len s) (start s) (count s) (head_of s.chain) s.clock ((words (value s) (offsets zone_header (count s)) ++ join (map encode_block s.blocks)) ++ t)
  unfolding encode header
  heads t = rw (append_assoc (to_be 4 (len s) ++ (to_be 4 (start s) ++ (to_be 4 (count s) ++ (to_be 2 (head_of s.chain) ++ s.clock ∷ 0 ∷ [])))) _ t)
      (head-of (len s) (start s) (count s) (head_of s.chain) s.clock _ (omega (arith, v.short)) (omega (arith, v.short)) (omega (arith, v.few)) (omega (arith, head-le (first_block most_masters) s.chain links-le)))

  pub heads-self : Head (encode s) (len s) (start s) (count s) (head_of s.chain) s.clock (words (value s) (offsets zone_header (count s)) ++ join (map encode_block s.blocks))
  unfolding encode header
  heads-self = head-of (len s) (start s) (count s) (head_of s.chain) s.clock _ (omega (arith, v.short)) (omega (arith, v.short)) (omega (arith, v.few)) (omega (arith, head-le (first_block most_masters) s.chain links-le))

  length-header : length (header s) ≡ zone_header
  unfolding header
  length-header = simp (length-append, length-to_be)

  pub master-is : (h : ℕ) → Master (start s) h → master_at e h ≡ value s h
  unfolding encode
  master-is h m = words-at (header s) (join (map encode_block s.blocks)) (value s) zone_header (count s) h length-header m.low (omega (arith, m.fits)) m.four (value-le h)

  placed : Placed e (start s) (start s) s.blocks
  placed = record {
    holds = λ h l. let m = is-offset h (omega arith) in
        (m, omega (arith, master-is h m, next-none h s.chain (omega (arith, v.owned h, offset-le h zone_header (count s)))));
    single = λ h. omega (arith, v.owned h, offset-le h zone_header (count s));
  }

  linked : Linked e (start s) s.chain
  linked = record {
    holds = λ h l. let m = is-offset h (omega arith) in
        (m, omega (arith, master-is h m, place_none h (start s) s.blocks (omega (arith, v.owned h, offset-le h zone_header (count s)))));
    single = λ h. omega (arith, v.owned h, offset-le h zone_header (count s));
  }

  es : Encs e (start s) false (start s) s.blocks
  es = encs e (start s) (omega (arith, v.few)) false (start s) s.blocks v.tiled placed

  table : List ℕ
  table = words (value s) (offsets zone_header (count s))

  length-table : length table ≡ master_size * count s
  unfolding table
  length-table = length-words (value s) (offsets zone_header (count s)) ∙ ap (λ (n : ℕ). master_size * n) (length-offsets zone_header (count s))

  pub rest-is : drop (start s) e ≡ join (map encode_block s.blocks)
  unfolding encode table
  rest-is =
      sym (drop-drop (master_size * count s) zone_header e)
      ∙ ap (drop (master_size * count s)) (drop_at (header s) _ zone_header length-header)
      ∙ drop_at table (join (map encode_block s.blocks)) (master_size * count s) length-table

  pub length-is : length e ≡ len s
  unfolding encode table
  length-is = omega (arith, length-append (header s) (table ++ join (map encode_block s.blocks)), length-header, length-append table (join (map encode_block s.blocks)), length-table, es.sums)

  pub blocks_is : split_blocks (drop (start s) e) ≡ map encode_block s.blocks
  blocks_is = ap (λ (t : List ℕ). split_blocks t) rest-is ∙ blocks-join e (start s) false (start s) (map encode_block s.blocks) es.walk

  relocs-is : relocs (split_blocks (drop (start s) e)) ≡ length (handles_of s.blocks)
  relocs-is = ap relocs blocks_is ∙ es.counts

  left_is : count s - relocs (split_blocks (drop (start s) e)) ≡ length s.chain
  left_is = omega (arith, relocs-is)

  body_is : body_ok e (start s) (count s) (head_of s.chain) ≡ true
  unfolding body_ok
  body_is =
      rw (left_is, le-leb (relocs (split_blocks (drop (start s) e))) (count s) (omega (arith, relocs-is)), blocks_is, es.walk)
      (rw (chain-links e (start s) s.chain linked, es.names) (once-distinct (names_in s.blocks) v.apart))

  pub zone-is : (t : List ℕ) → zone_of (e ++ t) ≡ e
  zone-is t = rw (heads t).is_len (take_at e t (len s) length-is)

  len-four : len s % 4 ≡ 0
  len-four = omega (arith, tiled-four false s.blocks v.tiled)

  -- the bytes of a valid structure, with any bytes beyond, are well-formed
  pub well-formed : (t : List ℕ) → well_formed (encode s ++ t) ≡ true
  well-formed t =
      let h = heads t in
      rw (
        one-walk (e ++ t),
        header_of_lem (e ++ t) (len s) (start s) (count s) (head_of s.chain) s.clock _ h len-four (omega (arith, length-append e t, length-is)) v.short v.few refl (omega arith),
        zone-is t,
        h.is_first,
        h.is_masters,
        h.is_chain,
      ) body_is

  -- and have that structure
  pub decode-encode : (t : List ℕ) → decode (encode s ++ t) ≡ s
  unfolding decode decode_zone
  decode-encode t =
      let h = heads-self in
      rw (zone-is t, h.is_first, h.is_masters, h.is_chain, h.is-clock, left_is, blocks_is)
      (λ i. record { clock = s.clock; chain = chain_back e (start s) s.chain linked i; blocks = es.back i })
