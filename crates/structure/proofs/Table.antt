-- From bytes to the structure and back: the masters' values follow from the blocks' places and the chain.
use mathlib.Core.Path.{◌≡◌, refl, sym, ap, ap₂, ◌∙◌}
use mathlib.Core.List.{List, [], ◌∷◌, ◌++◌, map, append_assoc}
use mathlib.Core.Bool.{true, false, cond, ◌&&◌}
use Prim.Native.Nat.{ℕ, zero, suc, ◌+◌, ◌*◌, ◌-◌, ◌%◌, ◌≤◌}
use native.Mathlib.Omega.{arith}
use lib.Dec.{eqb}
use borrow.Author.Tests.{ne_eqb}
use lib.ListN.{length, get_or, drop, length-append, length-take, length-drop, take-append-drop}
use lib.Seq.{get_or-take, drop-cons}
use Rattle.format.specs.Occurs.{occurs}
use Rattle.block_type.specs.Limits.{longest_zone, master_size, most_masters, zone_header, length_at, first_at, masters_at, chain_at, clock_at, zero_at}
use Rattle.bigendian.specs.BigEndian.{from_be, to_be, Bytes}
use Rattle.bigendian.proofs.Parts.{slice-take}
use Rattle.bigendian.proofs.Bytes.{bytes_take, bytes_drop}
use Rattle.format.proofs.Bool.{and_left, and_right}
use Rattle.format.specs.WellFormed.{header_ok, length_field, first_field, masters_field, chain_field, clock_field, split_blocks, master_at, relocs, zone_of, well_formed, offsets, chain}
use Rattle.format.proofs.OneWalk.{one-walk}
use Rattle.format.specs.OneWalk.{body_ok}
use Rattle.format.proofs.Masters.{Master}
use Rattle.format.proofs.Header.{header-facts}
use Rattle.format.proofs.Count.{All}
use Rattle.format.proofs.Live.{Parts, body-parts, owned}
use Rattle.format.proofs.Chain.{length-chain}
use Rattle.format.proofs.Handles.{handles, total}
use Rattle.structure.specs.Structure.{Structure, encode_block, decode_block, count, start, len, head_of, place_of, value, words, join, header, encode, decode_zone, decode}
use Rattle.structure.proofs.Codec.{tiles-bytes, join-blocks}
use Rattle.structure.proofs.Words.{peel, words_of, words_same}
use Rattle.structure.proofs.Decoded.{sizes-decs, counts-decs, places, head-chain, nexts}
use Rattle.kinds.specs.Kinds.{is}

pub all-offsets : (P : ℕ → Type 0) (first k n : ℕ) → ((h : ℕ) → Master first h → P h) → zone_header ≤ k → k % 4 ≡ 0 → k + master_size * n ≤ first → All P (offsets k n)
unfolding offsets
all-offsets P first k zero f l q u = tt
all-offsets P first k (suc n) f l q u =
    (f k (record { low = l; fits = omega arith; four = q }), all-offsets P first (k + master_size) n f (omega arith) (omega arith) (omega arith))

-- one of two counts is 1
one_of : (a b v : ℕ) → a + b ≡ 1 → cond (eqb a 0) 0 v + cond (eqb b 0) 0 v ≡ v
one_of zero zero v e = let x : ⊥ = omega arith in absurd x
one_of zero (suc b) v e = rw (ne_eqb (suc b) 0 (λ q. omega arith)) (omega arith)
one_of (suc a) zero v e = rw (ne_eqb (suc a) 0 (λ q. omega arith)) (omega arith)
one_of (suc a) (suc b) v e = let x : ⊥ = omega arith in absurd x

total-join : (bs : List (List ℕ)) → total bs ≡ length (join bs)
unfolding total join
total-join [] = refl
total-join (b ∷ bs) = omega (arith, length-append b (join bs), total-join bs)

-- the header's bytes, field by field
glue : (z : List ℕ) → Bytes z → zone_header ≤ length z → get_or z zero_at 0 ≡ 0 → (l f m c : ℕ) (t : List ℕ)
    → l ≡ length_field z → f ≡ first_field z → m ≡ masters_field z → c ≡ chain_field z → t ≡ drop zone_header z
    → (to_be 4 l ++ (to_be 4 f ++ (to_be 4 m ++ (to_be 2 c ++ clock_field z ∷ 0 ∷ [])))) ++ t ≡ z
glue z y n z₂ l f m c t e₁ e₂ e₃ e₄ e =
    rw (e₁, e₂, e₃, e₄) (simp append_assoc
    (peel 4 length_at z _ y (omega arith) (peel 4 first_at z _ y (omega arith) (peel 4 masters_at z _ y (omega arith) (peel 2 chain_at z _ y (omega arith)
    (sym (drop-cons z clock_at 0 (omega arith) ∙ ap (clock_field z ∷◌) (drop-cons z zero_at 0 (omega arith) ∙ ap₂ (λ (x : ℕ) (xs : List ℕ). x ∷ xs) z₂ (sym e)))))))))

-- ---- the whole zone

-- what is known of the bytes z of a well-formed zone, with none beyond its length
pub record Whole (z : List ℕ) : Type 0 where
  pub bytes : Bytes z
  pub long : zone_header ≤ length z
  pub all : length_field z ≡ length z
  pub zero : get_or z zero_at 0 ≡ 0
  pub begin : first_field z ≡ zone_header + master_size * masters_field z
  pub within : first_field z ≤ length z
  pub few : masters_field z ≤ most_masters
  pub limit : length_field z ≤ longest_zone
  pub parts : Parts z (first_field z) (masters_field z) (chain_field z)

module _ (z : List ℕ) (w : Whole z) where
  abbrev bs : List (List ℕ)
  bs = split_blocks (drop (first_field z) z)

  abbrev st : Structure
  st = decode_zone z

  pub count-is : count st ≡ masters_field z
  unfolding decode_zone
  count-is = omega (arith, counts-decs z (first_field z) false (first_field z) bs w.parts.walk, length-chain z (masters_field z - relocs bs) (chain_field z), w.parts.few)

  pub start_is : start st ≡ first_field z
  start_is = omega (arith, count-is, w.begin)

  total-is : total bs ≡ length z - first_field z
  total-is = total-join bs ∙ ap length (join-blocks z (first_field z) false (first_field z) (drop (first_field z) z) w.parts.walk) ∙ length-drop (first_field z) z

  pub value_is : (h : ℕ) → Master (first_field z) h → value st h ≡ master_at z h
  unfolding decode_zone
  value_is h q =
      ap₂ (λ (a b : ℕ). a + b)
      (ap (λ (o : ℕ). place_of (is h) o (map decode_block bs)) start_is ∙ places z (first_field z) false (first_field z) h bs w.parts.walk)
      (nexts z (first_field z) (masters_field z - relocs bs) (chain_field z) h w.parts.ends)
      ∙ one_of (occurs h (handles bs)) (occurs h (chain z (masters_field z - relocs bs) (chain_field z))) (master_at z h)
      (owned z (first_field z) (masters_field z) (chain_field z) w.begin w.parts h q)

  pub len_is : len st ≡ length_field z
  unfolding decode_zone
  len_is = omega (arith, start_is, sizes-decs z (first_field z) false (first_field z) bs w.parts.walk, total-is, w.all, w.within)

  rest-is : words (value st) (offsets zone_header (count st)) ++ join (map encode_block st.blocks) ≡ drop zone_header z
  unfolding decode_zone
  rest-is =
      let f : zone_header + master_size * masters_field z ≡ first_field z = sym w.begin in
      ap₂ (λ (a b : List ℕ). a ++ b)
      (ap (λ (n : ℕ). words (value st) (offsets zone_header n)) count-is
      ∙ words_same (value st) (master_at z) (offsets zone_header (masters_field z)) (all-offsets _ (first_field z) zone_header (masters_field z) value_is (omega arith) refl (omega (arith, w.begin))))
      (tiles-bytes z (first_field z) false (first_field z) (drop (first_field z) z) w.parts.walk (bytes_drop (first_field z) z w.bytes) ∙ ap (λ (n : ℕ). drop n z) w.begin)
      ∙ words_of z zone_header (masters_field z) w.bytes (omega (arith, w.begin, w.within))

  pub head-is : head_of st.chain ≡ chain_field z
  unfolding decode_zone
  head-is = head-chain z (first_field z) (masters_field z - relocs bs) (chain_field z) w.parts.ends

  -- the bytes of a zone are those of its structure
  pub encode-zone : encode (decode_zone z) ≡ z
  unfolding encode header decode_zone
  encode-zone = glue z w.bytes w.long w.zero (len st) (start st) (count st) (head_of st.chain) _ len_is start_is count-is head-is rest-is

-- ---- from the buffer to the zone

pub whole : (s : List ℕ) → Bytes s → well_formed s ≡ true → Whole (zone_of s)
whole s y w =
    let h : (header_ok s && body_ok (zone_of s) (first_field s) (masters_field s) (chain_field s)) ≡ true = sym (one-walk s) ∙ w in
    let f = header-facts s (and_left _ (body_ok (zone_of s) (first_field s) (masters_field s) (chain_field s)) h) in
    let b = and_right (header_ok s) _ h in
    let l16 : zone_header ≤ length_field s = omega arith in
    let n : length (zone_of s) ≡ length_field s = omega (arith, length-take (length_field s) s) in
    let e₀ : length_field (zone_of s) ≡ length_field s = ap from_be (slice-take s (length_field s) length_at 4 (omega arith)) in
    let e₁ : first_field (zone_of s) ≡ first_field s = ap from_be (slice-take s (length_field s) first_at 4 (omega arith)) in
    let e₂ : masters_field (zone_of s) ≡ masters_field s = ap from_be (slice-take s (length_field s) masters_at 4 (omega arith)) in
    let e₃ : chain_field (zone_of s) ≡ chain_field s = ap from_be (slice-take s (length_field s) chain_at 2 (omega arith)) in
    record {
      bytes = bytes_take (length_field s) s y;
      long = omega arith;
      all = omega arith;
      zero = get_or-take (length_field s) s zero_at 0 (omega arith) ∙ f.zero;
      begin = omega arith;
      within = omega arith;
      few = omega arith;
      limit = omega arith;
      parts = rw (e₁, e₂, e₃) (body-parts (zone_of s) (first_field s) (masters_field s) (chain_field s) b);
    }

-- the structure of a well-formed buffer gives the buffer back
pub encode-decode : (s : List ℕ) → Bytes s → well_formed s ≡ true → encode (decode s) ++ drop (length_field s) s ≡ s
unfolding decode
encode-decode s y h = rw (encode-zone (zone_of s) (whole s y h)) (take-append-drop (length_field s) s)
