-- The two encoders are one: the bytes that the theorem's laws speak of are those of the codec.
use mathlib.Core.Path.{◌≡◌, refl, ap, ap₂, sym, ◌∙◌}
use mathlib.Core.Bool.{Bool, true, false, cond}
use mathlib.Core.Option.{Option, none, some, get_or}
use mathlib.Core.List.{List, [], ◌∷◌, ◌++◌, map, append_assoc, append-nil}
use Prim.Native.Nat.{ℕ, zero, suc, ◌+◌, ◌-◌, ◌*◌, ◌/◌, ◌%◌, ◌^◌, ◌≤◌}
use native.Mathlib.Omega.{arith}
use native.Mathlib.Nat.{add-zero, add_assoc}
use lib.ListN.{replicate}
use lib.Dec.{eqb}
use Rattle.format.specs.WellFormed.{offsets}
use Rattle.block_type.specs.Limits.{master_size, type_unit, zone_header, fixed_code, free_header}
use Rattle.bigendian.specs.BigEndian.{to_be}
use Rattle.structure.specs.Structure as Shape
use Rattle.structure.specs.Structure.{Block, fixed, count, start, fixed_tag, encode_block, place_of, head_of, value, words, join, encode}
use Rattle.calls.specs.Bays.{Bays, last, more, or_else}
use Rattle.bay.specs.Counted as Counted
use Rattle.bay.specs.Counted.{live}
use Rattle.kinds.specs.Kinds.{item_size, code_of, header_of, is, tag_of}
use Rattle.calls.specs.State.{Fixed, fsize, handles_from}
use Rattle.bay.specs.Bay.{Cell, free, held, bay_size, items}
use Rattle.bay.proofs.Each.{Each, nothing, just, each_weaken, each-or_else}
use Rattle.zone.proofs.Handles as Handles
use Rattle.zone.proofs.Handles.{occurs-once}
use Rattle.zone.proofs.Bytes as Old
use Rattle.zone.proofs.Bytes.{big, cell_bytes, block_bytes, where_in, where_s, head_or0, master_of, master_bytes, zone_bytes}
use Rattle.zone.specs.Group.{flat_bay, flatten}
use Rattle.zone.specs.Work.{Zone}
use Rattle.zone.specs.Call.{in_line}
use Rattle.zone.proofs.Keep.{Whole, count-line, len-line, offsets-same}

big-is : (w n : ℕ) → big w n ≡ to_be w n
unfolding to_be
big-is zero n = refl
big-is (suc w) n = ap ((n / 256 ^ w) % 256 ∷◌) (big-is w n)

bay-bytes : (cs : List Cell) (r : List Block) → cell_bytes cs ++ join (map encode_block r) ≡ join (map encode_block (flat_bay cs r))
unfolding join encode_block
bay-bytes [] r = refl
bay-bytes (free n ∷ cs) r = append_assoc (Old.free_bytes n) (cell_bytes cs) (join (map encode_block r)) ∙ ap₂ ◌++◌ (ap (◌++ replicate (n - free_header) 0) (big-is 4 (n / 2))) (bay-bytes cs r)
bay-bytes (held e ∷ cs) r =
    append_assoc (Old.item_bytes e) (cell_bytes cs) (join (map encode_block r))
    ∙ ap₂ ◌++◌ (ap (◌++ (tag_of e ++ e.bytes)) (big-is 2 (code_of e * type_unit + item_size e / 2))) (bay-bytes cs r)

strip-bytes : (s : Bays (List Cell) Fixed) → block_bytes s ≡ join (map encode_block (flatten s))
unfolding join encode_block
strip-bytes (last b) = sym (append-nil (cell_bytes b)) ∙ bay-bytes b []
strip-bytes (more b x s) =
    ap (λ (l : List ℕ). cell_bytes b ++ l) (ap₂ ◌++◌ (append_assoc (big 2 (fixed_code * type_unit + fsize x / 2)) fixed_tag x.bytes ∙ ap (◌++ (fixed_tag ++ x.bytes)) (big-is 2 (fixed_code * type_unit + fsize x / 2))) (strip-bytes s))
    ∙ bay-bytes b (fixed x.bytes ∷ flatten s)

-- ---- masters

place-bay : (h p : ℕ) (cs : List Cell) (r : List Block) → place_of (is h) p (flat_bay cs r) ≡ get_or (where_in h p cs) (place_of (is h) (p + bay_size cs) r)
unfolding place_of
place-bay h p [] r = ap (λ (q : ℕ). place_of (is h) q r) (sym (add-zero p))
place-bay h p (free n ∷ cs) r = place-bay h (p + n) cs r ∙ ap (λ (q : ℕ). get_or (where_in h (p + n) cs) (place_of (is h) q r)) (add_assoc p n (bay_size cs))
place-bay h p (held e ∷ cs) r = go (is h e) (place-bay h (p + item_size e) cs r ∙ ap (λ (q : ℕ). get_or (where_in h (p + item_size e) cs) (place_of (is h) q r)) (add_assoc p (item_size e) (bay_size cs)))
  where
    go : (t : Bool) → place_of (is h) (p + item_size e) (flat_bay cs r) ≡ get_or (where_in h (p + item_size e) cs) (place_of (is h) (p + (item_size e + bay_size cs)) r)
        → cond t (p + header_of e) (place_of (is h) (p + item_size e) (flat_bay cs r)) ≡ get_or (cond t (some (p + header_of e)) (where_in h (p + item_size e) cs)) (place_of (is h) (p + (item_size e + bay_size cs)) r)
    go true q = refl
    go false q = q

get_d-or_else : (a b : Option ℕ) → get_or (or_else a b) 0 ≡ get_or a (get_or b 0)
get_d-or_else none b = refl
get_d-or_else (some x) b = refl

pub place-strip : (h p : ℕ) (s : Bays (List Cell) Fixed) → place_of (is h) p (flatten s) ≡ get_or (where_s h p s) 0
unfolding place_of
place-strip h p (last b) = place-bay h p b []
place-strip h p (more b x s) =
    place-bay h p b (fixed x.bytes ∷ flatten s)
    ∙ ap (get_or (where_in h p b)) (place-strip h (p + bay_size b + fsize x) s)
    ∙ sym (get_d-or_else (where_in h p b) (where_s h (p + bay_size b + fsize x) s))

head-is : (ks : List ℕ) → head_or0 ks ≡ head_of ks
head-is [] = refl
head-is (k ∷ ks) = refl

next_is : (h : ℕ) (ks : List ℕ) → Old.next_of h ks ≡ Shape.next_of h ks
unfolding Shape.next_of
next_is h [] = refl
next_is h (k ∷ ks) = ap₂ (cond (eqb h k)) (head-is ks) (next_is h ks)

next-none : (h : ℕ) (ks : List ℕ) → Handles.occurs h ks ≡ 0 → Old.next_of h ks ≡ 0
next-none h [] e = refl
next-none h (k ∷ ks) e = go (eqb h k) (next-none h ks) e
  where
    go : (t : Bool) → (Handles.occurs h ks ≡ 0 → Old.next_of h ks ≡ 0) → cond t (suc (Handles.occurs h ks)) (Handles.occurs h ks) ≡ 0 → cond t (head_or0 ks) (Old.next_of h ks) ≡ 0
    go true f q = absurd (omega arith)
    go false f q = f q

where-count : (h p : ℕ) (cs : List Cell) → Each (λ (q : ℕ). 1 ≤ Counted.count (is h) (items cs)) (where_in h p cs)
where-count h p [] = nothing
where-count h p (free n ∷ cs) = where-count h (p + n) cs
where-count h p (held e ∷ cs) = go (is h e) (where-count h (p + item_size e) cs)
  where
    go : (t : Bool) → Each (λ (q : ℕ). 1 ≤ Counted.count (is h) (items cs)) (where_in h (p + item_size e) cs)
        → Each (λ (q : ℕ). 1 ≤ cond t (suc (Counted.count (is h) (items cs))) (Counted.count (is h) (items cs))) (cond t (some (p + header_of e)) (where_in h (p + item_size e) cs))
    go true k = just (omega arith)
    go false k = k

where-live : (h p : ℕ) (s : Bays (List Cell) Fixed) → Each (λ (q : ℕ). 1 ≤ live h s) (where_s h p s)
where-live h p (last b) = where-count h p b
where-live h p (more b x s) = each-or_else (each_weaken (λ q l. omega (arith, l)) (where-count h p b)) (each_weaken (λ q l. omega (arith, l)) (where-live h (p + bay_size b + fsize x) s))

module _ (z : Zone) (w : Whole z) where
  pub master-is : (h : ℕ) → master_of w.m z h ≡ value (in_line z) h
  master-is h =
      both (where_s h (zone_header + master_size * w.m) z.bays) (where-live h (zone_header + master_size * w.m) z.bays)
      ∙ ap₂ ◌+◌ (sym (place-strip h (zone_header + master_size * w.m) z.bays) ∙ ap (λ (m : ℕ). place_of (is h) (zone_header + master_size * m) (flatten z.bays)) (sym (count-line z w))) (next_is h z.chain)
    where
      both : (o : Option ℕ) → Each (λ (q : ℕ). 1 ≤ live h z.bays) o → get_or o (Old.next_of h z.chain) ≡ get_or o 0 + Old.next_of h z.chain
      both none nothing = omega arith
      both (some q) (just l) = omega (arith, next-none h z.chain (omega (arith, w.owned.owns h, occurs-once h zone_header w.m)))

  -- of a live handle: its block's data
  pub value-live : (h : ℕ) → 1 ≤ live h z.bays → value (in_line z) h ≡ place_of (is h) (start (in_line z)) (flatten z.bays)
  value-live h l = omega (arith, next_is h z.chain, next-none h z.chain (omega (arith, w.owned.owns h, occurs-once h zone_header w.m)))

  table_is : (hs : List ℕ) → master_bytes w.m z hs ≡ words (value (in_line z)) hs
  unfolding words
  table_is [] = refl
  table_is (h ∷ hs) = ap₂ ◌++◌ (big-is 4 (master_of w.m z h) ∙ ap (to_be 4) (master-is h)) (table_is hs)

  head_bytes_lem : Old.header_bytes w.m z ≡ Shape.header (in_line z)
  unfolding Shape.header
  head_bytes_lem =
      ap₂ (λ (a b : List ℕ). a ++ b) (big-is 4 z.len ∙ ap (to_be 4) (sym (len-line z w)))
      (ap₂ (λ (a b : List ℕ). a ++ b) (big-is 4 (zone_header + master_size * w.m) ∙ ap (λ (m : ℕ). to_be 4 (zone_header + master_size * m)) (sym (count-line z w)))
      (ap₂ (λ (a b : List ℕ). a ++ b) (big-is 4 w.m ∙ ap (to_be 4) (sym (count-line z w)))
      (ap (λ (a : List ℕ). a ++ (z.clock ∷ 0 ∷ [])) (big-is 2 (head_or0 z.chain) ∙ ap (to_be 2) (head-is z.chain)))))

  pub encoders : zone_bytes w.m z ≡ encode (in_line z)
  unfolding encode
  encoders =
      ap₂ (λ (a b : List ℕ). a ++ b) head_bytes_lem
      (ap₂ (λ (a b : List ℕ). a ++ b)
      (table_is (handles_from zone_header w.m) ∙ ap (words (value (in_line z))) (offsets-same zone_header w.m ∙ ap (offsets zone_header) (sym (count-line z w))))
      (strip-bytes z.bays))
