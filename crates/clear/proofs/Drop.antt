-- One page that becomes free, in the bytes of a zone: where its place and its free neighbours are, and the zone then.
use mathlib.Core.Path.{◌≡◌, refl, sym, ap, ◌∙◌, subst}
use mathlib.Core.Bool.{Bool, true, false}
use mathlib.Core.List.{List, [], ◌∷◌, ◌++◌, map}
use Prim.Native.Nat.{ℕ, ◌+◌, ◌-◌, ◌<◌, ◌≤◌}
use native.Mathlib.Omega.{arith}
use lib.ListN.{length}
use Rattle.format.specs.Occurs.{occurs}
use Rattle.bigendian.specs.BigEndian.{overwrite}
use Rattle.kinds.specs.Kinds.{Item, item_size, masters_of}
use Rattle.bay.specs.Bay.{Cell, free, held, gap}
use Rattle.structure.specs.Structure.{Block, cell, Structure, sizes, start, encode_block, encode, decode_zone, handles_of, names_in}
use Rattle.structure.specs.Valid.{Tiled, Valid}
use Rattle.structure.specs.IsZone.{IsZone}
use Rattle.structure.proofs.IsZone.{whole_of}
use Rattle.structure.proofs.Sound.{valid-zone}
use Rattle.settle.proofs.surgery.Sound.{last_free, tiled-left, tiled-right, tiled-join, tiled-any}
use Rattle.settle.proofs.surgery.Replace.{replaced-valid, start-same}
use Rattle.slide.specs.blank.Between.{Between}
use Rattle.free_block.specs.Around.{last_part, Around, Freeing}
use Rattle.free_block.proofs.Parts.{amount, before, inside, after, old-parts, new-parts, inside-handles, free-sound, block-low}
use Rattle.free_block.proofs.Bytes.{same_size}
use Rattle.free_block.proofs.Between.{freeing-between, freeing-plain}
use Rattle.clear.proofs.Gap.{gap_cells, gap-bay, gap-last, gap-first, gap-some, gaps-join, Split, split}

-- the block of e, with k free bytes before it and the blocks `rest` behind
module _ (z : List ℕ) (i : IsZone z) (low : List Block) (k : ℕ) (e : Item) (rest : List Block)
    (parts : (decode_zone z).blocks ≡ low ++ (gap_cells k ++ (cell (held e) ∷ rest))) where
  abbrev s : Structure
  s = decode_zone z

  v : Valid s
  v = valid-zone z (whole_of z i)

  tiled : Tiled false (low ++ (gap_cells k ++ (cell (held e) ∷ rest)))
  tiled = subst (Tiled false) parts v.tiled

  rest-tiled : Tiled false rest
  rest-tiled = (tiled-right _ (gap_cells k) (cell (held e) ∷ rest) (tiled-right false low _ tiled)).3

  pub behind-it : Split rest
  behind-it = split false rest rest-tiled

  module _ (behind : Split rest) (used : last_part 0 low ≡ 0) (last : last_free false low ≡ false) (plain : masters_of e ≡ []) where
    abbrev j : ℕ
    j = behind.many

    abbrev post : List Block
    post = behind.post

    -- all that is free then
    abbrev pub all : ℕ
    all = k + (item_size e + j)

    abbrev pub left : Structure
    left = record { clock = s.clock; chain = s.chain; blocks = low ++ (gap_cells all ++ post) }

    abbrev around : Around s.blocks left.blocks (cell (held e))
    around = record {
      pre = low;
      low = gap k [];
      high = gap j [];
      post = post;
      old = parts ∙ ap (λ (r : List Block). low ++ (gap_cells k ++ (cell (held e) ∷ r))) behind.parts;
      new = ap (λ (cs : List Cell). low ++ (map cell cs ++ post)) (sym (gaps-join k (item_size e) j all refl));
      pre_used = used;
      post_used = behind.used;
    }

    amount-is : amount s v around ≡ all
    amount-is = omega (arith, gap-last k, gap-first j)

    none : handles_of (cell (held e) ∷ []) ≡ []
    unfolding handles_of
    none = rw plain

    -- ---- the bytes

    module _ (from at end to : ℕ) (at_is : at ≡ start s + (sizes low + k)) (end_is : end ≡ at + item_size e) (from_is : from + k ≡ at) (to_is : to ≡ end + j) where
      freeing : Freeing z left.blocks (cell (held e)) from at end to
      freeing = record {
        zone = i;
        around = around;
        at_is = omega (arith, at_is, gap-bay k);
        end_is = end_is;
        from_is = omega (arith, from_is, gap-last k);
        to_is = omega (arith, to_is, gap-first j);
      }

      pub drop-between : Between z from at end to
      drop-between = freeing-between z left.blocks (cell (held e)) from at end to freeing

      pub drop-bytes : (y : List ℕ) → y ≡ overwrite z from (encode_block (cell (free (to - from)))) → y ≡ encode left
      drop-bytes y q = freeing-plain z left.blocks (cell (held e)) from at end to freeing none y q

    -- ---- the structure

    pub all-some : 0 < all
    all-some = omega (arith, block-low s v around)

    post-tiled : Tiled true post
    post-tiled =
        tiled-any _ true post behind.first (tiled-right false (gap_cells j) post (subst (Tiled false) behind.parts rest-tiled))

    left-tiled : Tiled false left.blocks
    left-tiled =
        let f = (free-sound s v around).0 in
        let t : Tiled false (cell (free all) ∷ post) = (refl, omega (arith, f.0, amount-is), rw (← amount-is) f.1, omega (arith, f.2, amount-is), post-tiled) in
        tiled-join false low (gap_cells all ++ post) (tiled-left false low _ tiled)
        (subst (λ (p : Bool). Tiled p (gap_cells all ++ post)) (sym last) (subst (Tiled false) (sym (gap-some all post all-some)) t))

    abbrev new : List Block
    new = cell (free (amount s v around)) ∷ []

    abbrev ins : List Block
    ins = inside s v around

    no-handles : handles_of ins ≡ []
    no-handles = inside-handles s v around ∙ none

    same_count : length (handles_of new) + length s.chain ≡ length (handles_of ins) + length s.chain
    unfolding handles_of
    same_count = rw no-handles

    same-owned : (h : ℕ) → occurs h (handles_of new) + occurs h s.chain ≡ occurs h (handles_of ins) + occurs h s.chain
    unfolding handles_of
    same-owned h = rw no-handles

    less-names : (n : ℕ) → occurs n (names_in new) ≤ occurs n (names_in ins)
    unfolding names_in occurs
    less-names n = omega arith

    pub left-valid : Valid left
    left-valid =
        subst (λ (bs : List Block). Valid (record { clock = s.clock; chain = s.chain; blocks = bs })) (sym (new-parts s v around))
        (replaced-valid s v (before s v around) ins new (after s v around) s.chain (old-parts s v around) (same_size s v around) (free-sound s v around) same_count
        (subst (Tiled false) (new-parts s v around) left-tiled) same-owned less-names)

    pub left-start : start left ≡ start s
    left-start =
        ap (λ (bs : List Block). start (record { clock = s.clock; chain = s.chain; blocks = bs })) (new-parts s v around)
        ∙ start-same s v (before s v around) ins new (after s v around) s.chain (old-parts s v around) (same_size s v around) (free-sound s v around) same_count
