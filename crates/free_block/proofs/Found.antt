-- The walk to a block stops there, and what it tells of the blocks beside is the place of the block with its free neighbours.
use mathlib.Core.Path.{◌≡◌, refl, sym, ap, ap₂, ◌∙◌, subst}
use mathlib.Core.Bool.{cond}
use mathlib.Core.List.{List, [], ◌∷◌, ◌++◌, map, append_assoc}
use Prim.Native.Nat.{ℕ, ◌+◌, ◌<◌, ◌≤◌}
use native.Mathlib.Omega.{arith}
use lib.ListN.{length, drop}
use Rattle.format.specs.WellFormed.{size_of, is_free, first_field}
use Rattle.bay.specs.Bay.{Cell, bay_size}
use Rattle.bay.specs.Ends.{free_part, end_free, start_free}
use Rattle.structure.specs.Structure.{Block, cell, Structure, size, sizes, start, decode_zone}
use Rattle.structure.specs.Valid.{Valid}
use Rattle.structure.proofs.Append.{sizes-append}
use Rattle.structure.proofs.Table.{Whole, start_is, len_is}
use Rattle.structure.proofs.Sound.{valid-zone}
use Rattle.access.specs.row.Row.{Row, Sound, blocks_of, block_at, Stepped}
use Rattle.access.proofs.row.Laws.{low_of, sound-right, stepped}
use Rattle.access.proofs.row.Zone.{valid-sound}
use Rattle.free_block.specs.Around.{part_of, last_part, first_part, Around, Freeing}
use Rattle.free_block.specs.Extends.{BlockIn, Extends}
use Rattle.free_block.specs.Walk.{Below, Stopped, Extended}
use Rattle.free_block.proofs.Parts.{lows-sizes}
use Rattle.slide.specs.declared.blank.Extent.{Extent}
use Rattle.block_type.specs.Limits.{smallest_block}
use Rattle.structure.specs.IsZone.{IsZone}
use Rattle.structure.proofs.IsZone.{whole_of}

-- ---- lists of blocks

pub last-append : (k : ℕ) (a b : List Block) → last_part k (a ++ b) ≡ last_part (last_part k a) b
last-append k [] b = refl
last-append k (c ∷ a) b = last-append (part_of c) a b

last-from : (c : Cell) (cs : List Cell) → last_part (free_part c) (map cell cs) ≡ end_free (c ∷ cs)
last-from c [] = refl
last-from c (d ∷ cs) = last-from d cs

last-cells : (cs : List Cell) → last_part 0 (map cell cs) ≡ end_free cs
last-cells [] = refl
last-cells (c ∷ cs) = last-from c cs

first-cells : (cs : List Cell) (r : List Block) → first_part r ≡ 0 → first_part (map cell cs ++ r) ≡ start_free cs
first-cells [] r e = e
first-cells (c ∷ cs) r e = refl

same_rest : (a b c : List Block) → a ++ b ≡ a ++ c → b ≡ c
same_rest [] b c e = e
same_rest (x ∷ a) b c e = same_rest a b c (cc)

-- blocks that end at t are those that start below t
unique : (t at : ℕ) (p q u r : List Block) → Sound (p ++ q) → p ++ q ≡ u ++ r → at + sizes p ≡ t → Below t at u → t ≤ at + sizes u → u ≡ p
unfolding sizes
unique t at [] q u r so e m bl l = none u bl
  where
    none : (u : List Block) → Below t at u → u ≡ []
    none [] bl = refl
    none (x ∷ u) bl = absurd (omega (arith, bl.0))
unique t at (x ∷ p) q u r so e m bl l = some u e bl l (λ u e bl l. unique t (at + size x) p q u r so.1 e (omega arith) bl l)
  where
    some : (u : List Block) → x ∷ (p ++ q) ≡ u ++ r → Below t at u → t ≤ at + sizes u
        → ((u : List Block) → p ++ q ≡ u ++ r → Below t (at + size x) u → t ≤ at + size x + sizes u → u ≡ p) → u ≡ x ∷ p
    some [] e bl l f = absurd (omega (arith, (low_of x so.0).0))
    some (y ∷ u) e bl l f =
        let k : y ≡ x = cc in
        let o : p ++ q ≡ u ++ r = cc in
        rw k (ap (x ∷◌) (f u o (subst (λ (c : Block). Below t (at + size c) u) k bl.1) (omega (arith, ap size k))))

-- ---- a block of the zone

module _ (z : List ℕ) (i : IsZone z) (first : ℕ) (ef : first ≡ first_field z) (low : List Block) (b : Block) (high : List Block)
    (parts : (decode_zone z).blocks ≡ low ++ (b ∷ high)) (t : ℕ) (et : t ≡ start (decode_zone z) + sizes low) where
  w : Whole z
  w = whole_of z i

  abbrev s : Structure
  s = decode_zone z

  v : Valid s
  v = valid-zone z w

  abbrev rest : List Block
  rest = b ∷ high

  start_of : first ≡ start s
  start_of = ef ∙ sym (start_is z w)

  sound : Sound (low ++ rest)
  sound = subst Sound parts (valid-sound s v)

  low-size : smallest_block ≤ size b
  low-size = (low_of b (sound-right low rest sound).0).0

  blocks-zone : blocks_of (drop first z) ≡ s.blocks
  unfolding blocks_of decode_zone
  blocks-zone = rw ef

  zone-sizes : t + sizes rest ≡ length z
  zone-sizes = omega (arith, et, ap sizes parts, sizes-append low rest, len_is z w, w.all)

  pub block-fits : t + size b ≤ length z
  unfolding sizes
  block-fits = omega (arith, zone-sizes)

  module _ (prev at : ℕ) (p : Stopped z first t prev at) where
    before-is : p.passed.before ≡ low
    before-is =
        unique t first low rest p.passed.before (blocks_of (drop at z)) sound (sym parts ∙ sym blocks-zone ∙ p.passed.parts)
        (omega (arith, et, start_of)) p.passed.below (omega (arith, p.reached, p.passed.place))

    stops : at ≡ t
    stops = omega (arith, p.passed.place, ap sizes before-is, et, start_of)

    rest-is : blocks_of (drop at z) ≡ rest
    rest-is = same_rest low (blocks_of (drop at z)) rest (ap (◌++ blocks_of (drop at z)) (sym before-is) ∙ sym p.passed.parts ∙ blocks-zone ∙ parts)

    pub prev-fits : prev < length z
    prev-fits = omega (arith, stops, p.passed.near, block-fits, low-size)

    step-here : Stepped z at (size_of (drop at z))
    step-here = stepped z at (size_of (drop at z)) p.passed.row (omega (arith, stops, block-fits, low-size)) refl

    here-is : block_at z at ≡ b
    here-is = let e = sym step-here.blocks ∙ rest-is in cc

    -- what a step over it tells
    pub here-size : size_of (drop at z) ≡ size b
    here-size = sym step-here.bytes ∙ ap size here-is

    module _ (end : ℕ) (ee : end ≡ t + size b) where
      end-place : at + size_of (drop at z) ≡ end
      end-place = omega (arith, stops, here-size)

      pub end_row : Row (drop end z)
      end_row = subst (λ (o : ℕ). Row (drop o z)) end-place step-here.next

      end-blocks : blocks_of (drop end z) ≡ high
      end-blocks =
          let e = sym step-here.blocks ∙ rest-is in
          let r : blocks_of (drop (at + size_of (drop at z)) z) ≡ high = cc in
          ap (λ (o : ℕ). blocks_of (drop o z)) (sym end-place) ∙ r

      -- the place of the block with its free neighbours
      module _ (from to : ℕ) (x : Extended z prev t end from to) where
        pub from_low : from + last_part 0 low ≡ t
        from_low =
            let f : from ≡ cond (is_free (drop prev z)) prev at = x.from_is ∙ ap (cond (is_free (drop prev z)) prev) (sym stops) in
            ap₂ (λ (x y : ℕ). x + y) f (sym (ap (last_part 0) before-is)) ∙ p.passed.free_before ∙ stops

        pub to_high : to ≡ end + first_part high
        to_high = x.to_is ∙ ap (end +◌) (ap first_part end-blocks)

-- ---- a block that becomes free

module _ {bs bs' : List Block} {b : Block} (a : Around bs bs' b) where
  abbrev pub lows : List Block
  lows = a.pre ++ map cell a.low

  abbrev pub highs : List Block
  highs = map cell a.high ++ a.post

  pub around-parts : bs ≡ lows ++ (b ∷ highs)
  around-parts = a.old ∙ sym (append_assoc a.pre (map cell a.low) (b ∷ highs))

  pub around-place : (o t : ℕ) → t ≡ o + (sizes a.pre + bay_size a.low) → t ≡ o + sizes lows
  around-place o t e = omega (arith, e, lows-sizes a)

  around-low : last_part 0 lows ≡ end_free a.low
  around-low = last-append 0 a.pre (map cell a.low) ∙ ap (λ (k : ℕ). last_part k (map cell a.low)) a.pre_used ∙ last-cells a.low

  around-high : first_part highs ≡ start_free a.high
  around-high = first-cells a.high a.post a.post_used

module _ (z : List ℕ) (i : IsZone z) (bs' : List Block) (b : Block) (a : Around (decode_zone z).blocks bs' b) (t : ℕ) (et : t ≡ start (decode_zone z) + (sizes a.pre + bay_size a.low)) where
  module _ (first : ℕ) (ef : first ≡ first_field z) (prev at : ℕ) (p : Stopped z first t prev at) where
    pub around-size : size_of (drop at z) ≡ size b
    around-size = here-size z i first ef (lows a) b (highs a) (around-parts a) t (around-place a _ t et) prev at p

    pub freeing : (end : ℕ) → end ≡ t + size b → (from to : ℕ) → Extended z prev t end from to → Freeing z bs' b from t end to
    freeing end ee from to x = record {
      zone = i;
      around = a;
      at_is = et;
      end_is = ee;
      from_is = ap (from +◌) (sym (around-low a)) ∙ from_low z i first ef (lows a) b (highs a) (around-parts a) t (around-place a _ t et) prev at p end ee from to x;
      to_is = to_high z i first ef (lows a) b (highs a) (around-parts a) t (around-place a _ t et) prev at p end ee from to x ∙ ap (end +◌) (around-high a);
    }

  module _ (end : ℕ) (ee : end ≡ t + size b) where
    abbrev pub around-in : BlockIn z t end
    around-in = record { zone = i; low = lows a; block = b; high = highs a; parts = around-parts a; at_is = around-place a _ t et; end_is = ee }

    module _ (e : Extent) (x : Extends z t end e) where
      pub around-from : e.from + end_free a.low ≡ t
      around-from = ap (e.from +◌) (sym (around-low a)) ∙ x.from_is around-in

      pub around-to : e.to ≡ end + start_free a.high
      around-to = x.to_is around-in ∙ ap (end +◌) (around-high a)

      pub around-freeing : Freeing z bs' b e.from t end e.to
      around-freeing = record { zone = i; around = a; at_is = et; end_is = ee; from_is = around-from; to_is = around-to }

      pub around-extends : Freeing z bs' b e.from e.at e.end e.to
      around-extends = rw (x.at_is, x.end_is) around-freeing
