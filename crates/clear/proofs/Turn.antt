-- One turn of the walk: over a block that stays, and over a page that goes.
use mathlib.Core.Path.{◌≡◌, refl, sym, ap, ◌∙◌, subst}
use mathlib.Core.Bool.{Bool, true, false}
use mathlib.Core.List.{List, [], ◌∷◌, ◌++◌, append_assoc}
use Prim.Native.Nat.{ℕ, ◌+◌, ◌-◌, ◌<◌}
use native.Mathlib.Nat.{add-zero}
use native.Mathlib.Omega.{arith}
use lib.ListN.{drop}
use Rattle.bigendian.specs.BigEndian.{Bytes, overwrite}
use Rattle.format.specs.WellFormed.{is_free}
use Rattle.kinds.specs.Kinds.{Item, item_size, masters_of}
use Rattle.bay.specs.Bay.{free, held}
use Rattle.structure.specs.Structure.{Block, cell, Structure, size, sizes, start, encode, encode_block, decode_zone}
use Rattle.structure.specs.Valid.{Tiled}
use Rattle.structure.specs.IsZone.{IsZone}
use Rattle.structure.proofs.IsZone.{whole_of, zone-of, back-of}
use Rattle.structure.proofs.Append.{sizes-append}
use Rattle.structure.proofs.Cells.{gap-sizes}
use Rattle.structure.proofs.Sound.{valid-zone}
use Rattle.access.specs.row.Row.{blocks_of, block_at, free_b, Stepped}
use Rattle.settle.proofs.surgery.Sound.{last_free, tiled-right}
use Rattle.settle.proofs.surgery.Replace.{sizes-parts}
use Rattle.slide.specs.blank.Between.{Between}
use Rattle.free_block.specs.Around.{part_of}
use Rattle.free_block.specs.Walk.{Extended}
use Rattle.clear.proofs.Flat.{clear_b, gap_b, clear_behind, clear-gap, gap-gap, Kept, kept_append, kept-gap}
use Rattle.clear.proofs.Gap.{gap_cells, gap-some, no_gap, free-last, part-last, Split}
use Rattle.clear.proofs.Stands.{free-at, stands-blocks, stands-free}
use Rattle.clear.proofs.Drop.{behind-it, drop-between, drop-bytes, all-some, left-valid, left-start}
use Rattle.clear.proofs.Going.{Under}

regroup : (a b : List Block) (c : Block) (d : List Block) → a ++ (b ++ (c ∷ d)) ≡ (a ++ (b ++ (c ∷ []))) ++ d
regroup a b c d = sym (append_assoc a (b ++ (c ∷ [])) d ∙ ap (a ++◌) (append_assoc b (c ∷ []) d))

module _ {ok : Item → Bool} {s₀ : Structure} {z : List ℕ} {prev at : ℕ} (u : Under ok s₀ z prev at) (n : ℕ) (x : Stepped z at n) where
  abbrev rest : List Block
  rest = blocks_of (drop (at + n) z)

  met : (c : Block) → block_at z at ≡ c → (decode_zone z).blocks ≡ u.low ++ (gap_cells u.k ++ (c ∷ rest))
  met c e = u.parts ∙ ap (λ (bs : List Block). u.low ++ (gap_cells u.k ++ bs)) (x.blocks ∙ ap (◌∷ rest) e)

  long : (c : Block) → block_at z at ≡ c → size c ≡ n
  long c e = ap size (sym e) ∙ x.bytes

  -- ---- a block that stays

  pub over-free : (m : ℕ) → block_at z at ≡ cell (free m) → Under ok s₀ z at (at + n)
  over-free m e =
      let p = met (cell (free m)) e in
      let t = tiled-right false u.low _ (subst (Tiled false) p (valid-zone z (whole_of z u.zone)).tiled) in
      let o : u.k ≡ 0 = no_gap u.k _ m rest t in
      let t' = subst (λ (k : ℕ). Tiled (last_free false u.low) (gap_cells k ++ (cell (free m) ∷ rest))) o t in
      let l : m ≡ n = long (cell (free m)) e in
      record {
        zone = u.zone;
        clock-is = u.clock-is;
        chain-is = u.chain-is;
        low = u.low;
        k = m;
        parts = p ∙ ap (λ (k : ℕ). u.low ++ (gap_cells k ++ (cell (free m) ∷ rest))) o ∙ ap (u.low ++◌) (sym (gap-some m rest (omega (arith, t'.1))));
        place = omega (arith, u.place, o, l);
        used = u.used;
        last = u.last;
        kept = u.kept;
        before = rw (free-at z at n x, e) (ap (at +◌) l);
        same = u.same;
      }

  pub over-used : (c : Block) → block_at z at ≡ c → free_b c ≡ false → part_of c ≡ 0 → Kept ok (c ∷ []) → Under ok s₀ z at (at + n)
  unfolding sizes
  over-used c e f o y =
      record {
        zone = u.zone;
        clock-is = u.clock-is;
        chain-is = u.chain-is;
        low = u.low ++ (gap_cells u.k ++ (c ∷ []));
        k = 0;
        parts = met c e ∙ regroup u.low (gap_cells u.k) c rest;
        place = omega (arith, u.place, sizes-parts u.low (gap_cells u.k) (c ∷ []), gap-sizes u.k, long c e);
        used = part-last 0 u.low (gap_cells u.k) c ∙ o;
        last = free-last false u.low (gap_cells u.k) c ∙ f;
        kept = kept_append ok u.low (gap_cells u.k ++ (c ∷ [])) u.kept (kept_append ok (gap_cells u.k) (c ∷ []) (kept-gap ok u.k) y);
        before = rw (free-at z at n x, e, f) (add-zero (at + n));
        same = u.same;
      }

  -- ---- a page that goes

  module _ (e : Item) (here : block_at z at ≡ cell (held e)) (its : ok e ≡ true) (plain : masters_of e ≡ []) (from to : ℕ) (y : Extended z prev at (at + n) from to) where
    parts : (decode_zone z).blocks ≡ u.low ++ (gap_cells u.k ++ (cell (held e) ∷ rest))
    parts = met (cell (held e)) here

    sp : Split rest
    sp = behind-it z u.zone u.low u.k e rest parts

    end_is : at + n ≡ at + item_size e
    end_is = ap (at +◌) (sym (long (cell (held e)) here))

    from_is : from + u.k ≡ at
    from_is = ap (◌+ u.k) y.from_is ∙ u.before

    to_is : to ≡ at + n + sp.many
    to_is = y.to_is ∙ ap (at + n +◌) sp.part-is

    pub goes-between : Between z from at (at + n) to
    goes-between = drop-between z u.zone u.low u.k e rest parts sp u.used u.last plain from at (at + n) to u.place end_is from_is to_is

    abbrev m : ℕ
    m = u.k + (item_size e + sp.many)

    abbrev after : Structure
    after = record { clock = (decode_zone z).clock; chain = (decode_zone z).chain; blocks = u.low ++ (gap_cells m ++ sp.post) }

    clears : clear_b ok (u.low ++ (gap_cells m ++ sp.post)) ≡ clear_b ok (decode_zone z).blocks
    clears =
        let r = clear_b ok sp.post in
        let a : clear_b ok (gap_cells m ++ sp.post) ≡ gap_b m r = clear-gap ok m sp.post in
        let b : clear_b ok (cell (held e) ∷ rest) ≡ gap_b (item_size e) (gap_b sp.many r) = rw its (ap (gap_b (item_size e)) (ap (clear_b ok) sp.parts ∙ clear-gap ok sp.many sp.post)) in
        let c : clear_b ok (gap_cells u.k ++ (cell (held e) ∷ rest)) ≡ gap_b m r =
        clear-gap ok u.k (cell (held e) ∷ rest) ∙ ap (gap_b u.k) (b ∙ gap-gap (item_size e) sp.many (item_size e + sp.many) r refl) ∙ gap-gap u.k (item_size e + sp.many) m r refl in
        clear_behind ok u.low (gap_cells m ++ sp.post) (gap_cells u.k ++ (cell (held e) ∷ rest)) (a ∙ sym c) ∙ ap (clear_b ok) (sym parts)

    module _ (z' : List ℕ) (w : z' ≡ overwrite z from (encode_block (cell (free (to - from))))) (bytes : Bytes z') where
      image : z' ≡ encode after
      image = drop-bytes z u.zone u.low u.k e rest parts sp u.used u.last plain from at (at + n) to u.place end_is from_is to_is z' w

      is-after : decode_zone z' ≡ after
      is-after = ap decode_zone image ∙ back-of after (left-valid z u.zone u.low u.k e rest parts sp u.used u.last plain)

      zone' : IsZone z'
      zone' = subst IsZone (sym image) (zone-of after (left-valid z u.zone u.low u.k e rest parts sp u.used u.last plain) (subst Bytes image bytes))

      start_is : start (decode_zone z') ≡ start (decode_zone z)
      start_is = ap start is-after ∙ left-start z u.zone u.low u.k e rest parts sp u.used u.last plain

      blocks_is : (decode_zone z').blocks ≡ u.low ++ (gap_cells m ++ sp.post)
      blocks_is = ap (λ (s : Structure). s.blocks) is-after

      m-some : 0 < m
      m-some = all-some z u.zone u.low u.k e rest parts sp u.used u.last plain

      whole-size : from + m ≡ to
      whole-size = omega (arith, from_is, to_is, end_is)

      free-there : is_free (drop from z') ≡ true
      free-there =
          stands-free z' zone' u.low (gap_cells m ++ sp.post) blocks_is from (omega (arith, start_is, u.place, from_is)) (cell (free m)) sp.post (gap-some m sp.post m-some)

      rest-is : blocks_of (drop to z') ≡ sp.post
      rest-is =
          stands-blocks z' zone' (u.low ++ gap_cells m) sp.post (blocks_is ∙ sym (append_assoc u.low (gap_cells m) sp.post)) to
          (omega (arith, start_is, u.place, from_is, whole-size, sizes-append u.low (gap_cells m), gap-sizes m))

      pub over-gone : Under ok s₀ z' from to
      over-gone = record {
        zone = zone';
        clock-is = ap (λ (s : Structure). s.clock) is-after ∙ u.clock-is;
        chain-is = ap (λ (s : Structure). s.chain) is-after ∙ u.chain-is;
        low = u.low;
        k = m;
        parts = blocks_is ∙ ap (λ (r : List Block). u.low ++ (gap_cells m ++ r)) (sym rest-is);
        place = omega (arith, start_is, u.place, from_is, whole-size);
        used = u.used;
        last = u.last;
        kept = u.kept;
        before = rw free-there whole-size;
        same = ap (clear_b ok) blocks_is ∙ clears ∙ u.same;
      }
