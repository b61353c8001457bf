-- THE LAW of a block that moves, in the bytes of a valid structure: a new block in a free block, its master, and one free block over the old place
-- and its free neighbours. It is the block freed and then allocated anew.
use mathlib.Core.Path.{◌≡◌, refl, sym, ap, ap₂, ◌∙◌}
use mathlib.Core.Bool.{Bool, true, false, cond}
use mathlib.Core.List.{List, [], ◌∷◌, ◌++◌, map, append-nil}
use Prim.Native.Nat.{ℕ, ◌+◌, ◌-◌, ◌≤◌, ◌<◌}
use native.Mathlib.Omega.{arith}
use lib.Dec.{eqb}
use lib.ListN.{length, length-append, length-replicate}
use Rattle.format.specs.Occurs.{occurs}
use Rattle.format.specs.WellFormed.{offsets}
use Rattle.block_type.specs.Limits.{zone_header, chain_at}
use Rattle.bigendian.specs.BigEndian.{to_be, overwrite}
use Rattle.bigendian.proofs.Laws.{length-to_be}
use Rattle.bigendian.proofs.Overwrite.{swap}
use Rattle.kinds.specs.Kinds.{Item, header_of, master_of, item_size, masters_of}
use Rattle.kinds.specs.Kinds as Kinds
use Rattle.kinds.proofs.KindLaws.{is_masters}
use Rattle.bay.specs.Bay.{Cell, free, held, bay_size, gap, Hole, fill}
use Rattle.bay.specs.Sound.{bytes_of, Sound1}
use Rattle.bay.proofs.Laws.{bsize-append}
use Rattle.structure.specs.Structure.{Block, cell, Structure, sizes, count, start, len, head_of, value, encode_block, encode, handles_of}
use Rattle.structure.specs.Valid.{Valid}
use Rattle.structure.proofs.Round.{offset-is}
use Rattle.access.specs.row.Row as Row
use Rattle.access.proofs.row.Laws as Rows
use Rattle.slide.specs.ZoneBay.{settled}
use Rattle.slide.proofs.One.{set-one}
use Rattle.settle.proofs.surgery.Image.{img, upd, encode-img, img-rest, img-chain, img-master, img-same}
use Rattle.access.proofs.row.Zone.{valid-sound}
use Rattle.settle.proofs.surgery.Replace.{sizes-parts, start-same}
use Rattle.settle.proofs.Cells.{all-sizes}
use Rattle.free_block.specs.Around.{Around}
use Rattle.free_block.proofs.Parts as Parts
use Rattle.free_block.proofs.Bytes.{master-in, freed-owned, same_size, count-owned}
use Rattle.room.proofs.place.InBay.{fill-placed}
use Rattle.resize.specs.relocate.Move.{Apart, below, above}

twice : (g : ℕ → ℕ) (h u v k : ℕ) → upd (upd g h u) h v k ≡ upd g h v k
twice g h u v k = go (eqb k h)
  where
    go : (t : Bool) → cond t v (cond t u (g k)) ≡ cond t v (g k)
    go true = refl
    go false = refl

module _ (s : Structure) (v : Valid s) {bs' : List Block} {e₀ : Item} (a : Around s.blocks bs' (cell (held e₀))) (h : ℕ) (its : Kinds.is h e₀ ≡ true) where
  pub handles : handles_of (cell (held e₀) ∷ []) ≡ h ∷ []
  unfolding handles_of
  handles = append-nil (masters_of e₀) ∙ is_masters h e₀ its

  abbrev new : List Block
  new = cell (free (Parts.amount s v a)) ∷ []

  pub freed-start : start (record { clock = s.clock; chain = h ∷ s.chain; blocks = bs' }) ≡ start s
  freed-start =
      ap (λ (bs : List Block). start (record { clock = s.clock; chain = h ∷ s.chain; blocks = bs })) (Parts.new-parts s v a)
      ∙ start-same s v (Parts.before s v a) (Parts.inside s v a) new (Parts.after s v a) (h ∷ s.chain) (Parts.old-parts s v a) (same_size s v a) (Parts.free-sound s v a) (count-owned s v a h handles)

  same-sizes : sizes bs' ≡ sizes s.blocks
  same-sizes =
      omega (arith, ap sizes (Parts.new-parts s v a), sizes-parts (Parts.before s v a) new (Parts.after s v a), same_size s v a, Parts.inside-sizes s v a, Parts.all-sizes-are s v a)

  module _ (v₂ : Valid (record { clock = s.clock; chain = h ∷ s.chain; blocks = bs' })) (before after : List Block) (bay : List Cell) (parts : bs' ≡ before ++ (map cell bay ++ after))
      (x : Hole) (is : bay ≡ x.before ++ (free x.size ∷ x.after)) (e : Item) (em : master_of e ≡ h) (es : masters_of e ≡ h ∷ []) (ok : Sound1 (held e)) (fits : item_size e ≤ x.size)
      (long : length (bytes_of (held e ∷ gap (x.size - item_size e) [])) ≡ x.size) (at from to : ℕ) (ea : at ≡ start s + sizes before + bay_size x.before)
      (ef : from ≡ start s + sizes (Parts.before s v a)) (et : to ≡ from + Parts.amount s v a) (apart : Apart from to at x.size) where
    abbrev B : List ℕ
    B = bytes_of (held e ∷ gap (x.size - item_size e) [])

    abbrev X : List ℕ
    X = encode_block (cell (free (to - from)))

    abbrev r : List ℕ
    r = Row.bytes_of s.blocks

    abbrev c : ℕ
    c = head_of s.chain

    abbrev pa : ℕ
    pa = sizes before + bay_size x.before

    abbrev pf : ℕ
    pf = sizes (Parts.before s v a)

    abbrev image : ℕ → (ℕ → ℕ) → List ℕ → List ℕ
    image k g y = img s.clock (len s) (start s) (count s) k g y

    x-is : encode_block (cell (free (to - from))) ≡ encode_block (cell (free (Parts.amount s v a)))
    x-is = let q : to - from ≡ Parts.amount s v a = omega arith in ap (λ (n : ℕ). encode_block (cell (free n))) q

    x-long : length X ≡ to - from
    unfolding encode_block
    x-long = simp (length-append, length-to_be, length-replicate) (omega (arith, Parts.block-low s v a))

    r-long : length r ≡ sizes s.blocks
    r-long = Rows.bytes-long s.blocks (valid-sound s v)

    pa-in : pa ≤ length r
    pa-in = omega (arith, r-long, same-sizes, ap sizes parts, sizes-parts before (map cell bay) after, all-sizes bay, ap bay_size is, bsize-append x.before (free x.size ∷ x.after))

    pf-in : pf ≤ length r
    pf-in = omega (arith, r-long, Parts.all-sizes-are s v a)

    -- the two writes do not meet
    either : overwrite (overwrite r pa B) pf X ≡ overwrite (overwrite r pf X) pa B
    either = go apart
      where
        go : Apart from to at x.size → overwrite (overwrite r pa B) pf X ≡ overwrite (overwrite r pf X) pa B
        go (below l) = swap r X B pf pa (omega (arith, x-long, ea, ef, et)) pa-in
        go (above l) = sym (swap r B X pa pf (omega (arith, long, ea, ef)) pf-in)

    owned : 0 < occurs h (offsets zone_header (count s))
    owned = master-in s v a h handles

    place_at : at ≡ start s + pa
    place_at = omega (arith, ea)

    written : overwrite (overwrite (overwrite (encode s) at B) h (to_be 4 (at + header_of e))) from X ≡ image c (upd (value s) h (at + header_of e)) (overwrite (overwrite r pa B) pf X)
    written =
        ap (λ (y : List ℕ). overwrite (overwrite (overwrite y at B) h (to_be 4 (at + header_of e))) from X) (encode-img s)
        ∙ ap (λ (y : List ℕ). overwrite (overwrite y h (to_be 4 (at + header_of e))) from X) (img-rest s.clock (len s) (start s) (count s) c pa at (value s) r B place_at)
        ∙ ap (λ (y : List ℕ). overwrite y from X) (img-master s.clock (len s) (start s) (count s) c h (at + header_of e) (value s) (overwrite r pa B) owned)
        ∙ img-rest s.clock (len s) (start s) (count s) c pf from (upd (value s) h (at + header_of e)) (overwrite r pa B) X ef

    -- freed
    freed-image : encode (record { clock = s.clock; chain = h ∷ s.chain; blocks = bs' }) ≡ image h (upd (value s) h c) (overwrite r pf X)
    freed-image =
        sym (freed-owned s v a h handles)
        ∙ ap (λ (y : List ℕ). overwrite (overwrite (overwrite (encode s) (start s + pf) y) chain_at (to_be 2 h)) h (to_be 4 c)) (sym x-is)
        ∙ ap (λ (y : List ℕ). overwrite (overwrite (overwrite y (start s + pf) X) chain_at (to_be 2 h)) h (to_be 4 c)) (encode-img s)
        ∙ ap (λ (y : List ℕ). overwrite (overwrite y chain_at (to_be 2 h)) h (to_be 4 c)) (img-rest s.clock (len s) (start s) (count s) c pf (start s + pf) (value s) r X refl)
        ∙ ap (λ (y : List ℕ). overwrite y h (to_be 4 c)) (img-chain s.clock (len s) (start s) (count s) c h (value s) (overwrite r pf X))
        ∙ img-master s.clock (len s) (start s) (count s) h h c (value s) (overwrite r pf X) owned

    -- and allocated anew
    placed-image : settled (overwrite (encode (record { clock = s.clock; chain = h ∷ s.chain; blocks = bs' })) chain_at (to_be 2 c)) at (held e ∷ gap (x.size - item_size e) [])
        ≡ image c (upd (upd (value s) h c) h (at + header_of e)) (overwrite (overwrite r pf X) pa B)
    placed-image =
        ap (λ (y : List ℕ). settled (overwrite y chain_at (to_be 2 c)) at (held e ∷ gap (x.size - item_size e) [])) freed-image
        ∙ ap (λ (y : List ℕ). settled y at (held e ∷ gap (x.size - item_size e) [])) (img-chain s.clock (len s) (start s) (count s) h c (upd (value s) h c) (overwrite r pf X))
        ∙ set-one (image c (upd (value s) h c) (overwrite r pf X)) at (x.size - item_size e) e (omega (arith, em, (offset-is h zone_header (count s) owned).0))
        ∙ ap₂ (λ (y : List ℕ) (k : ℕ). overwrite y k (to_be 4 (at + header_of e))) (img-rest s.clock (len s) (start s) (count s) c pa at (upd (value s) h c) (overwrite r pf X) B place_at) em
        ∙ img-master s.clock (len s) (start s) (count s) c h (at + header_of e) (upd (value s) h c) (overwrite (overwrite r pf X) pa B) owned

    pub moved : overwrite (overwrite (overwrite (encode s) at (bytes_of (held e ∷ gap (x.size - item_size e) []))) h (to_be 4 (at + header_of e))) from (encode_block (cell (free (to - from))))
        ≡ encode (record { clock = s.clock; chain = s.chain; blocks = before ++ (map cell (fill e x) ++ after) })
    moved =
        let q : start (record { clock = s.clock; chain = h ∷ s.chain; blocks = bs' }) + sizes before + bay_size x.before ≡ at = omega (arith, ea, freed-start) in
        written
        ∙ ap (image c (upd (value s) h (at + header_of e))) either
        ∙ img-same s.clock (len s) (start s) (count s) c (upd (value s) h (at + header_of e)) (upd (upd (value s) h c) h (at + header_of e)) (overwrite (overwrite r pf X) pa B) (λ k l. sym (twice (value s) h c (at + header_of e) k))
        ∙ sym placed-image
        ∙ ap (λ (o : ℕ). settled (overwrite (encode (record { clock = s.clock; chain = h ∷ s.chain; blocks = bs' })) chain_at (to_be 2 c)) o (held e ∷ gap (x.size - item_size e) [])) (sym q)
        ∙ fill-placed (record { clock = s.clock; chain = h ∷ s.chain; blocks = bs' }) v₂ before after bay parts x is e s.chain (ap (◌++ s.chain) (sym es)) ok fits
