-- A new block in the lowest bay whose sum reaches its size, in the bytes of a zone: the writes may be done, they leave the bytes of the structure that has
-- the block, and where it stands then.
use mathlib.Core.Path.{◌≡◌, refl, sym, ap, ap₂, ◌∙◌, subst}
use mathlib.Core.Bool.{Bool, true, false, cond}
use mathlib.Core.List.{List, [], ◌∷◌, ◌++◌, map}
use Prim.Native.Nat.{ℕ, ◌+◌, ◌-◌, ◌≤◌}
use native.Mathlib.Omega.{arith}
use borrow.Author.Tests.{le-leb}
use Rattle.bigendian.specs.BigEndian.{to_be, overwrite}
use Rattle.block_type.specs.Limits.{master_size, chain_at}
use Rattle.structure.specs.Structure.{Block, cell, Structure, sizes, start, head_of, encode, decode_zone}
use Rattle.structure.specs.Valid.{Valid}
use Rattle.structure.specs.IsZone.{IsZone}
use Rattle.structure.proofs.Table.{encode-zone}
use Rattle.structure.proofs.Sound.{valid-zone}
use Rattle.structure.proofs.IsZone.{whole_of}
use Rattle.kinds.specs.Kinds.{Item, item_size, header_of, masters_of, master_of}
use Rattle.bay.specs.Bay.{Cell, free, held, bay_size, bay_sum, gap, compact_bay, Hole, fill, put}
use Rattle.bay.specs.Sound.{bytes_of, Sound1}
use Rattle.bay.proofs.Laws.{bsize-append, tidy-size}
use Rattle.zone.specs.Group.{flatten}
use Rattle.zone.specs.Work.{place_low}
use Rattle.zone.proofs.GroupLaws.{flatten-group}
use Rattle.bays.specs.Places.{bays_of}
use Rattle.bays.specs.At.{At}
use Rattle.bays.specs.Slot.{blocks_before, blocks_after, Under}
use Rattle.bays.proofs.At.{at_old, at_new}
use Rattle.bays.proofs.Slots.{plug-at, plug-lowest}
use Rattle.slide.specs.ZoneBay.{bay_cells, ZoneBay, settled}
use Rattle.slide.proofs.One.{set-none}
use Rattle.settle.proofs.Bay.{bay-at}
use Rattle.settle.proofs.Compact.{compact-settled}
use Rattle.settle.proofs.Tidy.{bay-valid, bay-start}
use Rattle.room.specs.place.Fit.{Size, Fit}
use Rattle.room.specs.place.Room.{Room, LowestRoom, Stands}
use Rattle.room.proofs.place.InBay.{regroup, cells-place, room-fit, fill-kept, fill-placed, fill_start}

-- the structure s with the block i in the lowest bay whose sum reaches its size, and the chain ks
abbrev pub with_block : Item → List ℕ → Structure → Structure
with_block i ks s = record { clock = s.clock; chain = ks; blocks = flatten (place_low i (bays_of s)) }

-- ---- in a free block of a bay, by offsets

module _ (c : Structure) (v : Valid c) (before after : List Block) (bay : List Cell) (ps : c.blocks ≡ before ++ (map cell bay ++ after)) (x : Hole) (is : bay ≡ x.before ++ (free x.size ∷ x.after))
    (need : ℕ) (i : Item) (si : item_size i ≡ need) (l : item_size i ≤ x.size) (y : List ℕ) (ey : y ≡ encode c) (at n : ℕ) (ea : at ≡ start c + sizes before + bay_size x.before) (en : n ≡ x.size) where
  fit_at_lem : (h : ℕ) → h + master_size ≤ start c → Size need → Fit y at n need h
  fit_at_lem h m size = rw (ey, ea, en) (room-fit c v before after bay ps x is h need m size (omega arith))

  over_is : n - need ≡ x.size - item_size i
  over_is = omega arith

  -- a block without a master
  bare-at : master_of i ≡ 0 → masters_of i ≡ [] → Sound1 (held i) → overwrite y at (bytes_of (held i ∷ gap (n - need) [])) ≡ encode (record { clock = c.clock; chain = c.chain; blocks = before ++ (map cell (fill i x) ++ after) })
  bare-at m none ok = sym (set-none y at (n - need) i m) ∙ (rw (ey, ea, over_is) (fill-kept c v before after bay ps x is i none ok l))

  -- a block whose master is the chain's head
  linked-at : (ks : List ℕ) → c.chain ≡ masters_of i ++ ks → Sound1 (held i) → (next : ℕ) → next ≡ head_of ks
      → settled (overwrite y chain_at (to_be 2 next)) at (held i ∷ gap (n - need) []) ≡ encode (record { clock = c.clock; chain = ks; blocks = before ++ (map cell (fill i x) ++ after) })
  linked-at ks linked ok next eh = rw (ey, eh, ea, over_is) (fill-placed c v before after bay ps x is i ks linked ok l)

-- ---- in the zone

module _ (z : List ℕ) (need a e at n : ℕ) (t : Bool) (iz : IsZone z) (x : LowestRoom z need a e at n t) (i : Item) (si : item_size i ≡ need) where
  abbrev s : Structure
  s = decode_zone z

  v : Valid s
  v = valid-zone z (whole_of z iz)

  is-z : encode s ≡ z
  is-z = encode-zone z (whole_of z iz)

  blocks-are : s.blocks ≡ flatten (bays_of (decode_zone z))
  blocks-are = sym (flatten-group (start s) s.blocks)

  abbrev before : List Block
  before = blocks_before x.slot

  abbrev after : List Block
  after = blocks_after x.slot

  abbrev bay : List Cell
  bay = x.bay

  -- the bay that gets the new block
  changed : At (put i) (bays_of (decode_zone z)) (place_low i (bays_of (decode_zone z))) before bay after
  changed =
      let n = item_size i in
      let u : Under n x.slot = subst (λ (k : ℕ). Under k x.slot) (sym si) x.under in
      rw (x.bays, plug-lowest n (put i) x.slot x.bay u (le-leb n (bay_sum x.bay) (omega (arith, si, x.enough)))) (plug-at (put i) x.slot x.bay)

  parts : s.blocks ≡ before ++ (map cell bay ++ after)
  parts = blocks-are ∙ at_old changed

  both : ZoneBay z a e × (bay_cells z a e ≡ bay)
  both = bay-at s v before after bay parts z a e is-z x.start_is x.end_is

  pub its-bay : ZoneBay z a e
  its-bay = both.0

  room : Room i bay a at n t
  room = x.room i si

  abbrev hole : Hole
  hole = room.hole

  place_is : at ≡ start s + sizes before + bay_size hole.before
  place_is = omega (arith, room.place, x.start_is)

  -- it lies in the bay
  pub its-end : at + need ≤ e
  its-end = omega (arith, room.place, x.end_is, same t, ap bay_size room.is, bsize-append hole.before (free hole.size ∷ hole.after), room.fits, si)
    where
      same : (u : Bool) → bay_size (cond u (compact_bay bay) bay) ≡ bay_size bay
      same true = tidy-size bay
      same false = refl

  -- what is left is what the call on bays leaves
  blocks-left : before ++ (map cell (fill i hole) ++ after) ≡ flatten (place_low i (bays_of (decode_zone z)))
  blocks-left = ap (λ (cs : List Cell). before ++ (map cell cs ++ after)) (sym room.filled) ∙ sym (at_new changed)

  left : (ks : List ℕ) → encode (record { clock = s.clock; chain = ks; blocks = before ++ (map cell (fill i hole) ++ after) }) ≡ encode (with_block i ks s)
  left ks = ap (λ (bs : List Block). encode (record { clock = s.clock; chain = ks; blocks = bs })) blocks-left

  -- in the bay as it is
  module _ (f : t ≡ false) where
    is-there : bay ≡ hole.before ++ (free hole.size ∷ hole.after)
    is-there = subst (λ (u : Bool). cond u (compact_bay bay) bay ≡ hole.before ++ (free hole.size ∷ hole.after)) f room.is

    pub fit-there : (h : ℕ) → h + master_size ≤ start (decode_zone z) → Size need → Fit z at n need h
    fit-there = fit_at_lem s v before after bay parts hole is-there need i si room.fits z (sym is-z) at n place_is room.size

    pub bare-there : master_of i ≡ 0 → masters_of i ≡ [] → Sound1 (held i) → overwrite z at (bytes_of (held i ∷ gap (n - need) [])) ≡ encode (with_block i (decode_zone z).chain (decode_zone z))
    bare-there m none ok = bare-at s v before after bay parts hole is-there need i si room.fits z (sym is-z) at n place_is room.size m none ok ∙ left s.chain

    pub linked-there : (ks : List ℕ) → (decode_zone z).chain ≡ masters_of i ++ ks → Sound1 (held i) → (next : ℕ) → next ≡ head_of ks
        → settled (overwrite z chain_at (to_be 2 next)) at (held i ∷ gap (n - need) []) ≡ encode (with_block i ks (decode_zone z))
    linked-there ks linked ok next eh =
        linked-at s v before after bay parts hole is-there need i si room.fits z (sym is-z) at n place_is room.size ks linked ok next eh ∙ left ks

    start-there : (ks : List ℕ) → s.chain ≡ masters_of i ++ ks → Sound1 (held i) → start (record { clock = s.clock; chain = ks; blocks = before ++ (map cell (fill i hole) ++ after) }) ≡ start s
    start-there ks linked ok = fill_start s v before after bay parts hole is-there i ks linked ok room.fits

  -- after compacting it
  module _ (f : t ≡ true) where
    abbrev s₁ : Structure
    s₁ = record { clock = s.clock; chain = s.chain; blocks = before ++ (map cell (compact_bay bay) ++ after) }

    is_made : compact_bay bay ≡ hole.before ++ (free hole.size ∷ hole.after)
    is_made = subst (λ (u : Bool). cond u (compact_bay bay) bay ≡ hole.before ++ (free hole.size ∷ hole.after)) f room.is

    v₁ : Valid s₁
    v₁ = bay-valid s v before after bay changed blocks-are

    start₁ : start s₁ ≡ start s
    start₁ = bay-start s v before after bay changed blocks-are

    place₁ : at ≡ start s₁ + sizes before + bay_size hole.before
    place₁ = omega (arith, place_is, start₁)

    start-made : (ks : List ℕ) → s.chain ≡ masters_of i ++ ks → Sound1 (held i) → start (record { clock = s.clock; chain = ks; blocks = before ++ (map cell (fill i hole) ++ after) }) ≡ start s
    start-made ks linked ok = fill_start s₁ v₁ before after (compact_bay bay) refl hole is_made i ks linked ok room.fits ∙ start₁

    module _ (z₁ : List ℕ) (e₁ : z₁ ≡ settled z a (compact_bay (bay_cells z a e))) where
      bytes₁ : z₁ ≡ encode s₁
      bytes₁ =
          e₁ ∙ ap₂ (λ (y : List ℕ) (cs : List Cell). settled y a (compact_bay cs)) (sym is-z) both.1
          ∙ ap (λ (o : ℕ). settled (encode s) o (compact_bay bay)) x.start_is
          ∙ compact-settled s v before after bay parts

      pub fit-made : (h : ℕ) → h + master_size ≤ start (decode_zone z) → Size need → Fit z₁ at n need h
      fit-made h m size =
          fit_at_lem s₁ v₁ before after (compact_bay bay) refl hole is_made need i si room.fits z₁ bytes₁ at n place₁ room.size h (omega (arith, start₁)) size

      pub bare-made : master_of i ≡ 0 → masters_of i ≡ [] → Sound1 (held i) → overwrite z₁ at (bytes_of (held i ∷ gap (n - need) [])) ≡ encode (with_block i (decode_zone z).chain (decode_zone z))
      bare-made m none ok = bare-at s₁ v₁ before after (compact_bay bay) refl hole is_made need i si room.fits z₁ bytes₁ at n place₁ room.size m none ok ∙ left s.chain

      pub linked-made : (ks : List ℕ) → (decode_zone z).chain ≡ masters_of i ++ ks → Sound1 (held i) → (next : ℕ) → next ≡ head_of ks
          → settled (overwrite z₁ chain_at (to_be 2 next)) at (held i ∷ gap (n - need) []) ≡ encode (with_block i ks (decode_zone z))
      linked-made ks linked ok next eh =
          linked-at s₁ v₁ before after (compact_bay bay) refl hole is_made need i si room.fits z₁ bytes₁ at n place₁ room.size ks linked ok next eh ∙ left ks

  -- where it stands
  pub stands : (ks : List ℕ) → (decode_zone z).chain ≡ masters_of i ++ ks → Sound1 (held i) → Stands i (with_block i ks (decode_zone z)) (at + header_of i)
  stands ks linked ok = record {
    front = before ++ map cell hole.before;
    back = map cell (gap (hole.size - item_size i) hole.after) ++ after;
    is = sym blocks-left ∙ regroup before after hole.before (held i ∷ gap (hole.size - item_size i) hole.after);
    place_is = omega (arith, place_is, cells-place before hole.before, ap (λ (bs : List Block). start (record { clock = s.clock; chain = ks; blocks = bs })) blocks-left, go t refl);
  }
    where
      go : (u : Bool) → t ≡ u → start (record { clock = s.clock; chain = ks; blocks = before ++ (map cell (fill i hole) ++ after) }) ≡ start s
      go true q = start-made q ks linked ok
      go false q = start-there q ks linked ok
