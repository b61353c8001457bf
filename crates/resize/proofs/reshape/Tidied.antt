-- The bay of a block that is to grow is compacted, and its master says where the block is then.
use mathlib.Core.Path.{◌≡◌, refl, sym, ap, ap₂, ◌∙◌, subst}
use mathlib.Core.List.{List, [], ◌∷◌, ◌++◌, map}
use mathlib.Core.Bool.{true}
use Prim.Native.Nat.{ℕ, ◌+◌, ◌<◌, ◌≤◌}
use native.Mathlib.Omega.{arith}
use lib.ListN.{length}
use Rattle.format.proofs.Count.{occurs}
use Rattle.structure.proofs.Append.{place-append, occurs-own, occurs-held}
use Rattle.bigendian.specs.BigEndian.{from_be, slice}
use Rattle.block_type.specs.Limits.{reloc_header, master_size, zone_header, longest_zone}
use Rattle.format.proofs.Masters.{Master}
use Rattle.kinds.specs.Kinds.{Item, header_of, item_size, is}
use Rattle.calls.specs.State.{total}
use Rattle.bay.specs.Bay.{Cell, free, held, bay_size, bay_sum, items, gap, packed, compact_bay, reshape}
use Rattle.bay.specs.Sound.{bytes_of, Sound}
use Rattle.bay.proofs.Laws.{tidy-size}
use Rattle.structure.specs.Structure.{Block, cell, Structure, sizes, start, place_of, encode, decode_zone, handles_of}
use Rattle.structure.specs.Valid.{Valid}
use Rattle.structure.proofs.Table.{Whole, encode-zone}
use Rattle.structure.proofs.Sound.{valid-zone}
use Rattle.structure.proofs.Round.{offset-is, next-none, master-is}
use Rattle.zone.specs.Group.{flatten}
use Rattle.zone.proofs.GroupLaws.{flatten-group}
use Rattle.bays.specs.Places.{bays_of}
use Rattle.slide.specs.ZoneBay.{Low, part_of, bay_cells, ZoneBay, settled}
use Rattle.slide.proofs.MasterLaws.{low-is}
use Rattle.settle.proofs.surgery.Sound.{handle-in, handle-once}
use Rattle.settle.proofs.surgery.Replace.{occurs-parts}
use Rattle.settle.proofs.Bay.{cells-sound, part-is, bay-at}
use Rattle.settle.proofs.Compact.{compact-settled}
use Rattle.settle.proofs.Tidy.{bay-valid, bay-start}
use Rattle.resize.specs.reshape.Own.{Own, bay_of}
use Rattle.resize.specs.reshape.Grow.{Laid}
use Rattle.resize.proofs.reshape.Parts.{in-bay}
use Rattle.resize.proofs.reshape.GrownBay.{laid}
use Rattle.resize.proofs.reshape.LaidBay.{laid-is, laid-size, laid-place}
use Rattle.structure.proofs.IsZone.{whole_of}

-- ---- a run of cells of a valid structure in the bytes y, from a to e

module _ (t : Structure) (v : Valid t) (pre post : List Block) (cs : List Cell) (parts : t.blocks ≡ pre ++ (map cell cs ++ post)) (y : List ℕ) (a e : ℕ) (ey : encode t ≡ y) (ea : start t + sizes pre ≡ a) (ee : a + bay_size cs ≡ e) where
  part_at : part_of y a e ≡ bytes_of cs
  part_at = subst (λ (l : List ℕ). part_of l a e ≡ bytes_of cs) ey (subst (λ (k : ℕ). part_of (encode t) a k ≡ bytes_of cs) ee (subst (λ (k : ℕ). part_of (encode t) k (k + bay_size cs) ≡ bytes_of cs) ea (part-is t v pre post cs parts)))

-- the block's master is one of the bay's
cells-have : (h : ℕ) (u : List Cell) (e : Item) (w : List Cell) → is h e ≡ true → 1 ≤ occurs h (handles_of (map cell (u ++ (held e ∷ w))))
unfolding handles_of occurs
cells-have h [] e w q = occurs-own h e (map cell w) q
cells-have h (free n ∷ u) e w q = cells-have h u e w q
cells-have h (held d ∷ u) e w q = omega (arith, cells-have h u e w q, occurs-held h d (map cell (u ++ (held e ∷ w))))

module _ (z : List ℕ) (h from end sum b a : ℕ) (x : Laid z h from end sum b a) where
  w : Whole z
  w = whole_of z x.zone

  abbrev s : Structure
  s = decode_zone z

  pub v : Valid s
  v = valid-zone z w

  abbrev o : Own h (bays_of s)
  o = x.own

  abbrev e : Item
  e = o.mine

  abbrev xs : List Item
  xs = items o.left

  abbrev ys : List Item
  ys = items o.right

  abbrev n : ℕ
  n = bay_sum (bay_of o)

  pub parts : s.blocks ≡ o.before ++ (map cell (bay_of o) ++ o.after)
  parts = in-bay s v h o

  in-zone : ZoneBay z from end × (bay_cells z from end ≡ bay_of o)
  in-zone = bay-at s v o.before o.after (bay_of o) parts z from end (encode-zone z w) x.numbers.start_is x.numbers.end_is

  pub ask-bay : ZoneBay z from end
  ask-bay = in-zone.0

  pub ask-more : b ≤ a
  ask-more = omega (arith, x.grows)

  -- ---- the zone with the bay compacted

  flat : s.blocks ≡ flatten (bays_of s)
  flat = sym (flatten-group (start s) s.blocks)

  abbrev pub s₁ : Structure
  s₁ = record { clock = s.clock; chain = s.chain; blocks = o.before ++ (map cell (compact_bay (bay_of o)) ++ o.after) }

  pub v₁ : Valid s₁
  v₁ = bay-valid s v o.before o.after (bay_of o) (o.at (reshape h a)) flat

  start₁ : start s₁ ≡ start s
  start₁ = bay-start s v o.before o.after (bay_of o) (o.at (reshape h a)) flat

  pub from₁ : start s₁ + sizes o.before ≡ from
  from₁ = omega (arith, start₁, x.numbers.start_is)

  pub tidy : compact_bay (bay_of o) ≡ laid xs e ys n
  tidy = laid-is o.left o.right e

  pub span : end ≡ from + (total xs + (item_size e + (total ys + n)))
  span = omega (arith, x.numbers.end_is, tidy-size (bay_of o), ap bay_size tidy, laid-size xs ys e n)

  pub sound₁ : Sound (laid xs e ys n)
  sound₁ = subst Sound tidy (cells-sound s₁ v₁ o.before o.after (compact_bay (bay_of o)) refl)

  -- ---- its master

  here : (0 < occurs h (handles_of s.blocks)) × (occurs h (handles_of o.before) ≡ 0) × (occurs h s.chain ≡ 0)
  here =
      let q = ap (λ (bs : List Block). occurs h (handles_of bs)) parts ∙ occurs-parts h o.before (map cell (bay_of o)) o.after in
      let l = cells-have h o.left e o.right o.its in
      (omega arith, omega (arith, handle-once s v h), omega (arith, handle-once s v h))

  pub master : Master (start s₁) h
  master =
      let r = offset-is h zone_header _ (handle-in s v h here.0) in
      record { low = r.0; fits = omega (arith, start₁, r.1); four = r.2 }

  place₁ : place_of (is h) (start s₁) s₁.blocks ≡ from + total xs + header_of e
  place₁ =
      place-append h (start s₁) o.before (map cell (compact_bay (bay_of o)) ++ o.after)
      ∙ (rw (here.1, from₁, tidy) (laid-place h from xs e (packed ys (gap n [])) o.after o.first o.its))

  module _ (z₁ : List ℕ) (e₁ : z₁ ≡ settled z from (compact_bay (bay_cells z from end))) where
    pub is₁ : z₁ ≡ encode s₁
    is₁ =
        e₁ ∙ ap (λ (cs : List Cell). settled z from (compact_bay cs)) in-zone.1
        ∙ ap₂ (λ (y : List ℕ) (k : ℕ). settled y k (compact_bay (bay_of o))) (sym (encode-zone z w)) x.numbers.start_is
        ∙ compact-settled s v o.before o.after (bay_of o) parts

    pub end₁ : from + bay_size (compact_bay (bay_of o)) ≡ end
    end₁ = omega (arith, tidy-size (bay_of o), x.numbers.end_is)

    in-zone₁ : ZoneBay z₁ from end × (bay_cells z₁ from end ≡ compact_bay (bay_of o))
    in-zone₁ = bay-at s₁ v₁ o.before o.after (compact_bay (bay_of o)) refl z₁ from end (sym is₁) (sym from₁) (sym end₁)

    pub tidy-bay : ZoneBay z₁ from end
    tidy-bay = in-zone₁.0

    pub part₁ : part_of z₁ from end ≡ bytes_of (laid xs e ys n)
    part₁ = part_at s₁ v₁ o.before o.after (compact_bay (bay_of o)) refl z₁ from end (sym is₁) from₁ end₁ ∙ ap bytes_of tidy

    pub low₁ : Low from (laid xs e ys n)
    low₁ = subst (Low from) (in-zone₁.1 ∙ tidy) (low-is from _ tidy-bay.low)

    pub tidy-short : end ≤ longest_zone
    tidy-short = omega (arith, tidy-bay.inside, tidy-bay.short)

    pub tidy-master : h + master_size ≤ length z₁
    tidy-master = omega (arith, master.fits, from₁, tidy-bay.order, tidy-bay.inside)

    module _ (at : ℕ) (ea : at ≡ from_be (slice z₁ h 4)) where
      pub at_is : at ≡ from + total xs + header_of e
      at_is = ea ∙ ap (λ (y : List ℕ). from_be (slice y h 4)) is₁ ∙ omega (arith, master-is s₁ v₁ h master, place₁, next-none h s.chain here.2)

      pub at_low : from + reloc_header ≤ at
      at_low = omega (arith, at_is)

      pub at_high : at + b + sum ≤ end
      at_high = omega (arith, at_is, span, x.size, x.numbers.sum_is)
