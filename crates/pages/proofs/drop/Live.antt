-- The page of a name in the bytes of a zone: where it lies among the blocks, its size, and the zone without it.
use Rattle.std.proofs.Common.{◌≡◌, ℕ, ◌+◌, ◌-◌, ◌≤◌, true, List, ◌∷◌, ◌++◌, map, length, sym, refl, ap, ◌∙◌, subst, append_assoc, arith, w64, Fits}
use Rattle.block_type.specs.Limits.{page_header}
use Rattle.format.specs.Occurs.{occurs}
use Rattle.kinds.specs.Kinds.{Item, header_of, has_name}
use Rattle.kinds.proofs.KindLaws.{name-header}
use Rattle.bay.specs.Bay.{held, bay_size}
use Rattle.calls.specs.Calls.{by_name}
use Rattle.structure.specs.Structure.{Block, cell, Structure, sizes, start, len, decode_zone, names_in}
use Rattle.structure.specs.Valid.{Valid}
use Rattle.structure.proofs.Sound.{valid-zone}
use Rattle.structure.specs.IsZone.{IsZone}
use Rattle.structure.proofs.IsZone.{whole_of}
use Rattle.access.specs.Named.{place_among}
use Rattle.access.specs.locate.Locate.{target_place, target_data}
use Rattle.zone.specs.Group.{group}
use Rattle.zone.proofs.GroupLaws.{flatten-group}
use Rattle.zone.proofs.Grouped.{whole-bays}
use Rattle.free_block.specs.Around.{Around, Freeing}
use Rattle.free_block.specs.Extends.{BlockIn, Extends}
use Rattle.free_block.proofs.Around.{around-same}
use Rattle.free_block.proofs.Own.{own_block}
use Rattle.free_block.proofs.Parts.{lows-sizes}
use Rattle.free_block.proofs.Extends.{held-low, held-word, held-in, held-freeing}
use Rattle.slide.specs.declared.blank.Extent.{Extent}
use Rattle.pages.specs.drop.Ready.{dropped}
use Rattle.pages.proofs.Page.{name-alone, its-place, page-live}

-- its data, where it stands between the blocks lows and highs
module _ (s : Structure) (v : Valid s) {bs' : List Block} {e : Item} (a : Around s.blocks bs' (cell (held e))) (n : ℕ) (its : has_name n e ≡ true) where
  abbrev lows : List Block
  lows = a.pre ++ map cell a.low

  abbrev highs : List Block
  highs = map cell a.high ++ a.post

  parts : s.blocks ≡ lows ++ (cell (held e) ∷ highs)
  parts = a.old ∙ sym (append_assoc a.pre (map cell a.low) (cell (held e) ∷ highs))

  place_here : place_among (by_name n) (start s) s.blocks ≡ start s + (sizes a.pre + bay_size a.low) + header_of e
  place_here =
      let alone = name-alone n lows e highs its (subst (λ (b : List Block). occurs n (names_in b) ≤ 1) parts (v.apart n)) in
      ap (place_among (by_name n) (start s)) parts ∙ its-place n lows e highs its (start s) alone.0 ∙ omega (arith, lows-sizes a)

module _ (z : List ℕ) (i : IsZone z) (n : ℕ) (live : target_place (by_name n) z ≡ 0 → ⊥) where
  abbrev s : Structure
  s = decode_zone z

  v : Valid s
  v = valid-zone z (whole_of z i)

  pub found : (e : Item) × Around s.blocks (dropped n s).blocks (cell (held e)) × (has_name n e ≡ true) × (e.bytes ≡ target_data (by_name n) z)
  unfolding target_place target_data
  found =
      let p = page-live n s live in
      let b = whole-bays (len s) s v (omega arith) in
      let o = own_block (has_name n) p.0 (group (start s) s.blocks) b.sound (b.apart.apart n) p.1 in
      (p.0, around-same (sym (flatten-group (start s) s.blocks)) refl o.0, o.1, p.2)

  abbrev pub page : Item
  page = found.0

  abbrev pub around : Around s.blocks (dropped n s).blocks (cell (held page))
  around = found.1

  pub its : has_name n page ≡ true
  its = found.2

  place_is : target_place (by_name n) z ≡ start s + (sizes around.pre + bay_size around.low) + header_of page
  unfolding target_place
  place_is = place_here s v around n its

  data_is : length (target_data (by_name n) z) ≡ length page.bytes
  data_is = ap length (sym found.3)

-- ---- its extent

module _ (z : List ℕ) (i : IsZone z) (n place : ℕ) (e : place ≡ target_place (by_name n) z) (ne : place ≡ 0 → ⊥) where
  pub live-is : target_place (by_name n) z ≡ 0 → ⊥
  live-is q = ne (e ∙ q)

  abbrev b : Item
  b = page z i n live-is

  abbrev a : Around (decode_zone z).blocks (dropped n (decode_zone z)).blocks (cell (held b))
  a = around z i n live-is

  head : header_of b ≡ page_header
  head = name-header n b (its z i n live-is)

  at_is : place ≡ start (decode_zone z) + (sizes a.pre + bay_size a.low) + header_of b
  at_is = e ∙ place_is z i n live-is

  pub data-low : page_header ≤ place
  data-low = held-low z i (dropped n (decode_zone z)).blocks b a page_header place (length b.bytes) head at_is refl

  module _ (k : ℕ) (ek : k ≡ length (target_data (by_name n) z)) where
    long : k ≡ length b.bytes
    long = ek ∙ data_is z i n live-is

    pub end-word : Fits w64 (place + k)
    end-word = held-word z i (dropped n (decode_zone z)).blocks b a page_header place k head at_is long

    pub block-in : BlockIn z (place - page_header) (place + k)
    block-in = held-in z i (dropped n (decode_zone z)).blocks b a page_header place k head at_is long

    pub freeing-in : (x : Extent) → Extends z (place - page_header) (place + k) x → Freeing z (dropped n (decode_zone z)).blocks (cell (held b)) x.from x.at x.end x.to
    freeing-in x q = held-freeing z i (dropped n (decode_zone z)).blocks b a page_header place k head at_is long x q
