-- The records in the order of the masters are those of the zone.
use mathlib.Core.Path.{◌≡◌, refl, ap, sym, ◌∙◌}
use mathlib.Core.Bool.{true}
use mathlib.Core.Option.{Option, some}
use mathlib.Core.List.{List}
use Prim.Native.Nat.{ℕ}
use native.Mathlib.Omega.{arith}
use native.Mathlib.Decide.{ℕ_discrete}
use borrow.Author.Tests.{eq-eqb, ne_eqb}
use lib.ListN.{length}
use Rattle.bigendian.specs.BigEndian.{Bytes}
use Rattle.block_type.specs.Limits.{zone_header}
use Rattle.format.specs.WellFormed.{well_formed, zone_of, count_of, masters_field}
use Rattle.kinds.specs.Kinds.{Item, item}
use Rattle.structure.specs.Structure.{count, decode}
use Rattle.structure.specs.IsZone.{IsZone, is_zone}
use Rattle.structure.proofs.IsZone.{whole_of}
use Rattle.structure.proofs.Table.{count-is}
use Rattle.access.specs.Edit.{place_in, data_in}
use Rattle.access.proofs.locate.Live.{place-gone, place-live}
use Rattle.calls.specs.State.{handles_from, master_count}
use Rattle.bay.specs.Bay.{items}
use Rattle.zone.specs.Work as Work
use Rattle.zone.specs.Call.{zone_in}
use Rattle.zone.proofs.Once.{block_of, Named, unnamed, named}
use Rattle.zone.proofs.Found.{block-named}
use Rattle.zone.proofs.Keep.{Whole, offsets-same, count-line, masters-are}
use Rattle.zone.proofs.Grouped.{line-bays}
use Rattle.zone.proofs.Run.{well-whole}
use Rattle.zone.proofs.Rosters.{cards-same, cards-long}
use Rattle.tell.proofs.CheckLaws.{count-live}
use Rattle.tell.specs.roster.Listed.{block_in, live_cards, all_cards}

module _ (s : List ℕ) (y : Bytes s) (h : well_formed s ≡ true) where
  pub zone-is : IsZone (zone_of s)
  zone-is = is_zone s y h refl

  w : Whole (zone_in s)
  w = well-whole s y h

  masters-of : w.m ≡ masters_field (zone_of s)
  unfolding decode
  masters-of = sym (count-line (zone_in s) w) ∙ ap count (line-bays (length s) (decode s)) ∙ count-is (zone_of s) (whole_of (zone_of s) zone-is)

  -- a handle's block by its place, and in the bays
  block_same : (k : ℕ) → block_in (zone_of s) k ≡ block_of k (zone_in s).bays
  unfolding decode place_in data_in
  block_same k = go (ℕ_discrete (place_in (zone_of s) k) 0)
    where
      its : {o : Option Item} {e : Item} → Named k o → o ≡ some e → item k e.bytes ≡ e
      its unnamed q = let x : ◌≡◌ {A = ℕ} 0 1 = cc in absurd (omega arith)
      its named q = cc

      go : Dec (place_in (zone_of s) k ≡ 0) → block_in (zone_of s) k ≡ block_of k (zone_in s).bays
      go (yes q) = rw (eq-eqb _ _ q) (sym (place-gone k (decode s) q))
      go (no q) =
          let f = place-live k (decode s) q in
          rw (ne_eqb _ _ q) (ap some (ap (item k) (sym f.2) ∙ its (block-named k (zone_in s).bays) f.1) ∙ sym f.1)

  pub all-cards : all_cards (zone_of s) ≡ Work.cards (zone_in s)
  unfolding all_cards live_cards
  all-cards =
      ap (Work.cards_of (block_in (zone_of s))) (sym (offsets-same zone_header (masters_field (zone_of s))) ∙ ap (handles_from zone_header) (sym masters-of ∙ sym (masters-are (zone_in s) w)))
      ∙ cards-same _ _ block_same (handles_from zone_header (master_count items (zone_in s)))

  pub how-many : length (Work.cards (zone_in s)) ≡ count_of s
  how-many = cards-long (zone_in s) w ∙ sym (count-live s y h)
