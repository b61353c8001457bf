-- An allocation, a create and a resize to another bay place a block by the one choice.
use mathlib.Core.Path.{◌≡◌, refl, ap, ap₂}
use mathlib.Core.List.{List, []}
use Prim.Native.Nat.{ℕ, ◌-◌}
use native.Mathlib.Nat.{add-zero}
use lib.ListN.{length}
use borrow.Author.Tests.{le-leb, lt-leb}
use Rattle.block_type.specs.Limits.{up4, first_block, added_bytes}
use Rattle.calls.specs.Calls.{by_handle, allocate_relocatable}
use Rattle.calls.specs.Bays.{Bays, last, more, on_first}
use Rattle.calls.specs.State.{Fixed, new_item, data_of, own_sum, live_count}
use Rattle.bay.specs.Bay.{Cell, bay_sum, items, gap, packed_less}
use Rattle.bay.proofs.Choice.{packed-is}
use Rattle.zone.specs.Work.{Zone, work}
use Rattle.zone.specs.OneChoice.{OneChoice, in_lowest, first_gives}

first_gives_lem : (s : Bays (List Cell) Fixed) → on_first (packed_less added_bytes) s ≡ first_gives s
first_gives_lem (last b) = ap last (packed-is (items b) (gap (bay_sum b - added_bytes) []))
first_gives_lem (more b x s) = ap (λ (d : List Cell). more d x s) (packed-is (items b) (gap (bay_sum b - added_bytes) []))

added : (c : ℕ) (z : Zone) → z.chain ≡ [] → (work (allocate_relocatable c) z).next.bays ≡ in_lowest (new_item (first_block (live_count items z)) c) (first_gives z.bays)
added c z q = rw q (ap₂ (λ (m : ℕ) (s : Bays (List Cell) Fixed). in_lowest (new_item (first_block m) c) s) (add-zero (live_count items z)) (first_gives_lem z.bays))

pub one_choice : OneChoice
one_choice = record {
  allocated = λ c h hs z q. rw q;
  added = added;
  moved = λ h c z l. rw (lt-leb (up4 c - length (data_of items (by_handle h) z)) (own_sum items bay_sum h z.bays) l);
  created = λ n c z. refl;
  grown = λ h c z l. rw (le-leb (up4 c - length (data_of items (by_handle h) z)) (own_sum items bay_sum h z.bays) l);
}
