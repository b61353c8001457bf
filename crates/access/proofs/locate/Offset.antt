-- The data offset of a page: as the definitions of a zone in bays have it, and as the walk from block to block finds it.
use mathlib.Core.Path.{◌≡◌, sym, ap, ap₂, ◌∙◌}
use mathlib.Core.List.{List}
use Prim.Native.Nat.{ℕ, ◌+◌}
use lib.ListN.{length}
use Rattle.block_type.specs.Limits.{first_block}
use Rattle.format.specs.WellFormed.{zone_of}
use Rattle.kinds.specs.Kinds.{has_name}
use Rattle.calls.specs.Calls.{by_name}
use Rattle.calls.specs.State.{master_count}
use Rattle.bay.specs.Bay.{items}
use Rattle.structure.specs.Structure.{Block, Structure, start, place_of, handles_of, decode_zone, decode}
use Rattle.zone.specs.Group.{group, flatten}
use Rattle.zone.specs.Work.{data_offset}
use Rattle.zone.specs.Call.{in_bays, zone_in}
use Rattle.zone.proofs.GroupLaws.{flatten-group}
use Rattle.zone.proofs.Keep.{many-strip}
use Rattle.access.specs.locate.Locate.{target_place}
use Rattle.access.proofs.Among.{name-place}

module _ (n buf : ℕ) (s : Structure) where
  grouped : flatten (group (start s) s.blocks) ≡ s.blocks
  grouped = flatten-group (start s) s.blocks

  masters : master_count items (in_bays buf s) ≡ length (handles_of s.blocks) + length s.chain
  masters = ap (◌+ length s.chain) (sym (many-strip (group (start s) s.blocks)) ∙ ap (λ (bs : List Block). length (handles_of bs)) grouped)

  pub offset-in-bays : data_offset n (in_bays buf s) ≡ place_of (has_name n) (start s) s.blocks
  offset-in-bays = ap₂ (place_of (has_name n)) (ap first_block masters) grouped

pub offset-is : (n : ℕ) (s : List ℕ) → target_place (by_name n) (zone_of s) ≡ data_offset n (zone_in s)
unfolding target_place decode
offset-is n s =
    let d = decode_zone (zone_of s) in
    sym (name-place n (start d) d.blocks) ∙ sym (offset-in-bays n (length s) d)
