-- What the plan of a resize hands over, and what the call leaves.
use Rattle.std.specs.Prelude.{◌≡◌, Bool, true, false, ◌&&◌, List, ℕ, ◌+◌, ◌-◌, ◌%◌, ◌<◌, ◌≤◌, length}
use Rattle.block_type.specs.Limits.{reloc_header, reloc_limit, up4}
use Rattle.structure.specs.Structure.{Structure, start, decode_zone}
use Rattle.access.specs.Edit.{place_in, data_in, data_of}
use Rattle.calls.specs.Calls.{resize}
use Rattle.calls.specs.Bays.{max_s}
use Rattle.calls.specs.State.{own_sum}
use Rattle.calls.specs.Table.{below, refusal_of}
use Rattle.bay.specs.Bay.{bay_sum, items}
use Rattle.zone.specs.Group.{group, flatten}
use Rattle.zone.specs.Work.{facts, resize_in}
use Rattle.bays.specs.Places.{bays_of}
use Rattle.resize.specs.reshape.Own.{Known}
use Rattle.resize.specs.reshape.Here.{Here}
use Rattle.resize.specs.reshape.Grow.{Laid}
use Rattle.resize.specs.relocate.Relocate.{RelocateIn}
use Rattle.call_laws.specs.Frame.{zone_at}
use Rattle.calls.specs.declared.Refusal.{Refusal}
use Rattle.calls.specs.declared.Refusal.TheVariants.{NoSpace}
use Rattle.resize.specs.declared.Plan.{Plan}
use Rattle.resize.specs.declared.Resizing.{Resizing}
use Rattle.resize.specs.declared.Way.{Way}
use Rattle.resize.specs.declared.Way.TheVariants.{InPlace, OwnBay, OtherBay}

-- the structure with a data bytes in the block of handle h
abbrev pub resized_to : ℕ → ℕ → Structure → Structure
resized_to h a s = record { clock = s.clock; chain = s.chain; blocks = flatten (resize_in h a (data_of h s.blocks) (group (start s) s.blocks)) }

-- "no bay as required" for a data bytes of handle h
abbrev pub no_room : List ℕ → ℕ → ℕ → Bool
no_room z h a = below (own_sum items bay_sum h (bays_of (decode_zone z))) (a - length (data_in z h)) && below (max_s bay_sum (bays_of (decode_zone z))) (reloc_header + a)

-- the block may go that way in the zone z
abbrev pub Goes : List ℕ → Resizing → Way → Type 0
Goes z b (InPlace at behind) = Here z b.handle at b.old_len behind b.new_len
Goes z b (OwnBay bay) = Laid z b.handle bay.start bay.end bay.sum b.old_len b.new_len
Goes z b (OtherBay site) = RelocateIn z b.handle b.old_len b.new_len site.start site.end site.hole.at site.hole.size site.tidy

-- the plan p may be carried out
abbrev pub Going : List ℕ → Plan → Type 0
Going z p = Goes z p.block p.way

-- the block of a live handle, whose data lie at `at`, has no room for its new size where it stands
pub record Lacking (z : List ℕ) (at : ℕ) (b : Resizing) : Type 0 where
  pub live : place_in z b.handle ≡ 0 → ⊥
  pub is_b : b.old_len ≡ length (data_in z b.handle)
  pub behind : ℕ
  pub known : Known z b.handle at b.old_len behind
  pub more : b.old_len + behind < b.new_len
  pub four : b.new_len % 4 ≡ 0
  pub high : b.new_len ≤ reloc_limit

-- a bay has room for it, and so it goes that way
pub record Chosen (z : List ℕ) (b : Resizing) (w : Way) : Type 0 where
  pub room : no_room z b.handle b.new_len ≡ false
  pub goes : Goes z b w

-- none has
pub record Lacks (z : List ℕ) (b : Resizing) (e : Refusal) : Type 0 where
  pub none : no_room z b.handle b.new_len ≡ true
  pub refusal_is : e ≡ NoSpace

-- p is the plan of a resize of h to c data bytes, which nothing refuses
pub record Ready (z : List ℕ) (h c : ℕ) (p : Plan) : Type 0 where
  pub is_handle : p.block.handle ≡ h
  pub is_len : p.block.new_len ≡ up4 c
  pub passed : (buf : ℕ) → refusal_of (resize h c) (facts true (zone_at buf z)) ≡ 0
  pub goes : Going z p
