-- The block of a handle in its own bay, and the structure in which it has got another size there.
use Rattle.std.specs.Prelude.{◌≡◌, List, ◌∷◌, ◌++◌, true, ℕ, ◌+◌, length}
use Rattle.kinds.specs.Kinds.{Item, header_of, is}
use Rattle.calls.specs.Bays.{Bays, on_lowest}
use Rattle.calls.specs.State.{Fixed, own_sum}
use Rattle.bay.specs.Bay.{Cell, held, bay_size, bay_sum, items, reshape}
use Rattle.bay.specs.Counted.{count}
use Rattle.bay.specs.Ends.{start_free}
use Rattle.structure.specs.Structure.{Block, Structure, sizes, start, decode_zone}
use Rattle.access.specs.Edit.{data_of}
use Rattle.zone.specs.Group.{flatten}
use Rattle.zone.specs.Work.{has}
use Rattle.bays.specs.Places.{bays_of}
use Rattle.bays.specs.At.{At}
use Rattle.structure.specs.IsZone.{IsZone}
use Rattle.block_type.specs.Limits.{reloc_header}

-- the block of handle h has a data bytes, in its own bay
abbrev pub reshaped : ℕ → ℕ → Structure → Structure
reshaped h a s = record { clock = s.clock; chain = s.chain; blocks = flatten (on_lowest (has h) (reshape h a) (bays_of s)) }

-- the one block of handle h: the blocks before its bay, the cells of the bay to its left and right, the blocks behind the bay
pub record Own (h : ℕ) (s : Bays (List Cell) Fixed) : Type 0 where
  pub before : List Block
  pub left : List Cell
  pub mine : Item
  pub right : List Cell
  pub after : List Block
  pub its : is h mine ≡ true
  pub head : header_of mine ≡ reloc_header
  pub first : count (is h) (items left) ≡ 0
  pub only : count (is h) (items right) ≡ 0
  -- its data, and the sum of its bay
  pub bytes : data_of h (flatten s) ≡ mine.bytes
  pub sum : own_sum items bay_sum h s ≡ bay_sum (left ++ (held mine ∷ right))
  -- a change of the bay that has h is a change of this bay
  pub at : (f : List Cell → List Cell) → At f s (on_lowest (has h) f s) before (left ++ (held mine ∷ right)) after

-- its bay
abbrev pub bay_of : {h : ℕ} {s : Bays (List Cell) Fixed} → Own h s → List Cell
bay_of o = o.left ++ (held o.mine ∷ o.right)

-- where its data lie, the first block being at p
abbrev pub data_at : {h : ℕ} {s : Bays (List Cell) Fixed} → ℕ → Own h s → ℕ
data_at p o = p + sizes o.before + bay_size o.left + header_of o.mine

-- in the zone z its b data bytes lie at `at`, and f free bytes follow
pub data Known (z : List ℕ) (h at b f : ℕ) : Type 0 where
  known : IsZone z → (o : Own h (bays_of (decode_zone z))) → at ≡ data_at (start (decode_zone z)) o → b ≡ length o.mine.bytes → f ≡ start_free o.right → Known z h at b f
