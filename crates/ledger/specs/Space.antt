-- What a ledger says of space and of places: each bay's sum, which of them reaches what is needed of it, and where fixed blocks are.
use Rattle.std.specs.Prelude.{Bool, ◌||◌, List, [], ◌∷◌, ℕ, ◌+◌, ◌-◌, length, leb}
use Rattle.std.proofs.Math.Option.{Option, none, some}
use Rattle.block_type.specs.Limits.{up4, fixed_need, reloc_need, page_need, reloc_header}
use Rattle.calls.specs.Calls.{Call, allocate_relocatable, allocate_fixed, resize, on_page, create_page}
use Rattle.calls.specs.Bays.{last, more}
use Rattle.kinds.specs.Kinds.{Item, is}
use Rattle.calls.specs.State.{get, fsize}
use Rattle.calls.specs.Table.{first, before_no_bay, after_no_bay, causes}
use Rattle.ledger.specs.Ledger.{Bay, Layout, Ledger, sum_of, with_master, strike_out, facts}
use Rattle.calls.specs.Pages.{unlocked}

-- ---- where fixed blocks are

pub record Spot : Type 0 where
  pub place : ℕ
  pub size : ℕ

abbrev pub spot : ℕ → ℕ → Spot
spot p n = record { place = p; size = n }

-- place and size of each, in address order
abbrev pub fixed_spots : Layout → List Spot
fixed_spots (last b) = []
fixed_spots (more b x l) = spot x.place (fsize x) ∷ fixed_spots l

-- each bay's sum, in address order
abbrev pub bay_sums : Layout → List ℕ
bay_sums (last b) = sum_of b ∷ []
bay_sums (more b x l) = sum_of b ∷ bay_sums l

-- ---- the calls that ask for space

pub data Request : Type 0 where
  -- c
  relocatable : ℕ → Request
  fixed : ℕ → Request
  -- handle, c
  resized : ℕ → ℕ → Request
  -- name, c
  page : ℕ → ℕ → Request

abbrev pub call_of : Request → Call
call_of (relocatable c) = allocate_relocatable c
call_of (fixed c) = allocate_fixed c
call_of (resized h c) = resize h c
call_of (page n c) = on_page n (create_page c)

-- ---- "Needed of a bay: what the block needs; in a resize 4 + a, but of its own bay a − b, or 0 for a ≤ b"

-- of the bay in which the handle has the entry, or none
abbrev pub resize_need : ℕ → Option Item → ℕ
resize_need a none = reloc_header + a
resize_need a (some e) = a - length e.bytes

abbrev pub need_of : Request → Bay → ℕ
need_of (relocatable c) b = reloc_need c
need_of (fixed c) b = fixed_need c
need_of (resized h c) b = resize_need (up4 c) (get (is h) b.entries)
need_of (page n c) b = page_need c

-- some bay's sum reaches what is needed of that bay
abbrev pub fits : Request → Layout → Bool
fits q (last b) = leb (need_of q b) (sum_of b)
fits q (more b x l) = leb (need_of q b) (sum_of b) || fits q l

-- the bays as it would find them: "The block's need is tested against the sums after those 32 bytes are taken .. demand 3's "no space" is read with
-- those sums" (document 02, U3); "if dropping all unlocked blocks wouldn't do; demand 3's "no space" is read so for a create" (U5)
abbrev pub bays_for : Request → Ledger → Layout
bays_for (relocatable c) l = (with_master l).bays
bays_for (fixed c) l = l.bays
bays_for (resized h c) l = l.bays
bays_for (page n c) l = (strike_out unlocked l).bays

-- what refuses it earlier in the table's order than "no bay as required"; 0 for nothing
abbrev pub earlier : Request → Ledger → ℕ
earlier q l = first before_no_bay (causes (call_of q) (facts l))

-- and later: only a create has a later cause, 12
abbrev pub later : Request → Ledger → ℕ
later q l = first after_no_bay (causes (call_of q) (facts l))
