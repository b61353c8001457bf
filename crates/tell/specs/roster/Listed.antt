-- A roster: the records in the order in which the masters stand, and what the parts of its code promise.
use Rattle.std.specs.Prelude.{◌≡◌, cond, List, ◌∷◌, ℕ, ◌+◌, ◌*◌, ◌≤◌, length, eqb}
use Rattle.std.proofs.Math.Option.{Option, none, some}
use Rattle.bigendian.specs.BigEndian.{overwrite}
use Rattle.block_type.specs.Limits.{record_size, zone_header}
use Rattle.format.specs.WellFormed.{masters_field, offsets}
use Rattle.kinds.specs.Kinds.{Item, item}
use Rattle.access.specs.Edit.{place_in, data_in}
use Rattle.calls.specs.Roster.{Card, card_bytes}
use Rattle.zone.specs.Work as Work

-- the block of handle h in the zone z
abbrev pub block_in : List ℕ → ℕ → Option Item
block_in z h = cond (eqb (place_in z h) 0) none (some (item h (data_in z h)))

-- the records of those of the handles hs that are live in the zone z
unfoldable pub live_cards : List ℕ → List ℕ → List Card
live_cards z hs = Work.cards_of (block_in z) hs

unfoldable pub all_cards : List ℕ → List Card
all_cards z = live_cards z (offsets zone_header (masters_field z))

-- the buffer y, with the next record at r, is the buffer s after the record of handle h at `at`, if h is live
pub record Entered (z s : List ℕ) (at h : ℕ) (y : List ℕ) (r : ℕ) : Type 0 where
  pub long : length y ≡ length s
  pub left : (hs : List ℕ) → r + record_size * length (live_cards z hs) ≡ at + record_size * length (live_cards z (h ∷ hs))
  pub same : (hs : List ℕ) → at + record_size * length (live_cards z (h ∷ hs)) ≤ length s → overwrite y r (card_bytes (live_cards z hs)) ≡ overwrite s at (card_bytes (live_cards z (h ∷ hs)))
