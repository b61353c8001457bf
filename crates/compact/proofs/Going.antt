-- A compaction under way: the bays below an offset are compacted, and those from it on are as they were.
use mathlib.Core.Path.{◌≡◌, sym, ap, ap₂, ◌∙◌, subst}
use mathlib.Core.Bool.{false}
use mathlib.Core.List.{List, ◌∷◌, ◌++◌, map, append_assoc}
use Prim.Native.Nat.{ℕ, ◌+◌, ◌≤◌}
use native.Mathlib.Omega.{arith}
use lib.ListN.{length, drop}
use lib.Seq.{drop-drop, drop_at}
use Rattle.block_type.specs.Limits.{longest_zone}
use Rattle.structure.specs.Structure.{Block, cell, fixed, Structure, sizes, start, join, encode}
use Rattle.structure.specs.Valid.{Valid}
use Rattle.structure.proofs.Round.{rest-is, length-is}
use Rattle.structure.proofs.Append.{sizes-append}
use Rattle.calls.specs.Bays.{Bays}
use Rattle.calls.specs.State.{Fixed}
use Rattle.bay.specs.Bay.{Cell, bay_size, compact_bay}
use Rattle.bay.proofs.Laws.{tidy-size}
use Rattle.access.specs.row.Row.{Sound, blocks_of, bytes_of}
use Rattle.access.proofs.row.Laws.{Front, front, bytes-append, bytes-long, sound-left, sound-right, tiles-join}
use Rattle.zone.specs.Group.{group, flatten}
use Rattle.zone.proofs.Places.{Tiled}
use Rattle.zone.proofs.GroupLaws.{group-flatten}
use Rattle.bays.specs.Places.{bays_at}
use Rattle.slide.specs.ZoneBay.{ZoneBay, bay_cells, settled}
use Rattle.access.proofs.row.Zone.{valid-sound}
use Rattle.settle.proofs.surgery.Sound.{last_free, first_free}
use Rattle.settle.proofs.surgery.Replace.{sizes-parts}
use Rattle.settle.proofs.Cells.{all-sizes}
use Rattle.settle.proofs.Bay.{zone-bay, cells_are}
use Rattle.settle.proofs.Compact.{compact-settled}
use Rattle.settle.proofs.Tidy.{compact-valid, compact-start}

-- z is the bytes of the structure s, whose blocks behind pre are the bays u, from offset `at` on
pub record Stands (s : Structure) (z : List ℕ) (at : ℕ) (pre : List Block) (u : Bays (List Cell) Fixed) : Type 0 where
  pub valid : Valid s
  pub image : z ≡ encode s
  pub parts : s.blocks ≡ pre ++ flatten u
  pub left : last_free false pre ≡ false
  pub place : at ≡ start s + sizes pre
  pub tiled : Tiled at u (length z)

-- the bytes from some block on
module _ (s : Structure) (v : Valid s) (z : List ℕ) (e : z ≡ encode s) (at : ℕ) (pre post : List Block) (parts : s.blocks ≡ pre ++ post) (place : at ≡ start s + sizes pre) where
  sound : Sound (pre ++ post)
  sound = subst Sound parts (valid-sound s v)

  from_bytes : drop at z ≡ bytes_of post
  from_bytes =
      ap₂ (λ (k : ℕ) (y : List ℕ). drop k y) place e
      ∙ sym (drop-drop (sizes pre) (start s) (encode s))
      ∙ ap (drop (sizes pre)) (rest-is s v ∙ ap (λ (bs : List Block). bytes_of bs) parts ∙ bytes-append pre post)
      ∙ drop_at (bytes_of pre) (bytes_of post) (sizes pre) (bytes-long pre (sound-left pre post sound))

  from-blocks : blocks_of (drop at z) ≡ post
  from-blocks = ap blocks_of from_bytes ∙ tiles-join post (sound-right pre post sound)

  from-sound : Sound post
  from-sound = sound-right pre post sound

pub stands-short : {s : Structure} {z : List ℕ} {at : ℕ} {pre : List Block} {u : Bays (List Cell) Fixed} → Stands s z at pre u → length z ≤ longest_zone
stands-short {s} g = omega (arith, ap length g.image, length-is s g.valid, g.valid.short)

-- what a walk meets from there on
pub stands-bays : {s : Structure} {z : List ℕ} {at : ℕ} {pre : List Block} {u : Bays (List Cell) Fixed} → Stands s z at pre u → bays_at z at ≡ u
stands-bays {s} {z} {at} {pre} {u} g = ap (group at) (from-blocks s g.valid z g.image at pre (flatten u) g.parts g.place) ∙ group-flatten g.tiled

-- ---- the bay that begins at `at`

module _ (s : Structure) (v : Valid s) (z : List ℕ) (e : z ≡ encode s) (at : ℕ) (pre post : List Block) (b : List Cell)
    (parts : s.blocks ≡ pre ++ (map cell b ++ post)) (place : at ≡ start s + sizes pre) where
  abbrev t : Structure
  t = record { clock = s.clock; chain = s.chain; blocks = pre ++ (map cell (compact_bay b) ++ post) }

  pub its-bay : ZoneBay z at (at + bay_size b)
  its-bay = rw (e, place) (zone-bay s v pre post b parts)

  pub its-cells : bay_cells z at (at + bay_size b) ≡ b
  its-cells = rw (e, place) (cells_are s v pre post b parts)

  pub packs : (z' : List ℕ) → z' ≡ settled z at (compact_bay b) → z' ≡ encode t
  packs z' q = q ∙ (rw (e, place) (compact-settled s v pre post b parts))

  -- a fixed block behind it
  pub its-fixed : (d : List ℕ) (r : List Block) → post ≡ fixed d ∷ r → Front (fixed d) (drop (at + bay_size b) z) (bytes_of r)
  unfolding join
  its-fixed d r q =
      let mid = pre ++ map cell b in
      let parts' : s.blocks ≡ mid ++ fixed d ∷ r = parts ∙ sym (append_assoc pre (map cell b) post) ∙ ap (mid ++◌) q in
      let place' : at + bay_size b ≡ start s + sizes mid = omega (arith, place, sizes-append pre (map cell b), all-sizes b) in
      front (fixed d) (drop (at + bay_size b) z) (bytes_of r) (from-sound s v z e (at + bay_size b) mid (fixed d ∷ r) parts' place').0 (from_bytes s v z e (at + bay_size b) mid (fixed d ∷ r) parts' place')

  -- where no free block stands on either side
  module _ (l : last_free false pre ≡ false) (r : first_free post ≡ false) where
    pub new-valid : Valid t
    new-valid = compact-valid s v pre post b parts l r

    pub new-long : length (encode t) ≡ length z
    new-long =
        omega (
          arith,
          ap length e,
          length-is s v,
          length-is t new-valid,
          compact-start s v pre post b parts,
          ap sizes parts,
          sizes-parts pre (map cell b) post,
          sizes-parts pre (map cell (compact_bay b)) post,
          all-sizes b,
          all-sizes (compact_bay b),
          tidy-size b,
        )
