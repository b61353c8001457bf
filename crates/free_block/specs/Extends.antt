-- A block of a zone, and the bytes that it coalesces with where it becomes free.
use Rattle.std.specs.Prelude.{◌≡◌, List, ◌∷◌, ◌++◌, ℕ, ◌+◌}
use Rattle.structure.specs.Structure.{Block, size, sizes, start, decode_zone}
use Rattle.structure.specs.IsZone.{IsZone}
use Rattle.slide.specs.declared.blank.Extent.{Extent}
use Rattle.free_block.specs.Around.{last_part, first_part}

-- in the zone z a block lies from `at` up to `end`, between the blocks low and high
pub record BlockIn (z : List ℕ) (at end : ℕ) : Type 0 where
  pub zone : IsZone z
  pub low : List Block
  pub block : Block
  pub high : List Block
  pub parts : (decode_zone z).blocks ≡ low ++ (block ∷ high)
  pub at_is : at ≡ start (decode_zone z) + sizes low
  pub end_is : end ≡ at + size block

-- e is that block with what is free right before it and right behind it
pub record Extends (z : List ℕ) (at end : ℕ) (e : Extent) : Type 0 where
  pub at_is : e.at ≡ at
  pub end_is : e.end ≡ end
  pub from_is : (p : BlockIn z at end) → e.from + last_part 0 p.low ≡ at
  pub to_is : (p : BlockIn z at end) → e.to ≡ end + first_part p.high
